use Rattle.uri_mend.proofs.Common.{◌≡◌, ℕ, zero, suc, ◌/◌, ◌%◌, List, [], ◌∷◌, length, get_or, drop, map, refl, sym, ap, ◌∙◌, arith, true, Octet, print}
use Rattle.std.specs.Fmt.{digit_glyph}
use Rattle.uri_mend.proofs.octets.octets_of_digits.Goals as goal

-- general fact on lists, for octets: the first n items, each read from the list
read : ℕ → List ℕ → List ℕ
read zero v = []
read (suc n) v = get_or v 0 0 ∷ read n (drop 1 v)

list-is-read : (n : ℕ) (v : List ℕ) → length v ≡ n → v ≡ read n v
unfolding read
list-is-read zero [] e = refl
list-is-read zero (x ∷ v) e = absurd (omega arith)
list-is-read (suc n) [] e = absurd (omega arith)
list-is-read (suc n) (x ∷ v) e = ap (λ t. x ∷ t) (list-is-read n v (omega arith))

pub returns-clause-octets : goal.returns-clause-octets
unfolding read
returns-clause-octets c bytes long first second =
    let same = list-is-read 16 bytes long in
    let e : c.args.first ≡ map (λ b. digit_glyph true (b / 16)) (read 16 bytes) =
    first ∙ ap (map (λ b. digit_glyph true (b / 16))) same in
    let f : c.args.second ≡ map (λ b. digit_glyph true (b % 16)) (read 16 bytes) =
    second ∙ ap (map (λ b. digit_glyph true (b % 16))) same in
    rw (e, f) (sym (ap (λ v. print (map Octet v)) same))
