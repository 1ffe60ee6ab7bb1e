-- Bytes that are written to positions of a buffer.
use Rattle.uri_mend.proofs.Common.{◌≡◌, ℕ, zero, suc, ◌+◌, ◌*◌, ◌≤◌, List, [], ◌∷◌, ◌++◌, length, take, drop, map, ap, refl, sym, ◌∙◌, append_assoc, arith, put_chunk, take-add, take-append-add, take-nil, length-take-le, map-append, take-append-le, take-take, put_chunk_is, Octet, print, text_of_token, print-append}

-- buffers: of a block that is written at a position, the first n bytes follow what is before it
pub prefix-of-placed-block : (at n : ℕ) (out block : List ℕ) → at + length block ≤ length out
    → n ≤ length block → take (at + n) (put_chunk at out block) ≡ take at out ++ take n block
prefix-of-placed-block at n out block room few =
    let suffix = drop (length block) (drop at out) in
    let size : length (take at out) ≡ at = length-take-le at out (omega (arith, room)) in
    ap (take (at + n)) (put_chunk_is at out block room)
    ∙ ap (λ k. take (k + n) (take at out ++ (block ++ suffix))) (sym size)
    ∙ take-append-add (take at out) (block ++ suffix) n
    ∙ ap (λ t. take at out ++ t) (take-append-le n block suffix few)

pub octets-of-more-bytes : (n m : ℕ) (bytes out : List ℕ)
    → (out ++ print (map Octet (take n bytes))) ++ print (map Octet (take m (drop n bytes)))
    ≡ out ++ print (map Octet (take (n + m) bytes))
octets-of-more-bytes n m bytes out = grind (arith, append_assoc, take-add, map-append, print-append)

octets-of-first-bytes : (n : ℕ) (bytes : List ℕ)
    → take (3 * n) (print (map Octet bytes)) ≡ print (map Octet (take n bytes))
octets-of-first-bytes zero bytes = refl
octets-of-first-bytes (suc n) [] = take-nil (3 * suc n)
octets-of-first-bytes (suc n) (b ∷ bytes) =
    let three : 3 * suc n ≡ length (text_of_token (Octet b)) + 3 * n = omega arith in
    ap (λ k. take k (text_of_token (Octet b) ++ print (map Octet bytes))) three
    ∙ take-append-add (text_of_token (Octet b)) (print (map Octet bytes)) (3 * n)
    ∙ ap (λ t. text_of_token (Octet b) ++ t) (octets-of-first-bytes n bytes)

-- octets: where those of n bytes are written, so are those of fewer
pub octets-of-fewer-bytes : (m n start : ℕ) (bytes before out : List ℕ) → m ≤ n
    → length before ≡ start → take (start + 3 * n) out ≡ before ++ print (map Octet (take n bytes))
    → take (start + 3 * m) out ≡ before ++ print (map Octet (take m bytes))
octets-of-fewer-bytes m n start bytes before out few size written =
    let all : List ℕ = print (map Octet (take n bytes)) in
    sym (take-take (start + 3 * m) (start + 3 * n) out (omega arith))
    ∙ ap (take (start + 3 * m)) written ∙ ap (λ k. take (k + 3 * m) (before ++ all)) (sym size)
    ∙ take-append-add before all (3 * m) ∙ ap (λ t. before ++ t)
    (octets-of-first-bytes m (take n bytes)
    ∙ ap (λ t. print (map Octet t)) (take-take m n bytes few))
