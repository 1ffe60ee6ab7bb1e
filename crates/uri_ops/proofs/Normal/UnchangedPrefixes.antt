-- Texts whose bytes up to the end of the host are unchanged: so are the scheme and the host.
use Rattle.uri_ops.proofs.Common.{common_steps, ◌≡◌, ℕ, ◌+◌, ◌<◌, ◌≤◌, ◌||◌, Bool, true, not, List, [], ◌∷◌, ◌++◌, length, get_or, take, refl, sym, ap, ◌∙◌, append-nil, option_map, arith, codes, Option, Some, None, IfSome, unwrap_or, list_all, str_to_ascii_lowercase, take-append-add, agree_below_at, not-true, nat_tests, get_or-take, length-append, length-take-le, take-take, All-from_get_or, list_all-append, list_all-from_AllPass, lacks, authority_parts, recompose_authority, Components, components, recompose-components, marked, packed, authority_at, delimited_length, host_end_of, positions_of, IsUnchangedHost, is_literal_byte, is_unchanged_host_byte, normal_scheme}
use Rattle.uri_pct.specs.Masks.{has_bit}
use Rattle.uri_pct.specs.Models.ByteRuns.{IsLongestRun}
use Rattle.uri_pct.proofs.Offered.{has_bit-only-ascii}
use Rattle.uri_ops.specs.declared.normalize.unchanged.TheConstants.{UNCHANGED_HIGH, UNCHANGED_LOW}
use Rattle.uri_ops.proofs.Normal.WrittenPlaces.{length-with-delimiter-after}

-- unchanged bytes: normalising leaves each byte of the text, as one of a scheme or a host
abbrev pub has_unchanged_host_bytes : List ℕ → Bool
has_unchanged_host_bytes text = list_all is_unchanged_host_byte text

unchanged-masks-have-unchanged-bytes : (b : ℕ) → has_bit UNCHANGED_LOW UNCHANGED_HIGH b ≡ true
    → is_unchanged_host_byte b ≡ true
unfolding has_bit
unchanged-masks-have-unchanged-bytes b e =
    let agrees : (not (has_bit UNCHANGED_LOW UNCHANGED_HIGH b) || is_unchanged_host_byte b) ≡ true =
    agree_below_at (λ c. not (has_bit UNCHANGED_LOW UNCHANGED_HIGH c) || is_unchanged_host_byte c)
    (λ _. true) 128 b refl (has_bit-only-ascii UNCHANGED_LOW UNCHANGED_HIGH b e) in
    sym (ap (λ x. not x || is_unchanged_host_byte b) e) ∙ agrees

pub run-of-unchanged-bytes-is-unchanged-prefix : (bytes window : List ℕ) (limit end last : ℕ)
    → window ≡ take limit bytes → end ≤ limit → end ≤ length bytes
    → IsLongestRun (has_bit UNCHANGED_LOW UNCHANGED_HIGH) window 0 last → end ≤ last
    → has_unchanged_host_bytes (take end bytes) ≡ true
run-of-unchanged-bytes-is-unchanged-prefix bytes window limit end last same within inside run over =
    let prefix = take end bytes in
    let whole : take end window ≡ prefix = ap (take end) same ∙ take-take end limit bytes within in
    let long : length prefix ≡ end = length-take-le end bytes inside in
    list_all-from_AllPass is_unchanged_host_byte prefix
    (All-from_get_or (λ b. is_unchanged_host_byte b ≡ true) prefix 0 (λ k h.
    let before : k < end = omega (arith, h, long) in
    unchanged-masks-have-unchanged-bytes (get_or prefix k 0)
    (ap (λ x. has_bit UNCHANGED_LOW UNCHANGED_HIGH (get_or x k 0)) (sym whole)
    ∙ ap (has_bit UNCHANGED_LOW UNCHANGED_HIGH) (get_or-take end window k 0 before)
    ∙ run.pass k (omega arith) (omega (arith, before, over)))))

-- unchanged bytes: the bytes of the two masks begin neither octets nor formatting characters
unchanged-masks-have-literal-bytes : (b : ℕ) → has_bit UNCHANGED_LOW UNCHANGED_HIGH b ≡ true
    → is_literal_byte b ≡ true
unfolding has_bit
unchanged-masks-have-literal-bytes b e = grind (arith, has_bit-only-ascii)

-- unchanged bytes: nor do those of a run of the set, in a window of a text
pub run-of-unchanged-bytes-is-literal : (bytes window : List ℕ) (limit end last : ℕ)
    → window ≡ take limit bytes → end ≤ limit
    → IsLongestRun (has_bit UNCHANGED_LOW UNCHANGED_HIGH) window 0 last → end ≤ last
    → (k : ℕ) → k < end → is_literal_byte (get_or bytes k 0) ≡ true
run-of-unchanged-bytes-is-literal bytes window limit end last same within run over k h =
    grind (arith, common_steps, unchanged-masks-have-literal-bytes)

pub unchanged_bytes_are_lower : (text : List ℕ) → has_unchanged_host_bytes text ≡ true
    → str_to_ascii_lowercase text ≡ text
unchanged_bytes_are_lower [] e = refl
unchanged_bytes_are_lower (b ∷ text) e =
    grind (arith, common_steps, (unchanged_bytes_are_lower text))

-- unchanged bytes: an unchanged text has no `%` (37)
unchanged-bytes-lack-percent : (text : List ℕ) → has_unchanged_host_bytes text ≡ true
    → lacks 37 text ≡ true
unchanged-bytes-lack-percent [] e = refl
unchanged-bytes-lack-percent (b ∷ text) e =
    grind (arith, common_steps, (unchanged-bytes-lack-percent text))

pub host_of_unchanged_bytes_is_unchanged : (host : List ℕ) → has_unchanged_host_bytes host ≡ true
    → IsUnchangedHost host
host_of_unchanged_bytes_is_unchanged host e =
    grind (arith, unchanged_bytes_are_lower, unchanged-bytes-lack-percent, nat_tests, not-true)

-- unchanged bytes: an unchanged prefix of two texts has the first text, and a prefix of the
-- second
unchanged-prefix-splits : (n : ℕ) (xs ys : List ℕ)
    → has_unchanged_host_bytes (take (length xs + n) (xs ++ ys)) ≡ true
    → (has_unchanged_host_bytes xs ≡ true) × (has_unchanged_host_bytes (take n ys) ≡ true)
unchanged-prefix-splits n xs ys e = grind (arith, nat_tests, list_all-append, take-append-add)

scheme-of-unchanged-bytes-is-unchanged : (scheme : Option (List ℕ))
    → has_unchanged_host_bytes (marked [] scheme (codes ":")) ≡ true → normal_scheme scheme ≡ scheme
scheme-of-unchanged-bytes-is-unchanged scheme e =
    grind (arith, common_steps, unchanged_bytes_are_lower, list_all-append)

unchanged-prefix-of-authority-has-its-host : (a rest : List ℕ)
    → recompose_authority (authority_parts a) ≡ a → has_unchanged_host_bytes (take (host_end_of a)
    (a ++ rest)) ≡ true → has_unchanged_host_bytes (authority_parts a).host ≡ true
unchanged-prefix-of-authority-has-its-host a rest whole e =
    grind (arith, common_steps, length-with-delimiter-after, unchanged-prefix-splits)

-- unchanged bytes: where the host of these components ends in their text, or 0
abbrev end_of_host : Option (List ℕ) → Option (List ℕ) → ℕ
end_of_host scheme authority = unwrap_or (option_map (λ a. a.host_end)
    (option_map (authority_at (delimited_length 1 scheme + 2)) authority)) 0

pub unchanged-prefix-has-unchanged-scheme-and-host :
    (scheme authority : Option (List ℕ)) (rest : List ℕ) → ((a : List ℕ) → authority ≡ Some a
    → recompose_authority (authority_parts a) ≡ a) → 0 < end_of_host scheme authority
    → has_unchanged_host_bytes (take (end_of_host scheme authority) (marked [] scheme (codes ":")
    ++ (marked (codes "//") authority [] ++ rest))) ≡ true → (normal_scheme scheme ≡ scheme)
    × IfSome authority (λ a. IsUnchangedHost (authority_parts a).host)
unchanged-prefix-has-unchanged-scheme-and-host scheme None rest whole some e =
    absurd (omega (arith, some))
unchanged-prefix-has-unchanged-scheme-and-host scheme (Some a) rest whole some e =
    let first = marked [] scheme (codes ":") in
    let long = length-with-delimiter-after scheme 58 in
    let count : end_of_host scheme (Some a) ≡ length first + (2 + host_end_of a) =
    omega (arith, long) in
    let parts = unchanged-prefix-splits
    (2 + host_end_of a) first ((codes "//" ++ (a ++ [])) ++ rest) (ap (λ n. has_unchanged_host_bytes
    (take n (first ++ ((codes "//" ++ (a ++ [])) ++ rest)))) (sym count) ∙ e) in
    let plain : (codes "//" ++ (a ++ [])) ++ rest ≡ codes "//" ++ (a ++ rest) =
    ap (λ x. (codes "//" ++ x) ++ rest) (append-nil a) in
    let authority = (unchanged-prefix-splits (host_end_of a) (codes "//") (a ++ rest)
    (ap (λ x. has_unchanged_host_bytes (take (2 + host_end_of a) x)) (sym plain) ∙ parts.1)).1 in (
      scheme-of-unchanged-bytes-is-unchanged scheme parts.0,
      host_of_unchanged_bytes_is_unchanged (authority_parts a).host
          (unchanged-prefix-of-authority-has-its-host a rest (whole a refl) authority),
    )

pub host-ends-before-path : (p : Components)
    → ((a : List ℕ) → p.authority ≡ Some a → recompose_authority (authority_parts a) ≡ a)
    → (packed (positions_of p)).host_end ≤ (positions_of p).path_start
host-ends-before-path p whole =
    grind (arith, common_steps, whole, length-with-delimiter-after, length-append)

-- unchanged bytes: the host of a text ends in it
pub host-ends-in-text : (text : List ℕ) → (host_end : ℕ)
    → host_end ≡ (packed (positions_of (components text))).host_end
    → ((a : List ℕ) → (components text).authority ≡ Some a
    → recompose_authority (authority_parts a) ≡ a) → host_end ≤ length text
host-ends-in-text text host_end is whole =
    let before = host-ends-before-path (components text) whole in
    let long = ap length (recompose-components text) in
    grind (arith, common_steps, length-with-delimiter-after, length-append)
