-- Texts without octets and without characters past ASCII, such as schemes, and the same in lower
-- case.
use Rattle.uri_ops.proofs.Common.{◌≡◌, ℕ, zero, suc, Bool, true, false, eqb, ltb, List, [], ◌∷◌, refl, sym, ap, ◌∙◌, arith, slice_index, is_ascii_alphabetic, to_ascii_lowercase, list_all, IsUtf8, IsAscii, str_to_ascii_lowercase, IsUtf8-from_ascii, lowercase_ascii, lowercase-lowercase, and_left, and_right, and_from, cond-false, eqb-true, both_ways, false_from_ne_true, and_parts, cond-true, lt-ltb, ltb-true, nat_tests, TableSet, LacksPercent, is_scheme_char, valid_from, validity_by_first_byte, validity_of_tokens_is_validity_of_bytes, ascii_first_byte_is_allowed_iff_in_set, is_scheme, common_steps}
pub use Rattle.uri_parts.proofs.Offered.{is_ascii_in, valid_ascii_text}
use Rattle.uri_ops.proofs.Meanings.AllowedParts.{is_set_text, set-text-from-utf8}

ascii-in-test-is-ascii : (test : ℕ → Bool) (text : List ℕ) → list_all (is_ascii_in test) text ≡ true
    → IsAscii text
ascii-in-test-is-ascii test [] e i = omega arith
ascii-in-test-is-ascii test (b ∷ bs) e zero =
    ltb-true b 128 (and_parts (ltb b 128) (test b) (and_parts (is_ascii_in test b) _ e).0).0
ascii-in-test-is-ascii test (b ∷ bs) e (suc i) = ascii-in-test-is-ascii test bs
    (and_parts (is_ascii_in test b) _ e).1 i

-- meanings of schemes: ASCII characters that pass a test are UTF-8
pub ascii-in-test-is-utf8 : (test : ℕ → Bool) (text : List ℕ)
    → list_all (is_ascii_in test) text ≡ true → IsUtf8 text
ascii-in-test-is-utf8 test text e = IsUtf8-from_ascii text (ascii-in-test-is-ascii test text e)

-- meanings of schemes: the test that every character passes
any_char : ℕ → Bool
any_char c = true

ascii-bytes-are-ascii-in-any_char : (text : List ℕ) → list_all (λ c. ltb c 128) text ≡ true
    → list_all (is_ascii_in any_char) text ≡ true
unfolding any_char
ascii-bytes-are-ascii-in-any_char [] e = refl
ascii-bytes-are-ascii-in-any_char (c ∷ text) e = let p = and_parts _ _ e in
    and_from _ _ (and_from _ true p.0 refl) (ascii-bytes-are-ascii-in-any_char text p.1)

pub ascii-bytes-are-ascii-text : (text : List ℕ) → list_all (λ c. ltb c 128) text ≡ true
    → IsAscii text
ascii-bytes-are-ascii-text text e = ascii-in-test-is-ascii any_char text
    (ascii-bytes-are-ascii-in-any_char text e)

-- meanings of schemes: a text of ASCII bytes is UTF-8
pub ascii-bytes-are-utf8 : (text : List ℕ) → list_all (λ c. ltb c 128) text ≡ true → IsUtf8 text
ascii-bytes-are-utf8 text e = ascii-in-test-is-utf8 any_char text
    (ascii-bytes-are-ascii-in-any_char text e)

ascii-in-test-is-valid-for-set : (set : TableSet) (test : ℕ → Bool) → test 37 ≡ false
    → ((c : ℕ) → test c ≡ true → set.ascii c ≡ true) → (bs : List ℕ)
    → list_all (is_ascii_in test) bs ≡ true → valid_from set 0 bs ≡ true
unfolding valid_from
ascii-in-test-is-valid-for-set set test lacks within [] e = refl
ascii-in-test-is-valid-for-set set test lacks within (b ∷ bs) e =
    let p = and_parts (is_ascii_in test b) (list_all (is_ascii_in test) bs) e in
    let q = and_parts (ltb b 128) (test b) p.0 in
    let low = ltb-true b 128 q.0 in
    let other : eqb b 37 ≡ false =
    false_from_ne_true _ (λ h. both_ways _ lacks (ap test (sym (eqb-true b 37 h)) ∙ q.1)) in
    validity_by_first_byte set b bs ∙ cond-false _ _ _ (and_left _ _ (and_right _ _ other))
    ∙ and_from _ _ (ascii_first_byte_is_allowed_iff_in_set set b bs low ∙ within b q.1)
    (ap (λ n. valid_from set n bs) (cond-true _ _ _ (lt-ltb b 128 low))
    ∙ ascii-in-test-is-valid-for-set set test lacks within bs p.1)

-- meanings of schemes: ASCII characters that pass a test are valid for a set that has them all
pub ascii-in-test-is-set-text : (set : TableSet) (test : ℕ → Bool)
    → LacksPercent set → test 37 ≡ false → ((c : ℕ) → test c ≡ true → set.ascii c ≡ true)
    → (text : List ℕ) → list_all (is_ascii_in test) text ≡ true → is_set_text set text ≡ true
ascii-in-test-is-set-text set test percent lacks within text e =
    grind (
      arith,
      ascii-in-test-is-utf8,
      set-text-from-utf8,
      validity_of_tokens_is_validity_of_bytes,
      ascii-in-test-is-valid-for-set,
    )

pub ascii-passes-wider-test : (test wide : ℕ → Bool) → ((c : ℕ) → test c ≡ true → wide c ≡ true)
    → (text : List ℕ) → list_all (is_ascii_in test) text ≡ true
    → list_all (is_ascii_in wide) text ≡ true
ascii-passes-wider-test test wide within [] e = refl
ascii-passes-wider-test test wide within (c ∷ text) e =
    grind (arith, common_steps, test, within, (ascii-passes-wider-test test wide within text))

pub lowered-ascii-passes-test : (test : ℕ → Bool) → ((c : ℕ) → test c ≡ true
    → test (to_ascii_lowercase c) ≡ true) → (text : List ℕ) → list_all (is_ascii_in test) text
    ≡ true → list_all (is_ascii_in test) (str_to_ascii_lowercase text) ≡ true
lowered-ascii-passes-test test keeps [] e = refl
lowered-ascii-passes-test test keeps (c ∷ text) e =
    let p = and_parts (is_ascii_in test c) (list_all (is_ascii_in test) text) e in
    let q = and_parts (ltb c 128) (test c) p.0 in
    and_from _ _ (and_from _ _ (lt-ltb _ 128 (lowercase_ascii c (ltb-true c 128 q.0)))
    (keeps c q.1)) (lowered-ascii-passes-test test keeps text p.1)

-- meanings of schemes and hosts: lower case twice is lower case once
pub lowering-is-idempotent : (text : List ℕ)
    → str_to_ascii_lowercase (str_to_ascii_lowercase text) ≡ str_to_ascii_lowercase text
lowering-is-idempotent [] = refl
lowering-is-idempotent (c ∷ text) = cc (lowercase-lowercase c, lowering-is-idempotent text)

pub lowered-scheme-character-is-scheme-character : (c : ℕ) → is_scheme_char c ≡ true
    → is_scheme_char (to_ascii_lowercase c) ≡ true
lowered-scheme-character-is-scheme-character c e = grind (arith, nat_tests)

pub lowered-text-keeps-leading-letter : (text : List ℕ) → is_ascii_alphabetic (slice_index text 0)
    ≡ true → is_ascii_alphabetic (slice_index (str_to_ascii_lowercase text) 0) ≡ true
lowered-text-keeps-leading-letter text e = grind (arith, common_steps, e)

-- meanings of schemes: `%` (37) is not a character of a scheme
pub percent-is-no-scheme-character : is_scheme_char 37 ≡ false
percent-is-no-scheme-character = refl

-- meanings of schemes: a scheme in lower case is UTF-8
pub lowered-scheme-is-utf8 : (text : List ℕ) → IsUtf8 text → is_scheme text ≡ true
    → IsUtf8 (str_to_ascii_lowercase text)
lowered-scheme-is-utf8 text u e =
    let p = and_parts (is_ascii_alphabetic (slice_index text 0)) _ e in
    ascii-in-test-is-utf8 is_scheme_char (str_to_ascii_lowercase text)
    (lowered-ascii-passes-test is_scheme_char lowered-scheme-character-is-scheme-character text
    (sym (valid_ascii_text is_scheme_char percent-is-no-scheme-character text u) ∙ p.1))
