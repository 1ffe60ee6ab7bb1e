-- Formatting characters of bidirectional text as octets: what that keeps.
use Rattle.uri_pct.proofs.Common.{◌≡◌, ℕ, ◌<◌, ◌≤◌, Bool, true, false, List, [], ◌∷◌, ◌++◌, map, refl, ap, ◌∙◌, arith, ◌&&◌, IsScalar, encode_utf8, to_ascii_lowercase, is_in_range, list_all, list_any, map-append, flat_map-append, list_all-append, cond-false, and_parts, and_from, or_right, nat_tests, TableSet, is_ucschar, allows_past_ascii, Token, Char, Octet, bytes_decoded_from, allows_token, is_printable, is_decodable, lower_token, is_bidi_formatting, is_never_literal, formatting_as_octets, is_literal_formatting, encode_formatting}
use Rattle.uri_pct.proofs.EncodedTexts.EncodedTokens.{octets_of_bytes_are_printable, octets_are_allowed_if_pct_encoded, utf8_bytes_are_eight_bit}
use Rattle.uri_pct.proofs.EncodedTexts.Encodings.{octets_decode_to_their_bytes}

-- unreserved octets: a formatting character is from U+00A0 to U+D7FF
formatting_char_is_from_a0_to_d7ff : (c : ℕ) → is_bidi_formatting c ≡ true
    → is_in_range 0xA0 0xD7FF c ≡ true
unfolding is_bidi_formatting
formatting_char_is_from_a0_to_d7ff c e = grind (arith, nat_tests)

formatting_char_is_ucschar : (c : ℕ) → is_bidi_formatting c ≡ true → is_ucschar c ≡ true
unfolding is_ucschar
formatting_char_is_ucschar c e = rw (formatting_char_is_from_a0_to_d7ff c e) refl

formatting_char_is_scalar_past_ascii : (c : ℕ) → is_bidi_formatting c ≡ true → (128 ≤ c)
    × IsScalar c
unfolding is_bidi_formatting
formatting_char_is_scalar_past_ascii c e = (grind (arith, nat_tests), grind (arith, nat_tests))

never_literal_char_is_formatting_in_set_with_flags : (set : TableSet) (c : ℕ)
    → is_never_literal set c ≡ true
    → (set.ucschar ≡ true) × ((set.pct_encoded ≡ true) × (is_bidi_formatting c ≡ true))
unfolding is_never_literal
never_literal_char_is_formatting_in_set_with_flags set c e =
    let p = and_parts (set.ucschar && set.pct_encoded) (is_bidi_formatting c) e in
    let q = and_parts set.ucschar set.pct_encoded p.0 in
    (q.0, (q.1, p.1))

pub never_literal_char_is_scalar_past_ascii : (set : TableSet) (c : ℕ)
    → is_never_literal set c ≡ true → (128 ≤ c) × IsScalar c
never_literal_char_is_scalar_past_ascii set c e = formatting_char_is_scalar_past_ascii c
    (never_literal_char_is_formatting_in_set_with_flags set c e).1.1

pub never_literal_char_is_decodable : (set : TableSet) (c : ℕ) → is_never_literal set c ≡ true
    → is_decodable set c ≡ true
unfolding is_decodable allows_past_ascii
never_literal_char_is_decodable set c e =
    let p = never_literal_char_is_formatting_in_set_with_flags set c e in
    rw (p.0, formatting_char_is_ucschar c p.1.1) (or_right _ true refl)

-- unreserved octets: no ASCII character is a formatting character
pub ascii_char_is_no_formatting_char : (c : ℕ) → c < 128 → is_bidi_formatting c ≡ false
unfolding is_bidi_formatting
ascii_char_is_no_formatting_char c h = grind (arith, nat_tests)

-- unreserved octets: a set with octets and `ucschar` writes all formatting characters as octets
pub never_literal_is_formatting_if_both_flags : (set : TableSet) (c : ℕ)
    → (set.ucschar && set.pct_encoded) ≡ true → is_never_literal set c ≡ is_bidi_formatting c
unfolding is_never_literal
never_literal_is_formatting_if_both_flags set c e = ap (λ b. b && is_bidi_formatting c) e

-- unreserved octets: a set without octets or `ucschar` keeps formatting characters as they are
pub encode_formatting_without_flags_keeps_tokens : (set : TableSet) (ts : List Token)
    → (set.ucschar && set.pct_encoded) ≡ false → encode_formatting set ts ≡ ts
unfolding is_never_literal
encode_formatting_without_flags_keeps_tokens set [] e = refl
encode_formatting_without_flags_keeps_tokens set (Octet value ∷ ts) e =
    ap (λ us. Octet value ∷ us) (encode_formatting_without_flags_keeps_tokens set ts e)
encode_formatting_without_flags_keeps_tokens set (Char c ∷ ts) e =
    grind (arith, nat_tests, encode_formatting_without_flags_keeps_tokens set ts e)

-- general fact on booleans, for unreserved octets
and_with_false_is_false : (x y : Bool) → (x && y && false) ≡ false
and_with_false_is_false true true = refl
and_with_false_is_false true false = refl
and_with_false_is_false false y = refl

ascii_char_is_unchanged : (set : TableSet) (c : ℕ) → c < 128
    → formatting_as_octets set (Char c) ≡ Char c ∷ []
unfolding is_never_literal
ascii_char_is_unchanged set c h = cond-false _ _ _ (ap (λ b. set.ucschar && set.pct_encoded && b)
    (ascii_char_is_no_formatting_char c h) ∙ and_with_false_is_false set.ucschar set.pct_encoded)

-- unreserved octets: to write formatting characters as octets keeps the decoded bytes
pub encode_formatting_keeps_bytes : (set : TableSet) (ts : List Token)
    → bytes_decoded_from (encode_formatting set ts) ≡ bytes_decoded_from ts
encode_formatting_keeps_bytes set [] = refl
encode_formatting_keeps_bytes set (t ∷ ts) =
    grind (
      arith,
      encode_formatting_keeps_bytes set ts,
      flat_map-append,
      octets_decode_to_their_bytes,
    )

formatting_as_octets_passes_test : (test : Token → Bool) (set : TableSet) (t : Token)
    → ((c : ℕ) → is_never_literal set c ≡ true → list_all test (map Octet (encode_utf8 c)) ≡ true)
    → test t ≡ true → list_all test (formatting_as_octets set t) ≡ true
formatting_as_octets_passes_test test set (Octet value) octets e = and_from _ true e refl
formatting_as_octets_passes_test test set (Char c) octets e = grind (arith, nat_tests)

-- unreserved octets: tokens pass a test after their
-- formatting characters become octets, if these pass
encode_formatting_passes_test : (test : Token → Bool) (set : TableSet) (ts : List Token)
    → ((c : ℕ) → is_never_literal set c ≡ true → list_all test (map Octet (encode_utf8 c)) ≡ true)
    → list_all test ts ≡ true → list_all test (encode_formatting set ts) ≡ true
encode_formatting_passes_test test set [] octets e = refl
encode_formatting_passes_test test set (t ∷ ts) octets e =
    let p = and_parts (test t) (list_all test ts) e in
    list_all-append test (formatting_as_octets set t) (encode_formatting set ts)
    ∙ and_from _ _ (formatting_as_octets_passes_test test set t octets p.0)
    (encode_formatting_passes_test test set ts octets p.1)

-- unreserved octets: percent-encoding formatting characters leaves tokens that can be written
pub encode_formatting_keeps_tokens_printable : (set : TableSet) (ts : List Token)
    → list_all is_printable ts ≡ true → list_all is_printable (encode_formatting set ts) ≡ true
encode_formatting_keeps_tokens_printable set ts e = encode_formatting_passes_test
    is_printable set ts (λ c h. octets_of_bytes_are_printable (encode_utf8 c)
    (utf8_bytes_are_eight_bit c (never_literal_char_is_scalar_past_ascii set c h).1)) e

pub encode_formatting_keeps_tokens_allowed : (set : TableSet) (ts : List Token)
    → list_all (allows_token set) ts ≡ true
    → list_all (allows_token set) (encode_formatting set ts) ≡ true
encode_formatting_keeps_tokens_allowed set ts e = encode_formatting_passes_test
    (allows_token set) set ts (λ c h. octets_are_allowed_if_pct_encoded set
    (encode_utf8 c) (never_literal_char_is_formatting_in_set_with_flags set c h).1.0) e

-- unreserved octets: lowering the letters of octets changes nothing
pub lowering_keeps_octets : (bytes : List ℕ) → map lower_token (map Octet bytes) ≡ map Octet bytes
lowering_keeps_octets [] = refl
lowering_keeps_octets (b ∷ bytes) = ap (λ ts. Octet b ∷ ts) (lowering_keeps_octets bytes)

-- unreserved octets: ASCII letters alone are lowered, so characters past ASCII are unchanged
pub lowercase_keeps_char_past_ascii : (c : ℕ) → 128 ≤ c → to_ascii_lowercase c ≡ c
lowercase_keeps_char_past_ascii c h = grind (arith, nat_tests)

-- unreserved octets: percent-encoding formatting characters and lower case may swap
pub encode_formatting_commutes_with_lowering : (set : TableSet) (ts : List Token)
    → map lower_token (encode_formatting set ts) ≡ encode_formatting set (map lower_token ts)
encode_formatting_commutes_with_lowering set [] = refl
encode_formatting_commutes_with_lowering set (t ∷ ts) =
    grind (
      arith,
      encode_formatting_commutes_with_lowering set ts,
      map-append,
      ascii_char_is_unchanged,
      lowering_keeps_octets,
    )

-- unreserved octets: an ASCII character separates the encoding before it from that after it
pub ascii_char_separates_encode_formatting : (set : TableSet) (ts : List Token)
    (c : ℕ) (us : List Token) → c < 128 → encode_formatting set (ts ++ Char c ∷ us)
    ≡ encode_formatting set ts ++ Char c ∷ encode_formatting set us
ascii_char_separates_encode_formatting set ts c us low =
    grind (arith, nat_tests, flat_map-append, ascii_char_is_unchanged)

octets_are_no_literal_formatting : (bytes : List ℕ) (ts : List Token)
    → list_any is_literal_formatting (map Octet bytes ++ ts) ≡ list_any is_literal_formatting ts
octets_are_no_literal_formatting [] ts = refl
octets_are_no_literal_formatting (b ∷ bytes) ts = octets_are_no_literal_formatting bytes ts

pub encode_formatting_leaves_no_literal_formatting : (set : TableSet) (ts : List Token)
    → (set.ucschar && set.pct_encoded) ≡ true
    → list_any is_literal_formatting (encode_formatting set ts) ≡ false
encode_formatting_leaves_no_literal_formatting set [] e = refl
encode_formatting_leaves_no_literal_formatting set (Octet value ∷ ts) e =
    encode_formatting_leaves_no_literal_formatting set ts e
encode_formatting_leaves_no_literal_formatting set (Char c ∷ ts) e =
    grind (
      arith,
      octets_are_no_literal_formatting,
      never_literal_is_formatting_if_both_flags,
      encode_formatting_leaves_no_literal_formatting set ts e,
    )
