-- Where a printed text has its formatting characters as octets, the tokens that were printed have.
use Rattle.std.proofs.lemmas.Grind.{common_steps}
use Rattle.uri_ops.proofs.Common.{◌≡◌, ℕ, ◌≤◌, Bool, true, false, eqb, List, [], ◌∷◌, ◌++◌, length, take, drop, refl, sym, ap, ◌∙◌, arith, ◌&&◌, ◌||◌, encode_utf8, list_all, list_any, flat_map, chars, encode_utf8_all, IsUtf8, take-append_seam, drop-append_seam, and_parts, or_parts, or_from, false_from_ne_true, both_ways, nat_tests, append-nil, flat_map-append, list_any-append, encodes-chars, widest_set, is_bidi_formatting, is_printable, formatting_as_octets, encode_formatting, decode_tokens, decode_unreserved, encoded_formatting_char, encoded_formatting_text, TableSet, allows, allows_past_ascii, is_ucschar, is_iprivate, Token, Char, Octet, tokens, text_of_token, print, IsValidFor, valid_text_has_printable_tokens, lowered_tokens_are_printable, ascii_char_is_no_formatting_char, never_literal_is_formatting_if_both_flags, encode_formatting_commutes_with_lowering, chars_of_token, chars_of_printed_tokens, printed_tokens_are_utf8, decode_tokens_keeps_tokens_printable, lowered_if, common_steps}
use Rattle.uri_pct.proofs.Offered.{encode_formatting_without_flags_keeps_tokens}

-- meanings, bidirectional text: a formatting character is from U+200E to U+202E, so it begins with
-- the byte E2
formatting-is-from-200E-to-202E : (c : ℕ) → is_bidi_formatting c ≡ true → (0x200E ≤ c)
    × (c ≤ 0x202E)
unfolding is_bidi_formatting
formatting-is-from-200E-to-202E c e = (grind (arith, nat_tests), grind (arith, nat_tests))

-- meanings, bidirectional text: the byte is E2, with which formatting characters begin
is_byte_E2 : ℕ → Bool
is_byte_E2 b = eqb b 0xE2

formatting-character-has-byte-E2 : (c : ℕ) → is_bidi_formatting c ≡ true
    → list_any is_byte_E2 (encode_utf8 c) ≡ true
unfolding encode_utf8 is_byte_E2
formatting-character-has-byte-E2 c e = grind (arith, nat_tests, formatting-is-from-200E-to-202E)

characters-without-byte-E2-are-no-formatting : (cs : List ℕ)
    → list_any is_byte_E2 (encode_utf8_all cs) ≡ false → list_any is_bidi_formatting cs ≡ false
characters-without-byte-E2-are-no-formatting [] e = refl
characters-without-byte-E2-are-no-formatting (c ∷ cs) e =
    let p = or_parts _ _ (sym (list_any-append is_byte_E2 (encode_utf8 c) (encode_utf8_all cs)) ∙ e)
    in
    or_from _ _ (false_from_ne_true _ (λ h. both_ways _ p.0 (formatting-character-has-byte-E2 c h)))
    (characters-without-byte-E2-are-no-formatting cs p.1)

pub no-byte-E2-no-formatting : (text : List ℕ) → IsUtf8 text
    → list_any (λ b. eqb b 0xE2) text ≡ false → list_any is_bidi_formatting (chars text) ≡ false
unfolding is_byte_E2
no-byte-E2-no-formatting text u e = characters-without-byte-E2-are-no-formatting (chars text)
    (ap (list_any is_byte_E2) (encodes-chars text u) ∙ e)

characters-without-formatting-are-unchanged : (cs : List ℕ) → list_any is_bidi_formatting cs ≡ false
    → flat_map encoded_formatting_char cs ≡ encode_utf8_all cs
characters-without-formatting-are-unchanged [] e = refl
characters-without-formatting-are-unchanged (c ∷ cs) e =
    grind (arith, common_steps, (characters-without-formatting-are-unchanged cs))

pub text-without-formatting-is-unchanged : (text : List ℕ) → IsUtf8 text
    → list_any is_bidi_formatting (chars text) ≡ false → encoded_formatting_text text ≡ text
text-without-formatting-is-unchanged text u e =
    characters-without-formatting-are-unchanged (chars text) e ∙ encodes-chars text u

printed-token-has-formatting-encoded : (set : TableSet) (t : Token)
    → (set.ucschar && set.pct_encoded) ≡ true → is_printable t ≡ true
    → flat_map encoded_formatting_char (chars_of_token t) ≡ print (formatting_as_octets set t)
printed-token-has-formatting-encoded set (Octet v) both e =
    grind (arith, common_steps, ascii_char_is_no_formatting_char)
printed-token-has-formatting-encoded set (Char c) both e =
    grind (arith, nat_tests, append-nil, never_literal_is_formatting_if_both_flags)

printed-tokens-have-formatting-encoded : (set : TableSet) (ts : List Token)
    → (set.ucschar && set.pct_encoded) ≡ true → list_all is_printable ts ≡ true
    → flat_map encoded_formatting_char (flat_map chars_of_token ts)
    ≡ print (encode_formatting set ts)
printed-tokens-have-formatting-encoded set [] both e = refl
printed-tokens-have-formatting-encoded set (t ∷ ts) both e =
    let p = and_parts (is_printable t) (list_all is_printable ts) e in
    flat_map-append encoded_formatting_char (chars_of_token t) (flat_map chars_of_token ts)
    ∙ ap (λ x. x ++ flat_map encoded_formatting_char (flat_map chars_of_token ts))
    (printed-token-has-formatting-encoded set t both p.0) ∙ ap (λ x. print
    (formatting_as_octets set t) ++ x) (printed-tokens-have-formatting-encoded set ts both p.1)
    ∙ sym (flat_map-append text_of_token (formatting_as_octets set t) (encode_formatting set ts))

-- meanings, bidirectional text: encoding formatting characters and writing the tokens may swap
encoding-formatting-and-printing-swap : (set : TableSet) (ts : List Token)
    → (set.ucschar && set.pct_encoded) ≡ true → list_all is_printable ts ≡ true
    → encoded_formatting_text (print ts) ≡ print (encode_formatting set ts)
encoding-formatting-and-printing-swap set ts both e =
    grind (arith, nat_tests, chars_of_printed_tokens, printed-tokens-have-formatting-encoded)

-- meanings, bidirectional text: formatting characters are encoded in the text that was appended,
-- and not before it
pub formatting-encoded-after-prefix : (old more new : List ℕ) (start : ℕ) → start ≡ length old
    → new ≡ old ++ more → take start new ++ encoded_formatting_text (drop start new)
    ≡ old ++ encoded_formatting_text more
formatting-encoded-after-prefix old more new start e f =
    cc (take-append_seam old more, drop-append_seam old more)

encoding-formatting-and-lowering-swap : (lowers : Bool) (set : TableSet) (ts : List Token)
    → encode_formatting set (lowered_if lowers ts) ≡ lowered_if lowers (encode_formatting set ts)
encoding-formatting-and-lowering-swap true set ts = sym
    (encode_formatting_commutes_with_lowering set ts)
encoding-formatting-and-lowering-swap false set ts = refl

-- meanings, decoded: the decoded tokens of a valid text can be written, in lower case too
lowered-decoded-tokens-are-printable : (lowers : Bool) (set : TableSet) (text : List ℕ)
    → IsValidFor widest_set text
    → list_all is_printable (lowered_if lowers (decode_tokens set (tokens text))) ≡ true
lowered-decoded-tokens-are-printable lowers set text valid =
    grind (
      arith,
      lowered_tokens_are_printable,
      decode_tokens_keeps_tokens_printable,
      valid_text_has_printable_tokens,
    )

-- meanings, decoded: a component of a valid text, decoded and in lower case if lowers, is UTF-8
pub printed-lowered-decoding-is-utf8 : (lowers : Bool) (set : TableSet) (text : List ℕ)
    → IsValidFor widest_set text
    → IsUtf8 (print (lowered_if lowers (decode_tokens set (tokens text))))
printed-lowered-decoding-is-utf8 lowers set text valid =
    grind (arith, nat_tests, printed_tokens_are_utf8, lowered-decoded-tokens-are-printable)

pub encoding-formatting-completes-decoding : (lowers : Bool) (set : TableSet) (text : List ℕ)
    → (set.ucschar && set.pct_encoded) ≡ true → IsValidFor widest_set text
    → encoded_formatting_text (print (lowered_if lowers (decode_tokens set (tokens text))))
    ≡ print (lowered_if lowers (decode_unreserved set text))
encoding-formatting-completes-decoding lowers set text both valid =
    encoding-formatting-and-printing-swap set (lowered_if lowers (decode_tokens set (tokens text)))
    both (lowered-decoded-tokens-are-printable lowers set text valid)
    ∙ ap print (encoding-formatting-and-lowering-swap lowers set (decode_tokens set (tokens text)))

-- meanings, bidirectional text: a set without octets or characters past ASCII needs no formatting
-- character encoded in its normal form
pub decoding-without-formatting-is-complete : (lowers : Bool) (set : TableSet) (text : List ℕ)
    → (set.ucschar && set.pct_encoded) ≡ false → print (lowered_if lowers
    (decode_tokens set (tokens text))) ≡ print (lowered_if lowers (decode_unreserved set text))
decoding-without-formatting-is-complete lowers set text none = ap (λ ts. print
    (lowered_if lowers ts)) (sym (encode_formatting_without_flags_keeps_tokens set
    (decode_tokens set (tokens text)) none))

-- general fact on booleans, for meanings of bidirectional text: `ucschar` decides on U+200E
second-flag-does-not-matter : (u p : Bool) → ((u && true) || (p && false)) ≡ u
second-flag-does-not-matter u p = grind (arith, common_steps)

pub set_allows_formatting_by_ucschar : (set : TableSet) → allows set 0x200E ≡ set.ucschar
unfolding allows_past_ascii is_ucschar is_iprivate
set_allows_formatting_by_ucschar set = second-flag-does-not-matter set.ucschar set.iprivate
