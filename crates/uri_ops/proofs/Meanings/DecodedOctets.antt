-- Decoding of characters, and of an octet, at the start of a text.
use Rattle.uri_ops.proofs.Common.{common_steps, ◌≡◌, ℕ, ◌+◌, ◌*◌, ◌<◌, Bool, true, false, eqb, ltb, not, List, [], ◌∷◌, ◌++◌, take, drop, map, refl, sym, ap, ◌∙◌, arith, ◌&&◌, ◌||◌, append_assoc, flat_map, encode_utf8, digit_value, is_ascii_hexdigit, IsScalar, digit_glyph, or-false, low_scalar, agree_below_at, cond-false, and_parts, ltb-true, false_from_ne_true, append-nil, encode_ascii, nat_tests, Decoded, WellFormed, utf8_pieces, LacksPastAscii, is_decodable, decode_octet, decode_piece, decode_run, decode_after_run, decode_tokens, TableSet, is_unreserved, Token, Char, Octet, tokens, text_of_token, print, first_char_is_first_piece, char_of_utf8_is_the_char, allowed_past_ascii_is_scalar, BeginsWithOctet, IsOctetAt, KeepsPrefixWhenDecoded, decoded_parts, lowered_if, decoded_text}
use Rattle.uri_pct.proofs.Offered.{text_is_decoded_octet_by_octet_in_uri, encode_formatting_without_flags_keeps_tokens}
use Rattle.uri_ops.proofs.Meanings.DecodedParts.{decode_run-of-nil-is-nil, decoded_parts-of-run}

pub decode_tokens-after-chars : (set : TableSet) (cs : List ℕ) (us : List Token)
    → decode_tokens set (map Char cs ++ us) ≡ map Char cs ++ decode_tokens set us
unfolding decode_after_run
decode_tokens-after-chars set [] us = refl
decode_tokens-after-chars set (c ∷ cs) us =
    cc (decode_run-of-nil-is-nil set, decode_tokens-after-chars set cs us)

decode_run-of-leading-character : (set : TableSet) (c : ℕ) (more : List ℕ) → IsScalar c
    → decode_run set (encode_utf8 c ++ more)
    ≡ decode_piece set (WellFormed (encode_utf8 c)) ++ decode_run set more
unfolding decode_run
decode_run-of-leading-character set c more scalar = ap (flat_map (decode_piece set))
    (first_char_is_first_piece c more scalar)

-- meanings, decoded: after some octets (their bytes are more) and a character, decoding goes on
-- with the character by itself
decode_after_run-of-leading-character : (set : TableSet) (c : ℕ) (more : List ℕ) (ts : List Token)
    → IsScalar c → decode_after_run set (encode_utf8 c ++ more) ts
    ≡ decode_piece set (WellFormed (encode_utf8 c)) ++ decode_after_run set more ts
unfolding decode_after_run
decode_after_run-of-leading-character set c more [] scalar = decode_run-of-leading-character set c
    more scalar
decode_after_run-of-leading-character set c more (Octet value ∷ ts) scalar =
    ap (λ run. decode_after_run set run ts) (append_assoc (encode_utf8 c) more (value ∷ []))
    ∙ decode_after_run-of-leading-character set c (more ++ value ∷ []) ts scalar
decode_after_run-of-leading-character set c more (Char d ∷ ts) scalar =
    grind (arith, nat_tests, decode_run-of-leading-character, append_assoc)

ascii-is-decodable-if-unreserved : (set : TableSet) (b : ℕ) → b < 128 → is_decodable set b
    ≡ is_unreserved b
unfolding is_decodable
ascii-is-decodable-if-unreserved set b low =
    grind (arith, nat_tests, false_from_ne_true, allowed_past_ascii_is_scalar, or-false)

ascii-piece-decodes-as-octet : (set : TableSet) (b : ℕ) → b < 128
    → decode_piece set (WellFormed (encode_utf8 b)) ≡ decode_octet (Octet b) ∷ []
ascii-piece-decodes-as-octet set b low =
    grind (arith, common_steps, char_of_utf8_is_the_char, ascii-is-decodable-if-unreserved)

pub leading-ascii-octet-decodes-alone : (set : TableSet) (b : ℕ) (us : List Token) → b < 128
    → decode_tokens set (Octet b ∷ us) ≡ decode_octet (Octet b) ∷ decode_tokens set us
unfolding decode_after_run
leading-ascii-octet-decodes-alone set b us low =
    let joined : encode_utf8 b ++ [] ≡ b ∷ [] = append-nil (encode_utf8 b) ∙ encode_ascii b low in
    ap (λ run. decode_after_run set run us) (sym joined)
    ∙ decode_after_run-of-leading-character set b [] us (low_scalar b (omega arith))
    ∙ ap (λ ts. ts ++ decode_after_run set [] us) (ascii-piece-decodes-as-octet set b low)

pub decoded-part-of-ascii-octet : (lowers : Bool) (set : TableSet) (b : ℕ) → b < 128
    → print (lowered_if lowers (decoded_parts set (map Decoded (utf8_pieces (b ∷ [])))))
    ≡ print (lowered_if lowers (decode_octet (Octet b) ∷ []))
unfolding decode_run
decoded-part-of-ascii-octet lowers set b low =
    let joined : encode_utf8 b ++ [] ≡ b ∷ [] = append-nil (encode_utf8 b) ∙ encode_ascii b low in
    let piece = decode_piece set (WellFormed (encode_utf8 b)) in
    ap (λ ts. print (lowered_if lowers ts))
    (decoded_parts-of-run set (utf8_pieces (b ∷ [])) ∙ ap (decode_run set) (sym joined)
    ∙ decode_run-of-leading-character set b [] (low_scalar b (omega arith)) ∙ ap (λ ts. piece ++ ts)
    (decode_run-of-nil-is-nil set) ∙ append-nil piece ∙ ascii-piece-decodes-as-octet set b low)

-- meanings, decoded: each octet by itself, where a set has no characters past ASCII, as of URIs
tokens-without-past-ascii-decode-alone : (set : TableSet) (text : List ℕ) → LacksPastAscii set
    → decode_tokens set (tokens text) ≡ map decode_octet (tokens text)
tokens-without-past-ascii-decode-alone set text none = sym
    (encode_formatting_without_flags_keeps_tokens set (decode_tokens set (tokens text))
    (ap (λ b. b && set.pct_encoded) none.0)) ∙ text_is_decoded_octet_by_octet_in_uri set text none

-- meanings, decoded: an octet token at the start of a text is decoded by itself if its byte is
-- ASCII, or if the set (as of URIs) lacks characters past ASCII: then alone holds
pub first-octet-token-is-decoded-alone : (lowers : Bool) (set : TableSet) (text suffix : List ℕ)
    (value : ℕ) (alone : Bool) → tokens text ≡ Octet value ∷ tokens suffix
    → (alone ≡ true → LacksPastAscii set) → (alone || ltb value 128) ≡ true
    → decoded_text lowers set text
    ≡ print (lowered_if lowers (decode_octet (Octet value) ∷ [])) ++ decoded_text lowers set suffix
first-octet-token-is-decoded-alone lowers set text suffix value alone first none e =
    grind (
      arith,
      common_steps,
      tokens-without-past-ascii-decode-alone,
      leading-ascii-octet-decodes-alone,
    )

-- meanings, decoded: the byte of the octet at the start of a text
abbrev pub first_value : {text : List ℕ} → BeginsWithOctet text → ℕ
first_value o = 16 * digit_value o.high + digit_value o.low

pub leading-octet-is-decoded-alone :
    (lowers : Bool) (set : TableSet) (text : List ℕ) (o : BeginsWithOctet text) (alone : Bool)
    → (alone ≡ true → LacksPastAscii set) → (alone || ltb (first_value o) 128) ≡ true
    → decoded_text lowers set text ≡ print (lowered_if lowers
    (decode_octet (Octet (first_value o)) ∷ [])) ++ decoded_text lowers set o.suffix
leading-octet-is-decoded-alone lowers set text o alone none e =
    first-octet-token-is-decoded-alone lowers set text o.suffix (first_value o) alone o.first none e

-- meanings, decoded: the byte is a hexadecimal digit as it is written, in upper case
is_glyph : ℕ → Bool
is_glyph h = not (is_ascii_hexdigit h)
    || (eqb (digit_glyph true (digit_value h)) h && ltb (digit_value h) 16)

pub uppercase-octet-prints-itself : (high low : ℕ)
    → is_ascii_hexdigit high ≡ true → is_ascii_hexdigit low ≡ true → high < 97 → low < 97
    → text_of_token (Octet (16 * digit_value high + digit_value low)) ≡ 37 ∷ high ∷ low ∷ []
uppercase-octet-prints-itself high low h l hu lu =
    grind (arith, nat_tests, agree_below_at, is_glyph)

-- meanings, decoded: an octet of a reserved character with digits in upper case is unchanged;
-- alone: the set lacks characters past ASCII
pub uppercase-reserved-octet-is-unchanged : {text : List ℕ} {i high low : ℕ}
    → IsOctetAt text i high low → (set : TableSet) (alone : Bool) → (ltb high 97 && ltb low 97)
    ≡ true → is_unreserved (16 * digit_value high + digit_value low) ≡ false → (alone ≡ true
    → LacksPastAscii set) → (alone || ltb (16 * digit_value high + digit_value low) 128) ≡ true
    → KeepsPrefixWhenDecoded false set (drop i text) 3
uppercase-reserved-octet-is-unchanged {text} {i} {high} {low} at set alone upper reserved none
    itself =
    let p = and_parts (ltb high 97) (ltb low 97) upper in
    let suffix = drop (i + 3) text in
    first-octet-token-is-decoded-alone false set (drop i text) suffix _ alone at.token none itself
    ∙ ap (λ t. (text_of_token t ++ []) ++ decoded_text false set suffix) (cond-false _ _ _ reserved)
    ∙ ap (λ x. (x ++ []) ++ decoded_text false set suffix) (uppercase-octet-prints-itself high low
    at.high_digit at.low_digit (ltb-true high 97 p.0) (ltb-true low 97 p.1))
    ∙ sym (ap (λ x. take 3 x ++ decoded_text false set (drop 3 x)) at.split)
