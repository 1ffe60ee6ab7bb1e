-- Texts that a set allows, cut at `/`, and their decoded forms as printed.
use Rattle.uri_ops.proofs.Common.{◌≡◌, ℕ, Bool, true, false, eqb, List, [], ◌∷◌, ◌++◌, refl, ap, ◌∙◌, ◌&&◌, lit<, arith, is_ascii_hexdigit, list_all, chars, IsUtf8, is_utf8, IsUtf8-from_is_utf8, is_utf8-from_IsUtf8, IsUtf8-nil, chars-append, encode_ascii, flat_map-append, list_all-append, cond-false, and_right, and_parts, and_from, nat_tests, TableSet, LacksPercent, IsSubset, unreserved_set, allows, Token, Char, tokens, tokens_from_chars, bytes_decoded_from, is_pct_encoded, print, allows_token, is_valid_for, IsValidFor, is_printable, decode_unreserved, decode_run, decode_after_run, decode_tokens, encode_formatting, pieces_from, print_decoded, printed_tokens_parse_to_themselves, printed_tokens_are_utf8, char_but_percent_is_its_own_token, valid_text_has_printable_tokens, printed_decode_unreserved_stays_valid, decode_unreserved_keeps_bytes, char_separates_decoded_tokens, ascii_char_separates_encode_formatting, common_steps}
use Rattle.uri_pct.proofs.Offered.{decode_unreserved_is_idempotent, decode_unreserved_keeps_tokens_printable}

-- a text in UTF-8 that the set allows
unfoldable pub is_set_text : TableSet → List ℕ → Bool
is_set_text set text = is_utf8 text && is_valid_for set text

-- meanings of components: a valid text in UTF-8 passes the test `is_set_text` of the set
pub set-text-from-utf8 : (set : TableSet) (text : List ℕ) → IsUtf8 text → IsValidFor set text
    → is_set_text set text ≡ true
unfolding is_set_text
set-text-from-utf8 set text u v = and_from _ _ (is_utf8-from_IsUtf8 text u) v

-- meanings of components: a text that passes the test `is_set_text` is UTF-8
pub set-text-is-utf8 : (set : TableSet) (text : List ℕ) → is_set_text set text ≡ true → IsUtf8 text
unfolding is_set_text
set-text-is-utf8 set text e = IsUtf8-from_is_utf8 text (and_parts (is_utf8 text) _ e).0

-- meanings of components: a text that passes the test `is_set_text` is valid for the set
pub set-text-is-valid : (set : TableSet) (text : List ℕ) → is_set_text set text ≡ true
    → IsValidFor set text
unfolding is_set_text
set-text-is-valid set text e = (and_parts (is_utf8 text) _ e).1

-- meanings of components: the empty text is UTF-8, and valid for each set
pub empty-text-is-set-text : (set : TableSet) → is_set_text set [] ≡ true
unfolding is_valid_for tokens_from_chars chars
empty-text-is-set-text set = set-text-from-utf8 set [] IsUtf8-nil refl

-- meanings of components: the empty text decodes to the empty text
pub print_decoded-of-nil-is-nil : (set : TableSet) → print_decoded set [] ≡ []
unfolding print_decoded chars tokens_from_chars decode_after_run decode_run pieces_from
print_decoded-of-nil-is-nil set = refl

module _ (set : TableSet) (lacks : LacksPercent set) where
  pub set-text-has-printable-tokens : (text : List ℕ) → is_set_text set text ≡ true
      → list_all is_printable (tokens text) ≡ true
  set-text-has-printable-tokens text e = valid_text_has_printable_tokens set text lacks
      (set-text-is-valid set text e)

  pub decoded-set-text-is-printable : (text : List ℕ) → is_set_text set text ≡ true
      → list_all is_printable (decode_unreserved set text) ≡ true
  decoded-set-text-is-printable text e = decode_unreserved_keeps_tokens_printable set
      text (set-text-has-printable-tokens text e)

  tokens-of-decoded-text : (text : List ℕ) → is_set_text set text ≡ true
      → tokens (print_decoded set text) ≡ decode_unreserved set text
  unfolding print_decoded
  tokens-of-decoded-text text e = printed_tokens_parse_to_themselves (decode_unreserved set text)
      (decoded-set-text-is-printable text e)

  pub decoded-text-is-utf8 : (text : List ℕ) → is_set_text set text ≡ true
      → IsUtf8 (print_decoded set text)
  unfolding print_decoded
  decoded-text-is-utf8 text e = printed_tokens_are_utf8 (decode_unreserved set text)
      (decoded-set-text-is-printable text e)

  pub decode_unreserved-is-idempotent : (text : List ℕ) → is_set_text set text ≡ true
      → decode_unreserved set (print_decoded set text) ≡ decode_unreserved set text
  unfolding print_decoded
  decode_unreserved-is-idempotent text e = decode_unreserved_is_idempotent set text
      (set-text-has-printable-tokens text e)

  pub decoding-keeps-decoded-bytes : (text : List ℕ) → is_set_text set text ≡ true
      → bytes_decoded_from (tokens (print_decoded set text)) ≡ bytes_decoded_from (tokens text)
  decoding-keeps-decoded-bytes text e = ap bytes_decoded_from (tokens-of-decoded-text text e)
      ∙ decode_unreserved_keeps_bytes set text

  pub decoded-set-text-is-set-text : IsSubset unreserved_set set → (text : List ℕ)
      → is_set_text set text ≡ true → is_set_text set (print_decoded set text) ≡ true
  unfolding print_decoded
  decoded-set-text-is-set-text wide text e = set-text-from-utf8 set _ (decoded-text-is-utf8 _ e)
      (printed_decode_unreserved_stays_valid set _ lacks wide (set-text-is-valid set _ e))

-- meanings, by tokens: `/` (47) is no first digit of an octet
slash-is-no-first-hex-digit : (c d : ℕ) → is_pct_encoded c 47 d ≡ false
unfolding is_pct_encoded
slash-is-no-first-hex-digit c d = and_right (eqb c 37) (is_ascii_hexdigit 47 && is_ascii_hexdigit d)
    refl

-- meanings, by tokens: `/` (47) is no second digit of an octet
slash-is-no-second-hex-digit : (c d : ℕ) → is_pct_encoded c d 47 ≡ false
unfolding is_pct_encoded
slash-is-no-second-hex-digit c d = grind (arith, nat_tests)

-- meanings, by tokens: those of characters with a `/` (47) are those on each side of it, and it
tokens_from_chars-splits-at-slash : (cs ds : List ℕ)
    → tokens_from_chars (cs ++ 47 ∷ ds) ≡ tokens_from_chars cs ++ Char 47 ∷ tokens_from_chars ds
unfolding tokens_from_chars
tokens_from_chars-splits-at-slash [] ds = char_but_percent_is_its_own_token 47 ds refl
tokens_from_chars-splits-at-slash (c ∷ []) [] = refl
tokens_from_chars-splits-at-slash (c ∷ []) (d ∷ ds) = cond-false _ _ _
    (slash-is-no-first-hex-digit c d)
    ∙ ap (λ ts. Char c ∷ ts) (char_but_percent_is_its_own_token 47 (d ∷ ds) refl)
tokens_from_chars-splits-at-slash (c ∷ d ∷ []) ds =
    grind (arith, slash-is-no-second-hex-digit, tokens_from_chars-splits-at-slash (d ∷ []) ds)
tokens_from_chars-splits-at-slash (c ∷ h ∷ l ∷ cs) ds =
    grind (
      arith,
      tokens_from_chars-splits-at-slash cs ds,
      tokens_from_chars-splits-at-slash (h ∷ l ∷ cs) ds,
    )

-- meanings of paths: the first character of a text that begins with `/` (47) is `/`
chars-of-leading-slash : (y : List ℕ) → chars (47 ∷ y) ≡ 47 ∷ chars y
unfolding chars
chars-of-leading-slash y = grind (arith, common_steps)

-- meanings, by tokens: those of a text with a `/` (47) are those on each side of it, and it
tokens-split-at-slash : (x y : List ℕ) → IsUtf8 x → tokens (x ++ 47 ∷ y)
    ≡ tokens x ++ Char 47 ∷ tokens y
tokens-split-at-slash x y u =
    grind (arith, chars-append, chars, chars-of-leading-slash, tokens_from_chars-splits-at-slash)

-- meanings of paths: what is before a `/` (47) and what is after it are decoded separately
decode_unreserved-splits-at-slash : (set : TableSet) (x y : List ℕ) → IsUtf8 x
    → decode_unreserved set (x ++ 47 ∷ y) ≡ decode_unreserved set x ++ Char 47
    ∷ decode_unreserved set y
decode_unreserved-splits-at-slash set x y u = ap (encode_formatting set) (ap (decode_tokens set)
    (tokens-split-at-slash x y u) ∙ char_separates_decoded_tokens set _ 47 _)
    ∙ ascii_char_separates_encode_formatting set _ 47 _ (lit< tt)

-- meanings, by tokens: tokens are written on each side of a `/` (47) by themselves
print-splits-at-slash : (ts us : List Token) → print (ts ++ Char 47 ∷ us)
    ≡ print ts ++ 47 ∷ print us
print-splits-at-slash ts us = grind (arith, nat_tests, encode_ascii, flat_map-append)

-- meanings of paths: a path is decoded on each side of a `/` (47) by itself
pub decoding-splits-at-slash : (set : TableSet) (x y : List ℕ) → IsUtf8 x
    → print_decoded set (x ++ 47 ∷ y) ≡ print_decoded set x ++ 47 ∷ print_decoded set y
unfolding print_decoded
decoding-splits-at-slash set x y u = ap print (decode_unreserved-splits-at-slash set x y u)
    ∙ print-splits-at-slash (decode_unreserved set x) (decode_unreserved set y)

-- meanings of paths: a text with a `/` (47) is valid exactly if `/` and both sides are
pub validity-splits-at-slash : (set : TableSet) (x y : List ℕ) → IsUtf8 x
    → is_valid_for set (x ++ 47 ∷ y) ≡ (is_valid_for set x && (allows set 47 && is_valid_for set y))
unfolding is_valid_for
validity-splits-at-slash set x y u = ap (list_all (allows_token set)) (tokens-split-at-slash x y u)
    ∙ list_all-append (allows_token set) (tokens x) (Char 47 ∷ tokens y)
