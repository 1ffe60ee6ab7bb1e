-- `tokens` inverts `print`.
use Rattle.uri_pct.proofs.Common.{◌≡◌, ℕ, ◌+◌, ◌*◌, ◌/◌, ◌%◌, ◌<◌, Bool, true, false, eqb, ltb, List, [], ◌∷◌, ◌++◌, refl, sym, ap, ◌∙◌, arith, ◌&&◌, append-nil, list_all, flat_map, encode_utf8, digit_value, is_ascii_hexdigit, chars, encode_utf8_all, all_scalars, IsUtf8, low_scalar, chars-encodes, encode_ascii, encodes-append, agree_below_at, cond-true, cond-false, and_left, and_from, and_parts, eqb-true, ltb-true, not-true, TableSet, Token, Char, Octet, tokens, tokens_from_chars, print, text_of_token, is_pct_encoded, allows_token, is_valid_for, decode_unreserved, is_printable, nat_tests}
use Rattle.std.specs.Fmt.{digit_glyph}

-- the decoded text, as printed
unfoldable pub print_decoded : TableSet → List ℕ → List ℕ
print_decoded set text = print (decode_unreserved set text)

-- printing tokens: the digits of a byte, in either case, are two hexadecimal digits of its value
abbrev pub are_digits_of_octet : Bool → ℕ → Bool
are_digits_of_octet upper v =
    let high = digit_glyph upper (v / 16) in
    let low = digit_glyph upper (v % 16) in
    (ltb high 128 && ltb low 128) && ((is_ascii_hexdigit high && is_ascii_hexdigit low)
    && eqb (16 * digit_value high + digit_value low) v)

-- printing tokens: the digits that an octet is written with are hexadecimal, and have its value
pub octet_digits_are_hexadecimal : (upper : Bool) (v : ℕ) → v < 256 → are_digits_of_octet upper v
    ≡ true
octet_digits_are_hexadecimal true v h = agree_below_at (are_digits_of_octet true)
    (λ _. true) 256 v refl h
octet_digits_are_hexadecimal false v h = agree_below_at (are_digits_of_octet false)
    (λ _. true) 256 v refl h

-- printing tokens: the characters that a token is written with
abbrev pub chars_of_token : Token → List ℕ
chars_of_token (Char c) = c ∷ []
chars_of_token (Octet v) = 37 ∷ digit_glyph true (v / 16) ∷ digit_glyph true (v % 16) ∷ []

-- printing tokens: the characters of a token that can be written are its text in UTF-8
pub chars_of_token_encode_to_its_text : (t : Token) → is_printable t ≡ true
    → encode_utf8_all (chars_of_token t) ≡ text_of_token t
chars_of_token_encode_to_its_text (Char c) e = append-nil (encode_utf8 c)
chars_of_token_encode_to_its_text (Octet v) e =
    grind (arith, nat_tests, octet_digits_are_hexadecimal, encode_ascii)

-- printing tokens: the characters of one that can be written are scalar values
chars_of_token_are_scalars : (t : Token) → is_printable t ≡ true → all_scalars (chars_of_token t)
    ≡ true
chars_of_token_are_scalars (Char c) e = (and_parts _ _ e).0
chars_of_token_are_scalars (Octet v) e =
    grind (arith, nat_tests, octet_digits_are_hexadecimal, low_scalar)

-- printing tokens: a character that is not `%` (37) at the start of a text is a token
pub char_but_percent_is_its_own_token : (c : ℕ) (cs : List ℕ) → eqb c 37 ≡ false
    → tokens_from_chars (c ∷ cs) ≡ Char c ∷ tokens_from_chars cs
unfolding tokens_from_chars is_pct_encoded
char_but_percent_is_its_own_token c [] e = refl
char_but_percent_is_its_own_token c (d ∷ []) e = refl
char_but_percent_is_its_own_token c (d ∷ f ∷ cs) e = cond-false _ _ _ (and_left _ _ e)

-- printing tokens: the characters of one that can be written are read as it
chars_of_token_parse_to_it_first : (t : Token) (cs : List ℕ) → is_printable t ≡ true
    → tokens_from_chars (chars_of_token t ++ cs) ≡ t ∷ tokens_from_chars cs
unfolding tokens_from_chars is_pct_encoded
chars_of_token_parse_to_it_first (Char c) cs e = char_but_percent_is_its_own_token c cs
    (not-true _ (and_parts (all_scalars (c ∷ [])) _ e).1)
chars_of_token_parse_to_it_first (Octet v) cs e =
    let p = and_parts _ _ (and_parts _ _ (octet_digits_are_hexadecimal true v (ltb-true v 256 e))).1
    in
    cond-true _ _ _ p.0 ∙ ap (λ n. Octet n ∷ tokens_from_chars cs) (eqb-true _ v p.1)

-- printing tokens: the characters of tokens that can be written are read as them
chars_of_tokens_parse_to_them : (ts : List Token) → list_all is_printable ts ≡ true
    → tokens_from_chars (flat_map chars_of_token ts) ≡ ts
unfolding tokens_from_chars
chars_of_tokens_parse_to_them [] e = refl
chars_of_tokens_parse_to_them (t ∷ ts) e =
    let p = and_parts (is_printable t) (list_all is_printable ts) e in
    chars_of_token_parse_to_it_first t (flat_map chars_of_token ts) p.0
    ∙ ap (λ r. t ∷ r) (chars_of_tokens_parse_to_them ts p.1)

-- printing tokens: what is written of them is their characters in UTF-8
print_is_utf8_of_chars_of_tokens : (ts : List Token) → list_all is_printable ts ≡ true
    → print ts ≡ encode_utf8_all (flat_map chars_of_token ts)
print_is_utf8_of_chars_of_tokens [] e = refl
print_is_utf8_of_chars_of_tokens (t ∷ ts) e =
    let p = and_parts (is_printable t) (list_all is_printable ts) e in
    sym (encodes-append (chars_of_token t) (flat_map chars_of_token ts) ∙ ap (λ x. x
    ++ encode_utf8_all (flat_map chars_of_token ts)) (chars_of_token_encode_to_its_text t p.0)
    ∙ ap (λ x. text_of_token t ++ x) (sym (print_is_utf8_of_chars_of_tokens ts p.1)))

-- printing tokens: scalar values after scalar values are scalar values
pub scalars-append : (xs ys : List ℕ) → all_scalars xs ≡ true → all_scalars ys ≡ true
    → all_scalars (xs ++ ys) ≡ true
scalars-append [] ys e f = f
scalars-append (x ∷ xs) ys e f = let p = and_parts _ (all_scalars xs) e in
    and_from _ _ p.0 (scalars-append xs ys p.1 f)

chars_of_tokens_are_scalars : (ts : List Token) → list_all is_printable ts ≡ true
    → all_scalars (flat_map chars_of_token ts) ≡ true
chars_of_tokens_are_scalars [] e = refl
chars_of_tokens_are_scalars (t ∷ ts) e =
    let p = and_parts (is_printable t) (list_all is_printable ts) e in
    scalars-append (chars_of_token t) (flat_map chars_of_token ts)
    (chars_of_token_are_scalars t p.0) (chars_of_tokens_are_scalars ts p.1)

-- printing tokens: the characters of written tokens are those of each token
pub chars_of_printed_tokens : (ts : List Token) → list_all is_printable ts ≡ true
    → chars (print ts) ≡ flat_map chars_of_token ts
chars_of_printed_tokens ts e = ap chars (print_is_utf8_of_chars_of_tokens ts e)
    ∙ chars-encodes (flat_map chars_of_token ts) (chars_of_tokens_are_scalars ts e)

-- printing tokens: those that can be written are the tokens of the text that is written of them
pub printed_tokens_parse_to_themselves : (ts : List Token) → list_all is_printable ts ≡ true
    → tokens (print ts) ≡ ts
printed_tokens_parse_to_themselves ts e = ap tokens_from_chars (chars_of_printed_tokens ts e)
    ∙ chars_of_tokens_parse_to_them ts e

-- printing tokens: what is written of them is UTF-8
pub printed_tokens_are_utf8 : (ts : List Token) → list_all is_printable ts ≡ true
    → IsUtf8 (print ts)
printed_tokens_are_utf8 ts e =
    grind (arith, nat_tests, chars_of_tokens_are_scalars, print_is_utf8_of_chars_of_tokens)

-- printing tokens: a set allows the text that is written of them if it allows them
pub printed_tokens_are_valid_iff_allowed : (set : TableSet) (ts : List Token)
    → list_all is_printable ts ≡ true → is_valid_for set (print ts) ≡ list_all (allows_token set) ts
unfolding is_valid_for
printed_tokens_are_valid_iff_allowed set ts e = ap (list_all (allows_token set))
    (printed_tokens_parse_to_themselves ts e)
