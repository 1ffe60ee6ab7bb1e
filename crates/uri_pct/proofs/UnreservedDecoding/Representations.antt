-- A text represents at most one list of characters and octets: its tokens.
use Rattle.uri_pct.proofs.Common.{◌≡◌, ℕ, ◌+◌, ◌*◌, true, eqb, List, [], ◌∷◌, ◌++◌, refl, sym, ap, subst, ◌∙◌, ⊎_elim, arith, ◌↔◌, append-nil, list_all, IsScalar, encode_utf8, digit_value, is_ascii_hexdigit, chars, encode_utf8_all, all_scalars, IsUtf8, chars-append, chars-encodes, chars-nil, encode_ascii, IsUtf8-encode, cases_Bool, cond-true, cond-false, and_parts, and_from, eqb-false, not-true, TableSet, LacksPercent, is_printable, Token, Char, Octet, tokens, tokens_from_chars, is_pct_encoded, allows_token, is_valid_for, IsValidFor, nat_tests}
use Rattle.uri_pct.specs.Representation.{RepresentsToken, Represents, RepresentsWithin}
use Rattle.uri_pct.proofs.UnreservedDecoding.Printing.{char_but_percent_is_its_own_token}
use Rattle.uri_pct.proofs.Unicode.Characters.{hexdigit_is_ascii}
use Rattle.uri_pct.proofs.ValidTexts.Allowed.{valid_text_has_printable_tokens}
use Rattle.uri_pct.proofs.ValidTexts.TokenCuts.{ascii_byte_is_first_of_chars}

first_encoded_char_is_first_of_chars : (c : ℕ) (rest : List ℕ) → IsScalar c
    → chars (encode_utf8 c ++ rest) ≡ c ∷ chars rest
first_encoded_char_is_first_of_chars c rest scalar =
    chars-append (encode_utf8 c) rest (IsUtf8-encode c scalar) ∙ ap (λ x. x ++ chars rest) (ap chars
    (sym (append-nil (encode_utf8 c))) ∙ chars-encodes (c ∷ []) (and_from _ true scalar refl))

-- tokens printed and read: a `%` and two hexadecimal digits at the start are an octet
octet_text_is_first_token : (high low : ℕ) (rest : List ℕ) → is_ascii_hexdigit high ≡ true
    → is_ascii_hexdigit low ≡ true → tokens (37 ∷ high ∷ low ∷ rest)
    ≡ Octet (16 * digit_value high + digit_value low) ∷ tokens rest
unfolding tokens_from_chars is_pct_encoded
octet_text_is_first_token high low rest h l =
    grind (arith, nat_tests, ascii_byte_is_first_of_chars, hexdigit_is_ascii)

text_of_represented_token_is_first_token : (t : Token) (first rest : List ℕ)
    → RepresentsToken first t → tokens (first ++ rest) ≡ t ∷ tokens rest
text_of_represented_token_is_first_token (Char c) first rest h =
    grind (arith, first_encoded_char_is_first_of_chars, char_but_percent_is_its_own_token)
text_of_represented_token_is_first_token (Octet value) first rest h =
    grind (arith, nat_tests, octet_text_is_first_token)

-- tokens printed and read: if a text represents some tokens, they are its tokens
pub represented_tokens_are_tokens_of_text : (text : List ℕ) (ts : List Token) → Represents text ts
    → tokens text ≡ ts
unfolding Represents tokens_from_chars
represented_tokens_are_tokens_of_text text [] e = ap tokens e ∙ ap tokens_from_chars chars-nil
represented_tokens_are_tokens_of_text text (t ∷ ts) h = ap tokens h.1.1.0
    ∙ text_of_represented_token_is_first_token t h.0 h.1.0 h.1.1.1
    ∙ ap (λ r. t ∷ r) (represented_tokens_are_tokens_of_text h.1.0 ts h.1.1.2)

char_before_represented_text_is_represented : (c : ℕ) (cs : List ℕ) (ts : List Token)
    → is_printable (Char c) ≡ true
    → Represents (encode_utf8_all cs) ts → Represents (encode_utf8_all (c ∷ cs)) (Char c ∷ ts)
unfolding Represents
char_before_represented_text_is_represented c cs ts e rest =
    let p = and_parts (all_scalars (c ∷ [])) _ e in grind (arith, nat_tests, eqb-false, not-true)

octet_before_represented_text_is_represented : (c high low : ℕ) (cs : List ℕ) (ts : List Token)
    → is_pct_encoded c high low ≡ true → Represents (encode_utf8_all cs) ts → Represents
    (encode_utf8_all (c ∷ high ∷ low ∷ cs)) (Octet (16 * digit_value high + digit_value low) ∷ ts)
unfolding Represents is_pct_encoded
octet_before_represented_text_is_represented c high low cs ts e rest =
    let p = and_parts (eqb c 37) _ e in
    let digits = and_parts (is_ascii_hexdigit high) (is_ascii_hexdigit low) p.1 in
    let X = encode_utf8_all cs in
    let text : encode_utf8_all (c ∷ high ∷ low ∷ cs) ≡ 37 ∷ high ∷ low ∷ X =
    grind (arith, nat_tests, encode_ascii, hexdigit_is_ascii) in
    (37 ∷ high ∷ low ∷ [], (X, (text, (high, (low, (digits.0, digits.1, refl, refl))), rest)))

chars_represent_their_tokens : (cs : List ℕ) → list_all is_printable (tokens_from_chars cs) ≡ true
    → Represents (encode_utf8_all cs) (tokens_from_chars cs)
unfolding tokens_from_chars Represents
chars_represent_their_tokens [] e = refl
chars_represent_their_tokens (c ∷ []) e = char_before_represented_text_is_represented c [] []
    (and_parts _ true e).0 refl
chars_represent_their_tokens (c ∷ d ∷ []) e =
    let p = and_parts _ _ e in
    char_before_represented_text_is_represented c (d ∷ []) (Char d ∷ []) p.0
    (chars_represent_their_tokens (d ∷ []) p.1)
chars_represent_their_tokens (c ∷ high ∷ low ∷ cs) e = ⊎_elim (λ is.
    let at : tokens_from_chars (c ∷ high ∷ low ∷ cs)
    ≡ Octet (16 * digit_value high + digit_value low) ∷ tokens_from_chars cs = cond-true _ _ _ is in
    let p = and_parts _ _ (sym (ap (list_all is_printable) at) ∙ e) in
    subst (Represents (encode_utf8_all (c ∷ high ∷ low ∷ cs)))
    (sym at) (octet_before_represented_text_is_represented c high low cs
    (tokens_from_chars cs) is (chars_represent_their_tokens cs p.1))) (λ is.
    let at : tokens_from_chars (c ∷ high ∷ low ∷ cs) ≡ Char c ∷ tokens_from_chars (high ∷ low ∷ cs)
    = cond-false _ _ _ is in
    let p = and_parts _ _ (sym (ap (list_all is_printable) at) ∙ e) in
    subst (Represents (encode_utf8_all (c ∷ high ∷ low ∷ cs)))
    (sym at) (char_before_represented_text_is_represented c (high ∷ low ∷ cs) _ p.0
    (chars_represent_their_tokens (high ∷ low ∷ cs) p.1))) (cases_Bool (is_pct_encoded c high low))

-- tokens printed and read: if two digits follow each `%`, a text represents its tokens
pub text_represents_its_printable_tokens : (text : List ℕ) → IsUtf8 text
    → list_all is_printable (tokens text) ≡ true → Represents text (tokens text)
text_represents_its_printable_tokens text u e =
    grind (arith, chars, chars-encodes, chars_represent_their_tokens)

pub text_is_valid_iff_it_represents_allowed_tokens : (set : TableSet) (text : List ℕ)
    → LacksPercent set → IsUtf8 text → IsValidFor set text ↔ RepresentsWithin set text
unfolding is_valid_for
text_is_valid_iff_it_represents_allowed_tokens set text lacks u = (
  λ e. (
    tokens text,
    (
      text_represents_its_printable_tokens text u
          (valid_text_has_printable_tokens set text lacks e),
      e,
    ),
  ),
  λ h. ap (list_all (allows_token set)) (represented_tokens_are_tokens_of_text text h.0 h.1.0)
      ∙ h.1.1,
)
