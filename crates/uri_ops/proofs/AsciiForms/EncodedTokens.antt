-- The tokens of a text without characters past ASCII: the octets of each are in its place.
use Rattle.uri_ops.proofs.Common.{common_steps, ◌≡◌, ℕ, ◌+◌, ◌*◌, ◌/◌, ◌%◌, ◌<◌, ◌≤◌, Bool, true, false, cond, eqb, ltb, List, [], ◌∷◌, ◌++◌, get_or, map, refl, sym, ap, subst, ◌∙◌, arith, ◌&&◌, ⊎_elim, append_assoc, IsScalar, encode_utf8, digit_value, is_ascii_hexdigit, digit_glyph, list_all, flat_map, chars, IsUtf8, encode_utf8_all, all_scalars, chars-encodes, chars-IsAscii, append-nil, list_all-append, cases_Bool, cases_lt, agree_below_at, cond-true, cond-false, and_left, and_right, and_from, and_parts, eqb-true, ltb-true, lt-ltb, le-ltb, nat_tests, Token, Char, Octet, tokens, tokens_from_chars, bytes_decoded_from, bytes_of_one_token, is_pct_encoded, text_of_token, begins_with_hex_digits, char_has_encoding, is_no_ascii_byte, char_past_ascii_begins_past_ascii, hexdigit_is_ascii, encode_byte_past_ascii, encode_past_ascii, chars_not_pct_encoded_begin_no_octet}
use Rattle.uri_ops.proofs.Meanings.AsciiCharacters.{ascii-bytes-are-ascii-text, ascii-bytes-are-utf8}
use Rattle.uri_pct.proofs.Offered.{past_ascii_is_no_hexdigit, octets_decode_to_their_bytes}

-- IRIs as URIs: the digits that a byte is written with are hexadecimal, and have its value
abbrev has_two_hex_digits : ℕ → Bool
has_two_hex_digits v =
    let high = digit_glyph true (v / 16) in
    let low = digit_glyph true (v % 16) in
    (is_ascii_hexdigit high && is_ascii_hexdigit low)
    && eqb (16 * digit_value high + digit_value low) v

pub byte-digits-have-its-value : (v : ℕ) → v < 256 → has_two_hex_digits v ≡ true
byte-digits-have-its-value v h = agree_below_at has_two_hex_digits (λ _. true) 256 v refl h

-- IRIs as URIs: the `%XX` of a byte
abbrev pub octet_text : ℕ → List ℕ
octet_text b = text_of_token (Octet b)

-- IRIs as URIs: the text of a character, percent-encoded if it is past ASCII
abbrev encoded_char : ℕ → List ℕ
encoded_char c = cond (ltb c 128) (c ∷ []) (flat_map octet_text (encode_utf8 c))

-- IRIs as URIs: the text of characters of which those past ASCII are percent-encoded
encoded_chars : List ℕ → List ℕ
encoded_chars cs = flat_map encoded_char cs

-- IRIs as URIs: the tokens of a token, which are octets if it is a character past ASCII
abbrev pub encoded_token : Token → List Token
encoded_token (Char c) = cond (ltb c 128) (Char c ∷ []) (map Octet (encode_utf8 c))
encoded_token (Octet value) = Octet value ∷ []

-- IRIs as URIs: the bytes of a character past ASCII are all past ASCII
pub character-past-ascii-has-no-ascii-byte : (c : ℕ) → 128 ≤ c
    → list_all is_no_ascii_byte (encode_utf8 c) ≡ true
character-past-ascii-has-no-ascii-byte c h =
    let w = char_has_encoding c in
    let first : 128 ≤ w.first = subst (λ n. 128 ≤ n) (ap (λ t. get_or (t ++ []) 0 0) w.joined)
    (char_past_ascii_begins_past_ascii c [] h) in
    ap (list_all is_no_ascii_byte) w.joined ∙ and_from _ _ (high w.first first) w.high
  where
    high : (b : ℕ) → 128 ≤ b → is_no_ascii_byte b ≡ true
    high b h = grind (arith, nat_tests)

-- IRIs as URIs: a Unicode scalar value is below 0x110000, for its UTF-8
scalar-is-below-0x110000 : (c : ℕ) → IsScalar c → c < 0x110000
scalar-is-below-0x110000 c s = grind (arith, nat_tests)

unfoldable pub is_byte : ℕ → Bool
is_byte b = ltb b 256

number-below-256-is-byte : (b : ℕ) → b < 256 → is_byte b ≡ true
unfolding is_byte
number-below-256-is-byte b h = lt-ltb b 256 h

pub utf8-of-character-is-bytes : (c : ℕ) → IsScalar c → list_all is_byte (encode_utf8 c) ≡ true
unfolding encode_utf8
utf8-of-character-is-bytes c s =
    grind (arith, nat_tests, scalar-is-below-0x110000, number-below-256-is-byte)

bytes-past-ascii-encode-to-octets : (bs : List ℕ) → list_all is_no_ascii_byte bs ≡ true
    → flat_map encode_byte_past_ascii bs ≡ flat_map octet_text bs
bytes-past-ascii-encode-to-octets [] e = refl
bytes-past-ascii-encode-to-octets (b ∷ bs) e =
    grind (arith, common_steps, is_no_ascii_byte, (bytes-past-ascii-encode-to-octets bs))

encoding-is-character-by-character : (cs : List ℕ) → encode_past_ascii (encode_utf8_all cs)
    ≡ encoded_chars cs
unfolding encode_past_ascii encoded_chars
encoding-is-character-by-character [] = refl
encoding-is-character-by-character (c ∷ cs) =
    grind (
      arith,
      common_steps,
      bytes-past-ascii-encode-to-octets,
      character-past-ascii-has-no-ascii-byte,
      encoding-is-character-by-character cs,
    )

abbrev is_ascii_byte : ℕ → Bool
is_ascii_byte c = ltb c 128

octet_text-of-byte-is-ascii : (b : ℕ) → is_byte b ≡ true → list_all is_ascii_byte (octet_text b)
    ≡ true
unfolding is_byte
octet_text-of-byte-is-ascii b e = grind (arith, nat_tests, agree_below_at)

octet_texts-of-bytes-are-ascii : (bs : List ℕ) → list_all is_byte bs ≡ true
    → list_all is_ascii_byte (flat_map octet_text bs) ≡ true
octet_texts-of-bytes-are-ascii [] e = refl
octet_texts-of-bytes-are-ascii (b ∷ bs) e =
    let p = and_parts (is_byte b) (list_all is_byte bs) e in
    list_all-append is_ascii_byte (octet_text b) (flat_map octet_text bs)
    ∙ and_from _ _ (octet_text-of-byte-is-ascii b p.0) (octet_texts-of-bytes-are-ascii bs p.1)

encoded-characters-are-ascii : (cs : List ℕ) → all_scalars cs ≡ true
    → list_all is_ascii_byte (encoded_chars cs) ≡ true
unfolding encoded_chars
encoded-characters-are-ascii [] e = refl
encoded-characters-are-ascii (c ∷ cs) e =
    let p = and_parts _ (all_scalars cs) e in
    list_all-append is_ascii_byte (encoded_char c) (encoded_chars cs) ∙ and_from _ _ (⊎_elim
    (λ h. ap (list_all is_ascii_byte) (cond-true _ _ _ (lt-ltb c 128 h))
    ∙ and_from _ true (lt-ltb c 128 h) refl)
    (λ h. ap (list_all is_ascii_byte) (cond-false _ _ _ (le-ltb c 128 h))
    ∙ octet_texts-of-bytes-are-ascii (encode_utf8 c) (utf8-of-character-is-bytes c p.0))
    (cases_lt c 128)) (encoded-characters-are-ascii cs p.1)

encoded-text-is-ascii : (text : List ℕ) → IsUtf8 text
    → list_all is_ascii_byte (encode_past_ascii text) ≡ true
encoded-text-is-ascii text u =
    grind (arith, nat_tests, encoding-is-character-by-character, encoded-characters-are-ascii)

-- IRIs as URIs: a text whose characters past ASCII are encoded is UTF-8
pub encoded-text-is-utf8 : (text : List ℕ) → IsUtf8 text → IsUtf8 (encode_past_ascii text)
encoded-text-is-utf8 text u = ascii-bytes-are-utf8 (encode_past_ascii text)
    (encoded-text-is-ascii text u)

-- IRIs as URIs, tokens: a character that begins no percent-encoded octet is a token by itself
tokens-begin-with-literal-character : (c : ℕ) (cs : List ℕ)
    → (eqb c 37 && begins_with_hex_digits cs) ≡ false
    → tokens_from_chars (c ∷ cs) ≡ Char c ∷ tokens_from_chars cs
unfolding tokens_from_chars is_pct_encoded begins_with_hex_digits
tokens-begin-with-literal-character c cs e = grind (arith)

-- IRIs as URIs, tokens: a `%XX` at the start is the octet of its byte
tokens-begin-with-octet : (b : ℕ) (cs : List ℕ) → is_byte b ≡ true
    → tokens_from_chars (octet_text b ++ cs) ≡ Octet b ∷ tokens_from_chars cs
unfolding is_byte tokens_from_chars is_pct_encoded
tokens-begin-with-octet b cs e =
    let p = and_parts _ _ (byte-digits-have-its-value b (ltb-true b 256 e)) in
    cond-true _ _ _ p.0 ∙ ap (λ n. Octet n ∷ tokens_from_chars cs) (eqb-true _ b p.1)

-- IRIs as URIs, tokens: a run of `%XX` at the start is the octets of its bytes
tokens-begin-with-octets : (bs cs : List ℕ) → list_all is_byte bs ≡ true
    → tokens_from_chars (flat_map octet_text bs ++ cs) ≡ map Octet bs ++ tokens_from_chars cs
tokens-begin-with-octets [] cs e = refl
tokens-begin-with-octets (b ∷ bs) cs e =
    let p = and_parts _ _ e in
    ap tokens_from_chars (append_assoc (octet_text b) _ cs) ∙ tokens-begin-with-octet b _ p.0
    ∙ ap (λ ts. Octet b ∷ ts) (tokens-begin-with-octets bs cs p.1)

-- IRIs as URIs: a character past ASCII is encoded as a text that begins with `%` (37)
encoded-past-ascii-begins-with-percent : (c : ℕ) (cs : List ℕ) → 128 ≤ c
    → get_or (encoded_chars (c ∷ cs)) 0 0 ≡ 37
unfolding encoded_chars
encoded-past-ascii-begins-with-percent c cs h = ap (λ t. get_or (t ++ encoded_chars cs) 0 0)
    (cond-false _ _ _ (le-ltb c 128 h) ∙ ap (flat_map octet_text) (char_has_encoding c).joined)

-- IRIs as URIs: a text begins with a hexadecimal digit exactly if it does when encoded
encoding-keeps-leading-hex-digit : (cs : List ℕ)
    → is_ascii_hexdigit (get_or (encoded_chars cs) 0 0) ≡ is_ascii_hexdigit (get_or cs 0 0)
unfolding encoded_chars
encoding-keeps-leading-hex-digit cs =
    grind (arith, common_steps, encoded-past-ascii-begins-with-percent)

-- IRIs as URIs: a text begins with two hexadecimal digits exactly if it does when encoded
encoding-keeps-two-leading-hex-digits : (cs : List ℕ) → begins_with_hex_digits (encoded_chars cs)
    ≡ begins_with_hex_digits cs
unfolding begins_with_hex_digits encoded_chars
encoding-keeps-two-leading-hex-digits [] = refl
encoding-keeps-two-leading-hex-digits (c ∷ cs) = ⊎_elim
    (λ h. ap (λ t. is_ascii_hexdigit (get_or (t ++ encoded_chars cs) 0 0)
    && is_ascii_hexdigit (get_or (t ++ encoded_chars cs) 1 0)) (cond-true _ _ _ (lt-ltb c 128 h))
    ∙ ap (λ t. is_ascii_hexdigit c && t) (encoding-keeps-leading-hex-digit cs))
    (λ h. and_left _ _ (ap is_ascii_hexdigit (encoded-past-ascii-begins-with-percent c cs h))
    ∙ sym (and_left _ _ (past_ascii_is_no_hexdigit c h))) (cases_lt c 128)

-- IRIs as URIs: if the tokens of encoded characters are right,
-- so they are with one more character that begins no octet
tokens-of-encoded-character : (c : ℕ) (cs : List ℕ) → all_scalars (c ∷ cs) ≡ true
    → (eqb c 37 && begins_with_hex_digits cs) ≡ false → tokens_from_chars (encoded_chars cs)
    ≡ flat_map encoded_token (tokens_from_chars cs) → tokens_from_chars (encoded_chars (c ∷ cs))
    ≡ flat_map encoded_token (tokens_from_chars (c ∷ cs))
unfolding encoded_chars
tokens-of-encoded-character c cs s e ih = grind (
  arith,
  nat_tests,
  tokens-begin-with-literal-character,
  encoding-keeps-two-leading-hex-digits,
  tokens-begin-with-octets,
  utf8-of-character-is-bytes,
)

-- IRIs as URIs, tokens: an octet is `%` (37) and two hexadecimal digits
pct-encoded-is-percent-and-hex-digits : (c h l : ℕ) → is_pct_encoded c h l ≡ true
    → (eqb c 37 && (is_ascii_hexdigit h && is_ascii_hexdigit l)) ≡ true
unfolding is_pct_encoded
pct-encoded-is-percent-and-hex-digits c h l e = e

empty-text-begins-with-no-hex-digits : (cs : List ℕ) → cs ≡ [] → begins_with_hex_digits cs ≡ false
unfolding begins_with_hex_digits
empty-text-begins-with-no-hex-digits cs e = grind (arith, common_steps)

one-character-is-not-two-hex-digits : (d : ℕ) → begins_with_hex_digits (d ∷ []) ≡ false
unfolding begins_with_hex_digits
one-character-is-not-two-hex-digits d = and_right _ _ refl

-- IRIs as URIs: an octet (c, h, l) before a text keeps the tokens
-- of the encoded text those of the text, encoded
tokens-of-encoded-octet : (c h l : ℕ) (rest : List ℕ) → is_pct_encoded c h l ≡ true
    → tokens_from_chars (encoded_chars rest) ≡ flat_map encoded_token (tokens_from_chars rest)
    → tokens_from_chars (encoded_chars (c ∷ h ∷ l ∷ rest))
    ≡ flat_map encoded_token (tokens_from_chars (c ∷ h ∷ l ∷ rest))
unfolding encoded_chars tokens_from_chars
tokens-of-encoded-octet c h l rest e ih =
    let p = parts c h l e in
    ap (λ t. tokens_from_chars (t ++ (encoded_char h ++ (encoded_char l ++ encoded_chars rest))))
    (cond-true _ _ _ (lt-ltb c 128 p.0)) ∙ ap (λ t. tokens_from_chars
    (c ∷ (t ++ (encoded_char l ++ encoded_chars rest)))) (cond-true _ _ _ (lt-ltb h 128 p.1))
    ∙ ap (λ t. tokens_from_chars (c ∷ h ∷ (t ++ encoded_chars rest))) (cond-true _ _ _
    (lt-ltb l 128 p.2))
    ∙ cond-true _ _ _ e ∙ ap (λ ts. Octet (16 * digit_value h + digit_value l) ∷ ts) ih
    ∙ sym (ap (flat_map encoded_token) (cond-true _ _ _ e))
  where
    percent_low : (c : ℕ) → eqb c 37 ≡ true → c < 128
    percent_low c e = grind (arith, nat_tests)

    parts : (c h l : ℕ) → is_pct_encoded c h l ≡ true → (c < 128) × (h < 128) × (l < 128)
    parts c h l e =
        let p = and_parts (eqb c 37) (is_ascii_hexdigit h && is_ascii_hexdigit l)
        (pct-encoded-is-percent-and-hex-digits c h l e) in
        let q = and_parts (is_ascii_hexdigit h) (is_ascii_hexdigit l) p.1 in
        (percent_low c p.0, hexdigit_is_ascii h q.0, hexdigit_is_ascii l q.1)

tokens-of-encoded-characters : (cs : List ℕ) → all_scalars cs ≡ true
    → tokens_from_chars (encoded_chars cs) ≡ flat_map encoded_token (tokens_from_chars cs)
unfolding tokens_from_chars encoded_chars
tokens-of-encoded-characters [] s = refl
tokens-of-encoded-characters (c ∷ []) s = tokens-of-encoded-character c [] s
    (and_right _ _ (empty-text-begins-with-no-hex-digits [] refl)) refl
tokens-of-encoded-characters (c ∷ d ∷ []) s =
    tokens-of-encoded-character c (d ∷ []) s (and_right _ _ (one-character-is-not-two-hex-digits d))
    (tokens-of-encoded-characters (d ∷ []) (and_parts _ _ s).1)
tokens-of-encoded-characters (c ∷ h ∷ l ∷ rest) s =
    let p = and_parts _ (all_scalars (h ∷ l ∷ rest)) s in
    let q = and_parts _ (all_scalars (l ∷ rest)) p.1 in
    let r = and_parts _ (all_scalars rest) q.1 in
    ⊎_elim (λ e. tokens-of-encoded-octet c h l rest e (tokens-of-encoded-characters rest r.1))
    (λ e. tokens-of-encoded-character c (h ∷ l ∷ rest) s (chars_not_pct_encoded_begin_no_octet c h
    l rest e) (tokens-of-encoded-characters (h ∷ l ∷ rest) p.1)) (cases_Bool (is_pct_encoded c h l))

pub tokens-of-encoded-text : (text : List ℕ) → IsUtf8 text
    → tokens (encode_past_ascii text) ≡ flat_map encoded_token (tokens text)
tokens-of-encoded-text text u =
    let same : text ≡ encode_utf8_all u.0 = sym u.1.1 in
    let joined : encode_past_ascii text ≡ encoded_chars u.0 = ap encode_past_ascii same
    ∙ encoding-is-character-by-character u.0 in
    ap tokens_from_chars (chars-IsAscii (encode_past_ascii text)
    (ascii-bytes-are-ascii-text (encode_past_ascii text) (encoded-text-is-ascii text u)) ∙ joined)
    ∙ tokens-of-encoded-characters u.0 u.1.0 ∙ ap (λ cs. flat_map encoded_token
    (tokens_from_chars cs)) (sym (ap chars same ∙ chars-encodes u.0 u.1.0))

encoded-token-has-same-bytes : (t : Token) → bytes_decoded_from (encoded_token t)
    ≡ bytes_of_one_token t
encoded-token-has-same-bytes (Octet value) = refl
encoded-token-has-same-bytes (Char c) =
    grind (arith, nat_tests, append-nil, octets_decode_to_their_bytes)

encoded-tokens-have-same-bytes : (ts : List Token) → bytes_decoded_from (flat_map encoded_token ts)
    ≡ bytes_decoded_from ts
encoded-tokens-have-same-bytes [] = refl
encoded-tokens-have-same-bytes (t ∷ ts) =
    grind (arith, common_steps, encoded-token-has-same-bytes, encoded-tokens-have-same-bytes ts)

pub encoding-keeps-decoded-bytes : (text : List ℕ) → IsUtf8 text
    → bytes_decoded_from (tokens (encode_past_ascii text)) ≡ bytes_decoded_from (tokens text)
encoding-keeps-decoded-bytes text u = ap bytes_decoded_from (tokens-of-encoded-text text u)
    ∙ encoded-tokens-have-same-bytes (tokens text)
