-- A text as a list of characters and percent-encoded octets: RFC 3986, section 2.1.
use Rattle.std.specs.Prelude.{◌≡◌, ℕ, ◌+◌, ◌*◌, ◌/◌, ◌%◌, Bool, true, ◌&&◌, ◌==◌, List, [], ◌∷◌, if◌then◌else◌}
use Rattle.std.specs.List.{list_all, flat_map}
use Rattle.std.specs.Char.{encode_utf8, digit_value, is_ascii_hexdigit}
use Rattle.std.specs.Fmt.{digit_glyph}
use Rattle.std.specs.Str.{chars}
use Rattle.uri_pct.specs.Sets.{TableSet, allows}
use Rattle.uri_pct.specs.Delimiters.{percent_sign}

-- a token of a text: a literal character, or the value of an octet that is written as `%` and two
-- hexadecimal digits (RFC 3986, section 2.1)
pub data Token : Type 0 where
  Char : ℕ → Token
  Octet : ℕ → Token

-- the three characters are a percent-encoded octet: `%` and two hexadecimal digits (RFC 3986,
-- section 2.1)
unfoldable pub is_pct_encoded : ℕ → ℕ → ℕ → Bool
is_pct_encoded percent high low =
    percent == percent_sign && (is_ascii_hexdigit high && is_ascii_hexdigit low)

-- the tokens of a text that is given by its characters: these, and its percent-encoded octets
-- (RFC 3986, section 2.1).
-- A `%` that two digits do not follow is a character, which no set allows.
unfoldable pub tokens_from_chars : List ℕ → List Token
tokens_from_chars [] = []
tokens_from_chars (c ∷ []) = Char c ∷ []
tokens_from_chars (c ∷ d ∷ []) = Char c ∷ Char d ∷ []
tokens_from_chars (c ∷ high ∷ low ∷ rest) =
    if is_pct_encoded c high low
    then Octet (16 * digit_value high + digit_value low) ∷ tokens_from_chars rest
    else Char c ∷ tokens_from_chars (high ∷ low ∷ rest)

-- the tokens of a text that is given by its bytes: its characters and its percent-encoded octets
-- (RFC 3986, section 2.1)
abbrev pub tokens : List ℕ → List Token
tokens text = tokens_from_chars (chars text)

-- the set allows the token: the character, or percent-encoded octets
abbrev pub allows_token : TableSet → Token → Bool
allows_token set (Char c) = allows set c
allows_token set (Octet value) = set.pct_encoded

-- the text is valid for the set: each of its characters is in the set, and the set allows
-- percent-encoded octets if it has any (RFC 3986, section 2.1)
unfoldable pub is_valid_for : TableSet → List ℕ → Bool
is_valid_for set text = list_all (allows_token set) (tokens text)

-- the text is valid for the set: it is made of characters of the set and, if the set allows them,
-- percent-encoded octets (RFC 3986, section 2.1)
abbrev pub IsValidFor : TableSet → List ℕ → Type 0
IsValidFor set text = is_valid_for set text ≡ true

-- the bytes that a token decodes to: the UTF-8 of a character, or the one byte of an octet
abbrev pub bytes_of_one_token : Token → List ℕ
bytes_of_one_token (Char c) = encode_utf8 c
bytes_of_one_token (Octet value) = value ∷ []

-- the bytes that tokens decode to, one after the other (RFC 3986, section 2.1)
abbrev pub bytes_decoded_from : List Token → List ℕ
bytes_decoded_from ts = flat_map bytes_of_one_token ts

-- the text of a token: a character's UTF-8, or an octet as `%` and two upper-case hexadecimal
-- digits (RFC 3986, section 6.2.2.1)
abbrev pub text_of_token : Token → List ℕ
text_of_token (Char c) = encode_utf8 c
text_of_token (Octet value) =
    percent_sign ∷ digit_glyph true (value / 16) ∷ digit_glyph true (value % 16) ∷ []

-- the text of tokens, one after the other, with upper-case digits in percent-encoded octets
-- (RFC 3986, section 6.2.2.1)
abbrev pub print : List Token → List ℕ
print ts = flat_map text_of_token ts
