-- Texts as characters and percent-encoded octets, in the words of RFC 3986, section 2.1.
use Rattle.std.specs.Prelude.{◌≡◌, ◌≢◌, ℕ, ◌+◌, ◌*◌, true, List, [], ◌∷◌, ◌++◌}
use Rattle.std.specs.List.{list_all}
use Rattle.std.specs.Char.{IsScalar, encode_utf8, digit_value, is_ascii_hexdigit}
use Rattle.uri_pct.specs.Delimiters.{percent_sign}
use Rattle.uri_pct.specs.Sets.{TableSet}
use Rattle.uri_pct.specs.Tokens.{Token, Char, Octet, allows_token}

-- the text represents the token: a character other than `%` represents itself, and `%` with two
-- hexadecimal digits, each in either case, represents an octet (RFC 3986, section 2.1)
abbrev pub RepresentsToken : List ℕ → Token → Type 0
RepresentsToken text (Char c) = IsScalar c × (c ≢ percent_sign) × (text ≡ encode_utf8 c)
RepresentsToken text (Octet value) = (high : ℕ) × ((low : ℕ) ×
    ((is_ascii_hexdigit high ≡ true) × (is_ascii_hexdigit low ≡ true)
    × (value ≡ 16 * digit_value high + digit_value low)
    × (text ≡ percent_sign ∷ high ∷ low ∷ [])))

-- the text represents the tokens, one after the other, in the words of RFC 3986, section 2.1
unfoldable pub Represents : List ℕ → List Token → Type 0
Represents text [] = text ≡ []
Represents text (t ∷ ts) = (first : List ℕ) × ((rest : List ℕ) ×
    ((text ≡ first ++ rest) × RepresentsToken first t × Represents rest ts))

-- the text represents some tokens that the set allows, in the words of RFC 3986, section 2.1
abbrev pub RepresentsWithin : TableSet → List ℕ → Type 0
RepresentsWithin set text =
    (ts : List Token) × (Represents text ts × (list_all (allows_token set) ts ≡ true))
