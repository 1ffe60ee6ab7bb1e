-- The pairs of a query as a line of JSON (RFC 8259): an array of arrays of a name and a value.
use Rattle.std.specs.Prelude.{ℕ, ◌+◌, ◌%◌, ◌==◌, List, [], ◌∷◌, ◌++◌, codes, encode_utf8, nat_lt, Option, Some, None, if◌then◌else◌}
use Rattle.std.specs.List.{flat_map}
use Rattle.std.specs.Str.{chars}
use Rattle.uri_query.specs.Pairs.{NameAndValue, decode_pairs}

-- the code of the hexadecimal digit of a number below 16, in lower case, for an escape in JSON
abbrev pub hex_digit : ℕ → ℕ
hex_digit n = if nat_lt n 10 then 48 + n else 87 + n

-- a control character in JSON: it is escaped by the four digits of its number (RFC 8259, section 7)
abbrev pub control_json : ℕ → List ℕ
control_json c =
    (if nat_lt c 16 then codes "\\u000" else codes "\\u001") ++ hex_digit (c % 16) ∷ []

-- a character of a text in JSON: `"`, `\` and control characters are escaped (RFC 8259, section 7)
abbrev pub escaped_char : ℕ → List ℕ
escaped_char c =
    if c == 34 then codes "\\\""
    else (if c == 92 then codes "\\\\"
    else (if nat_lt c 32 then control_json c else encode_utf8 c))

-- a text in JSON: the characters are escaped that must be (RFC 8259, section 7)
abbrev pub escaped_text : List ℕ → List ℕ
escaped_text text = flat_map escaped_char (chars text)

-- a pair of a query in JSON: an array of its name and its value
abbrev pub pair_json : NameAndValue → List ℕ
pair_json pair =
    codes "[\"" ++ escaped_text pair.0 ++ codes "\",\"" ++ escaped_text pair.1 ++ codes "\"]"

-- the pairs of a query after the first in JSON, each with a comma before it
abbrev pub following_pairs_json : List NameAndValue → List ℕ
following_pairs_json pairs = flat_map (λ pair. codes "," ++ pair_json pair) pairs

-- the pairs of a query in JSON, with commas between them
abbrev pub pairs_json : List NameAndValue → List ℕ
pairs_json [] = []
pairs_json (pair ∷ pairs) = pair_json pair ++ following_pairs_json pairs

-- the decoded pairs of a query, or none if there is no query
abbrev pub pairs_of_query : Option (List ℕ) → List NameAndValue
pairs_of_query None = []
pairs_of_query (Some query) = decode_pairs query

-- the pairs of a query in JSON, an array which is empty if there is no query
unfoldable pub query_json : Option (List ℕ) → List ℕ
query_json query = codes "[" ++ pairs_json (pairs_of_query query) ++ codes "]"
