-- A query as pairs of decoded texts, and pairs as a query: RFC 3986, sections 2.1 and 3.4.
use Rattle.std.specs.Prelude.{ℕ, not, ◌==◌, List, [], ◌∷◌, ◌++◌, codes, filter, map, string_bytes, if◌then◌else◌}
use Rattle.std.specs.List.{slice_split}
use Rattle.fluent_uri.specs.Prelude.{bytes_decoded_from, data_set, encode_text, is_empty, lossy_text, print, tokens}
use Rattle.uri_query.specs.declared.pairs.Pair.{Pair}

-- the byte `&`, which separates the pairs of a query
abbrev pub ampersand : ℕ
ampersand = 38

-- the byte `=`, which separates the name of a pair in a query from its value
abbrev pub equals_sign : ℕ
equals_sign = 61

-- a decoded pair of a query: its name and its value
abbrev pub NameAndValue : Type 0
NameAndValue = List ℕ × List ℕ

-- the name and the value of a pair that was read from a query, as bytes
abbrev pub pair_texts : Pair → NameAndValue
pair_texts pair = (string_bytes pair.name, string_bytes pair.value)

-- the text that a substring of a query is decoded to: what is not UTF-8 becomes U+FFFD
abbrev pub decode_text : List ℕ → List ℕ
decode_text piece = lossy_text (bytes_decoded_from (tokens piece))

-- the name of a pair in a query: what is before its first `=`, or the whole text if it has none
unfoldable pub text_before_equals : List ℕ → List ℕ
text_before_equals [] = []
text_before_equals (b ∷ bs) = if b == equals_sign then [] else b ∷ text_before_equals bs

-- the value of a pair in a query: what is after its first `=`, or nothing if it has none
unfoldable pub text_after_equals : List ℕ → List ℕ
text_after_equals [] = []
text_after_equals (b ∷ bs) = if b == equals_sign then bs else text_after_equals bs

-- the decoded name and value of a substring of a query, cut at its first `=`
abbrev pub decode_pair : List ℕ → NameAndValue
decode_pair piece = (decode_text (text_before_equals piece), decode_text (text_after_equals piece))

-- those of some substrings of a query that are not empty
abbrev pub those_with_bytes : List (List ℕ) → List (List ℕ)
those_with_bytes pieces = filter (λ piece. not (is_empty piece)) pieces

-- the substrings of a query between its `&` that are not empty: each is a pair
abbrev pub nonempty_substrings : List ℕ → List (List ℕ)
nonempty_substrings query = those_with_bytes (slice_split (λ b. b == ampersand) query)

-- the decoded pairs of those substrings of a query that are not empty
abbrev pub decode_nonempty_substrings : List (List ℕ) → List NameAndValue
decode_nonempty_substrings pieces = map decode_pair (those_with_bytes pieces)

-- the decoded pairs of a query: one for each substring between its `&` that is not empty
abbrev pub decode_pairs : List ℕ → List NameAndValue
decode_pairs query = map decode_pair (nonempty_substrings query)

-- a name or a value as a query has it: percent-encoded as data
abbrev pub data_text : List ℕ → List ℕ
data_text text = print (encode_text data_set text)

-- the text of a pair in a query: `name=value`, both percent-encoded as data
abbrev pub pair_text : NameAndValue → List ℕ
pair_text pair = data_text pair.0 ++ codes "=" ++ data_text pair.1

-- a query with one more pair at its end, after a `&` if the query is not empty
abbrev pub append_pair : List ℕ → NameAndValue → List ℕ
append_pair [] pair = pair_text pair
append_pair (c ∷ cs) pair = (c ∷ cs) ++ codes "&" ++ pair_text pair

-- a query with more pairs at its end, separated by `&`
abbrev pub query_from : List ℕ → List NameAndValue → List ℕ
query_from text [] = text
query_from text (pair ∷ pairs) = query_from (append_pair text pair) pairs

-- the query of pairs, separated by `&`
abbrev pub query_text : List NameAndValue → List ℕ
query_text pairs = query_from [] pairs
