-- The lines of JSON represent the components of a text of a kind, and the pairs of a query. So they
-- determine them.
use native.Mathlib.Omega.{arith}
use Rattle.uri_streams.proofs.Common.{◌≡◌, ℕ, List, [], ◌∷◌, refl, sym, ap, ◌∙◌, subst, Option, map, AllByRecursion, flat_map, encode_utf8, IsUtf8, is_utf8, chars, recursion_from_All, IsUtf8-append, IsUtf8-encode, IsUtf8-nil, IsUtf8-from_is_utf8, decode_pair, components, recompose, IsTextOf, json_of, JsonValue, IsJsonTextOf, components_value, query_value, pairs_of_query, query_json, kind_named, KindName}
use Rattle.std.specs.Str.Lossy.{replacement_bytes}
use Rattle.uri_pct.specs.Pieces.{Piece, WellFormed, IllFormed, IsOfCharacter, char_of, lossy_piece, lossy_text, utf8_pieces}
use Rattle.uri_pct.proofs.Offered.{utf8_pieces-are-of-characters}
use Rattle.uri_parts.proofs.Offered.{recompose-components}
use Rattle.uri_streams.proofs.JsonComponents.{equal-objects-have-equal-components}
use Rattle.uri_streams.proofs.JsonObjects.{json_of-is-json-object}
use Rattle.uri_streams.proofs.JsonPairs.{AreUtf8, pairs-are-json-array, equal-arrays-have-equal-pairs}
use Rattle.uri_streams.proofs.JsonReading.{json-text-represents-one-value}
use Rattle.uri_streams.proofs.PlainComponents.{text-has-plain-components}

pub parse-line-is-json-object : (name : KindName) (text : List ℕ) → IsTextOf (kind_named name) text
    → IsJsonTextOf (components_value (components text)) (json_of (components text))
parse-line-is-json-object name text h =
    json_of-is-json-object (components text) (text-has-plain-components name text h)

pub parse-lines-of-one-value-have-one-text : (name other : KindName) (a b : List ℕ)
    (v : JsonValue) → IsTextOf (kind_named name) a → IsTextOf (kind_named other) b
    → IsJsonTextOf v (json_of (components a)) → IsJsonTextOf v (json_of (components b)) → a ≡ b
parse-lines-of-one-value-have-one-text name other a b v h k first second =
    let same : components_value (components a) ≡ components_value (components b) =
    json-text-represents-one-value (json_of (components a)) _ v (parse-line-is-json-object name a h)
    first ∙ json-text-represents-one-value (json_of (components b)) v _ second
    (parse-line-is-json-object other b k) in
    sym (recompose-components a) ∙ ap recompose (equal-objects-have-equal-components (components a)
    (components b) (text-has-plain-components name a h) (text-has-plain-components other b k) same)
    ∙ recompose-components b

-- lines of JSON: U+FFFD is UTF-8
replacement-is-utf8 : IsUtf8 replacement_bytes
unfolding is_utf8 chars encode_utf8
replacement-is-utf8 = IsUtf8-from_is_utf8 replacement_bytes refl

-- lines of JSON: what is decoded with U+FFFD for what is not UTF-8 is UTF-8
lossy-pieces-are-utf8 : (pieces : List Piece) → AllByRecursion IsOfCharacter pieces
    → IsUtf8 (flat_map lossy_piece pieces)
lossy-pieces-are-utf8 [] h = IsUtf8-nil
lossy-pieces-are-utf8 (piece ∷ pieces) (p, h) =
    IsUtf8-append (lossy_piece piece) (flat_map lossy_piece pieces) (at piece p)
    (lossy-pieces-are-utf8 pieces h)
  where
    at : (piece : Piece) → IsOfCharacter piece → IsUtf8 (lossy_piece piece)
    at (WellFormed bytes) p = subst IsUtf8 p.1 (IsUtf8-encode (char_of bytes) p.0)
    at (IllFormed bytes) p = replacement-is-utf8

-- lines of JSON: a text with U+FFFD for what is not UTF-8 is UTF-8
lossy-text-is-utf8 : (bytes : List ℕ) → IsUtf8 (lossy_text bytes)
lossy-text-is-utf8 bytes = lossy-pieces-are-utf8 (utf8_pieces bytes)
    (recursion_from_All IsOfCharacter (utf8_pieces bytes) (utf8_pieces-are-of-characters bytes))

decoded-pairs-are-utf8 : (pieces : List (List ℕ)) → AreUtf8 (map decode_pair pieces)
decoded-pairs-are-utf8 [] = tt
decoded-pairs-are-utf8 (piece ∷ pieces) =
    (lossy-text-is-utf8 _, lossy-text-is-utf8 _, decoded-pairs-are-utf8 pieces)

pairs-of-query-are-utf8 : (query : Option (List ℕ)) → AreUtf8 (pairs_of_query query)
pairs-of-query-are-utf8 query = grind (arith, decoded-pairs-are-utf8)

pub query-line-is-json-array : (query : Option (List ℕ))
    → IsJsonTextOf (query_value query) (query_json query)
unfolding query_json
query-line-is-json-array query =
    pairs-are-json-array (pairs_of_query query) (pairs-of-query-are-utf8 query)

pub query-lines-of-one-value-have-same-pairs : (a b : Option (List ℕ)) (v : JsonValue)
    → IsJsonTextOf v (query_json a) → IsJsonTextOf v (query_json b)
    → pairs_of_query a ≡ pairs_of_query b
query-lines-of-one-value-have-same-pairs a b v first second = equal-arrays-have-equal-pairs
    (pairs_of_query a) (pairs_of_query b) (pairs-of-query-are-utf8 a) (pairs-of-query-are-utf8 b)
    (json-text-represents-one-value (query_json a) _ v (query-line-is-json-array a) first
    ∙ json-text-represents-one-value (query_json b) v _ second (query-line-is-json-array b))
