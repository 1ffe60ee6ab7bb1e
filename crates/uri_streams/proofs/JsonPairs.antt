-- The line of JSON for a query represents its pairs, and determines them.
use Rattle.uri_streams.proofs.Common.{arith, ◌≡◌, ℕ, List, [], ◌∷◌, ◌++◌, append_assoc, refl, sym, ap, ◌∙◌, subst, codes, IsUtf8, chars, encode_utf8_all, encodes-chars, NameAndValue, JsonValue, Array, String, Elements, EndOfArray, Element, IsStructural, RepresentsValue, RepresentsElements, RepresentsMoreElements, IsJsonTextOf, pair_value, pair_elements, pair_json, following_pairs_json, pairs_json}
use Rattle.uri_streams.proofs.JsonStringTexts.{AreTextOf, ◌and_then◌, nothing-is-text, mark-is-structural, escaped-string-is-text, value-is-json-text}

-- lines of JSON: names and values in UTF-8
abbrev pub AreUtf8 : List NameAndValue → Type 0
AreUtf8 [] = Unit {0}
AreUtf8 (pair ∷ pairs) = IsUtf8 pair.0 × IsUtf8 pair.1 × AreUtf8 pairs

pub comma-is-structural : AreTextOf (IsStructural (codes ",")) (codes ",")
comma-is-structural = mark-is-structural 44 refl

-- lines of JSON: a pair is an array of two strings
pair_json-is-text : (pair : NameAndValue) → IsUtf8 pair.0 → IsUtf8 pair.1
    → AreTextOf (RepresentsValue (pair_value pair)) (pair_json pair)
pair_json-is-text pair u v =
    subst (AreTextOf (RepresentsValue (pair_value pair))) (simp append_assoc)
    (mark-is-structural 91 refl and_then ((escaped-string-is-text pair.0 u and_then
    (comma-is-structural and_then (escaped-string-is-text pair.1 v and_then nothing-is-text)))
    and_then mark-is-structural 93 refl))

-- lines of JSON: the pairs after the first, each after a comma
following_pairs_json-are-text : (pairs : List NameAndValue) → AreUtf8 pairs
    → AreTextOf (RepresentsMoreElements (pair_elements pairs)) (following_pairs_json pairs)
following_pairs_json-are-text [] h = nothing-is-text
following_pairs_json-are-text (pair ∷ pairs) (u, v, h) = comma-is-structural and_then
    (pair_json-is-text pair u v and_then following_pairs_json-are-text pairs h)

-- lines of JSON: the pairs, separated by commas
pairs_json-are-text : (pairs : List NameAndValue) → AreUtf8 pairs
    → AreTextOf (RepresentsElements (pair_elements pairs)) (pairs_json pairs)
pairs_json-are-text [] h = nothing-is-text
pairs_json-are-text (pair ∷ pairs) (u, v, h) =
    pair_json-is-text pair u v and_then following_pairs_json-are-text pairs h

pub pairs-are-json-array : (pairs : List NameAndValue) → AreUtf8 pairs
    → IsJsonTextOf (Array (pair_elements pairs)) (codes "[" ++ pairs_json pairs ++ codes "]")
pairs-are-json-array pairs h = value-is-json-text (Array (pair_elements pairs)) _
    (mark-is-structural 91 refl and_then
    (pairs_json-are-text pairs h and_then mark-is-structural 93 refl))

-- lines of JSON: the text of a string
abbrev pub text_in : JsonValue → List ℕ
text_in (String cs) = encode_utf8_all cs
text_in other = []

-- lines of JSON: a text in UTF-8 is found in its string
pub text-is-in-its-value : (text : List ℕ) → IsUtf8 text → text_in (String (chars text)) ≡ text
text-is-in-its-value text u = encodes-chars text u

-- lines of JSON: the pair in an array of two strings
abbrev pair_in : JsonValue → NameAndValue
pair_in (Array (Element name (Element value more))) = (text_in name, text_in value)
pair_in other = ([], [])

-- lines of JSON: the pairs in an array of arrays
abbrev pairs_in_elements : Elements → List NameAndValue
pairs_in_elements EndOfArray = []
pairs_in_elements (Element v elements) = pair_in v ∷ pairs_in_elements elements

abbrev pairs_in : JsonValue → List NameAndValue
pairs_in (Array elements) = pairs_in_elements elements
pairs_in other = []

-- lines of JSON: pairs in UTF-8 are found in their array
pairs-are-in-their-value : (pairs : List NameAndValue) → AreUtf8 pairs
    → pairs_in (Array (pair_elements pairs)) ≡ pairs
pairs-are-in-their-value [] h = refl
pairs-are-in-their-value (pair ∷ pairs) (u, v, h) =
    grind (arith, chars, text-is-in-its-value, pairs-are-in-their-value pairs h)

pub equal-arrays-have-equal-pairs : (xs ys : List NameAndValue) → AreUtf8 xs → AreUtf8 ys
    → Array (pair_elements xs) ≡ Array (pair_elements ys) → xs ≡ ys
equal-arrays-have-equal-pairs xs ys h k e =
    sym (pairs-are-in-their-value xs h) ∙ ap pairs_in e ∙ pairs-are-in-their-value ys k
