-- The values that the lines of JSON represent: of a reference, and of the pairs of a query.
use Rattle.std.specs.Prelude.{ℕ, List, [], ◌∷◌, codes, Option, Some, None, option_map, option_and_then}
use Rattle.std.specs.Str.{chars}
use Rattle.uri_query.specs.Pairs.{NameAndValue}
use Rattle.fluent_uri.specs.Prelude.{Components, authority_parts, host_kind}
use Rattle.uri_streams.specs.Json.{host_word}
use Rattle.uri_streams.specs.JsonTexts.{JsonValue, Array, Object, String, Elements, EndOfArray, Element, Members, EndOfObject, Member}
use Rattle.uri_streams.specs.Queries.{pairs_of_query}

-- a text as a value: the string of its characters
abbrev pub text_value : List ℕ → JsonValue
text_value text = String (chars text)

-- a pair of a query as a value: an array of its name and its value
abbrev pub pair_value : NameAndValue → JsonValue
pair_value pair = Array (Element (text_value pair.0) (Element (text_value pair.1) EndOfArray))

-- pairs of a query as elements of an array
abbrev pub pair_elements : List NameAndValue → Elements
pair_elements [] = EndOfArray
pair_elements (pair ∷ pairs) = Element (pair_value pair) (pair_elements pairs)

-- a query, which may be absent, as a value: an array of its decoded pairs
abbrev pub query_value : Option (List ℕ) → JsonValue
query_value query = Array (pair_elements (pairs_of_query query))

-- names with texts as members of an object
abbrev pub text_members : List (List ℕ × List ℕ) → Members
text_members [] = EndOfObject
text_members (named ∷ others) = Member (chars named.0) (text_value named.1) (text_members others)

-- these names with texts, after another one whose text may be absent
abbrev pub with_present : List ℕ → Option (List ℕ) → List (List ℕ × List ℕ)
    → List (List ℕ × List ℕ)
with_present name None others = others
with_present name (Some text) others = (name, text) ∷ others

-- the names whose texts are present, with these texts
abbrev pub present : List (List ℕ × Option (List ℕ)) → List (List ℕ × List ℕ)
present [] = []
present (named ∷ others) = with_present named.0 named.1 (present others)

-- the components of a reference and those of its authority, with their names (RFC 3986, sections 3
-- and 3.2)
abbrev pub named_components : Components → List (List ℕ × Option (List ℕ))
named_components p =
    let authority = option_map authority_parts p.authority in
    (codes "scheme", p.scheme)
    ∷ (codes "authority", p.authority)
    ∷ (codes "userinfo", option_and_then (λ a. a.userinfo) authority)
    ∷ (codes "host", option_map (λ a. a.host) authority)
    ∷ (codes "host_kind", option_map (λ a. host_word (host_kind a.host)) authority)
    ∷ (codes "port", option_and_then (λ a. a.port) authority)
    ∷ (codes "path", Some p.path)
    ∷ (codes "query", p.query)
    ∷ (codes "fragment", p.fragment)
    ∷ []

-- the components of a reference as a value: an object of those that are present
abbrev pub components_value : Components → JsonValue
components_value p = Object (text_members (present (named_components p)))
