-- Where the pairs of a query are: RFC 3986, section 3.4.
use Rattle.std.specs.Prelude.{◌≡◌, ℕ, ◌+◌, ◌<◌, ◌≤◌, List, ◌∷◌, Option, Some, None, drop, length, nat_lt, slice_range, if◌then◌else◌}
use Rattle.fluent_uri.specs.Prelude.{lacks}
use Rattle.uri_query.specs.Pairs.{equals_sign, nonempty_substrings, text_after_equals, text_before_equals}
use Rattle.uri_query.specs.declared.places.PairPlace.{PairPlace}

-- the value of a pair, a substring of a query, as it is there: what is after its first `=`, if it
-- has one
abbrev pub value_of_pair : List ℕ → Option (List ℕ)
value_of_pair pair = if lacks equals_sign pair then None else Some (text_after_equals pair)

-- the substring of a query that is the pair at this place
abbrev pub pair_at : List ℕ → PairPlace → List ℕ
pair_at query place = slice_range query place.start place.end

-- the name of the pair at this place
abbrev pub name_at : List ℕ → PairPlace → List ℕ
name_at query place = slice_range query place.start place.name_end

-- the value of the pair at this place, which has none if its name ends where the pair does
abbrev pub value_at : List ℕ → PairPlace → Option (List ℕ)
value_at query place =
    if nat_lt place.name_end place.end
    then Some (slice_range query (place.name_end + 1) place.end) else None

-- The pair at this place is the next one of the query, from a position on.
-- It is the first substring that is not empty, and those after its end are the others. Its name is
-- what is before its first `=`, and its value what is after that.
pub record IsNextPair (query : List ℕ) (from : ℕ) (place : PairPlace) : Type 0 where
  pub start : from ≤ place.start
  pub some : place.start < place.end
  pub within : place.end ≤ length query
  pub name_start : place.start ≤ place.name_end
  pub name_end : place.name_end ≤ place.end
  pub name : name_at query place ≡ text_before_equals (pair_at query place)
  pub value : value_at query place ≡ value_of_pair (pair_at query place)
  pub rest : nonempty_substrings (drop from query)
      ≡ pair_at query place ∷ nonempty_substrings (drop place.end query)
