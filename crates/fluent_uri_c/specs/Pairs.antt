-- The pairs of a query, as the caller learns them: RFC 3986, section 3.4.
use Rattle.std.specs.Prelude.{◌≡◌, ◌≢◌, ℕ, ◌+◌, ◌<◌, ◌≤◌, List, [], ◌∷◌, Some, drop, length, nat_lt, slice_range, if◌then◌else◌}
use Rattle.uri_query.specs.Pairs.{nonempty_substrings, text_before_equals}
use Rattle.uri_query.specs.Places.{value_of_pair}
use Rattle.uri_query.specs.declared.places.PairPlace.{PairPlace}
use Rattle.fluent_uri_c.specs.declared.parts.Span.{Span}
use Rattle.fluent_uri_c.specs.declared.queries.Pair.{Pair}
use Rattle.fluent_uri_c.specs.Spans.{IsSpan, absent}

-- the span, for C, of the value of a pair at this place: what is after its `=`, if it has one
abbrev pub value_span : PairPlace → Span
value_span place =
    if nat_lt place.name_end place.end
    then record { start = place.name_end + 1; end = place.end } else absent

-- The next pair of a query, from a position on, is the one that a call reports.
-- It is the first substring that is not empty. Those after the position that is reported are the
-- others. The spans are those of its name and of its value.
pub record HasNextPair (query : List ℕ) (from to : ℕ) (pair : Pair) : Type 0 where
  pub start : from ≤ pair.name.start
  pub some : pair.name.start < to
  pub within : to ≤ length query
  pub rest : nonempty_substrings (drop from query)
      ≡ slice_range query pair.name.start to ∷ nonempty_substrings (drop to query)
  pub name : IsSpan query pair.name.start
      (Some (text_before_equals (slice_range query pair.name.start to))) pair.name
  pub value : IsSpan query (pair.name.end + 1)
      (value_of_pair (slice_range query pair.name.start to)) pair.value

-- What `fluent_uri_next_pair` reports and returns: 1 and the next pair of a query, from a position
-- on, or 0 if there is none.
-- If it returns another number than 1, nothing has changed.
pub record LeavesPair (query : List ℕ) (from to : ℕ) (old new : Pair) (returned : ℕ) : Type 0 where
  pub number : returned ≤ 1
  pub pair : returned ≡ 1 → HasNextPair query from to new
  pub none : returned ≡ 0 → nonempty_substrings (drop from query) ≡ []
  pub position : returned ≢ 1 → to ≡ from
  pub kept : returned ≢ 1 → new ≡ old
