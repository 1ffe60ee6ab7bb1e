-- The next pair of a query, as C gets it.
use Rattle.fluent_uri_c.proofs.Common.{ℕ, ◌≤◌, List, refl, arith, length, ◌+◌, IsSpan}
use Rattle.uri_query.specs.declared.places.PairPlace.{PairPlace}
use Rattle.uri_query.specs.Places.{IsNextPair, pair_at, value_of_pair}
use Rattle.fluent_uri_c.specs.declared.queries.Pair.{Pair}
use Rattle.fluent_uri_c.specs.Pairs.{LeavesPair, value_span}

module _ (query : List ℕ) (from : ℕ) (place : PairPlace) (next : IsNextPair query from place) where
  -- pairs for C: the value of the next pair is at its span
  value-is-at-span : IsSpan query (place.name_end + 1) (value_of_pair (pair_at query place))
      (value_span place)
  value-is-at-span = grind arith

  -- pairs for C: the next pair is the one that is reported
  pub next-pair-is-reported : (old : Pair) → LeavesPair query from place.end old (record {
    name = record { start = place.start; end = place.name_end };
    value = value_span place;
  }) 1
  next-pair-is-reported old = record {
    number = omega arith;
    pair = λ _. record {
      start = next.start;
      some = next.some;
      within = next.within;
      rest = next.rest;
      name = (refl, next.name_start, name-is-within, next.name);
      value = value-is-at-span;
    };
    none = λ e. absurd (omega (arith, e));
    position = λ other. absurd (other refl);
    kept = λ other. absurd (other refl);
  }
    where
      name-is-within : place.name_end ≤ length query
      name-is-within = omega (arith, next.name_end, next.within)
