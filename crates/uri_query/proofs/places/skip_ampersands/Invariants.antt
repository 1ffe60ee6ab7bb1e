use Rattle.std.proofs.Common.{◌≡◌, ◌≤◌, ◌-◌, drop, length}
use Rattle.uri_query.specs.Pairs.{nonempty_substrings}
use Rattle.uri_query.proofs.places.skip_ampersands.Given as goal

abbrev pub invariant-loop-at : goal.invariant-loop-at
invariant-loop-at l = record {
  from : l.from ≤ l.at;
  within : l.at ≤ length l.query;
  left : nonempty_substrings (drop l.from l.query) ≡ nonempty_substrings (drop l.at l.query);
}

abbrev pub decreases-loop-at : goal.decreases-loop-at
decreases-loop-at l = length l.query - l.at
