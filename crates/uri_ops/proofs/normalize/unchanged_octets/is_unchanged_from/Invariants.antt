use Rattle.uri_ops.proofs.Common.{length, ◌-◌, ◌≡◌, ◌≤◌, ◌<◌, ℕ, true, is_unchanged_at}
use Rattle.uri_ops.proofs.normalize.unchanged_octets.is_unchanged_from.Given as goal

abbrev pub invariant-loop-end : goal.invariant-loop-end
invariant-loop-end l = record {
  from : l.start ≤ l.i;
  within : l.i ≤ length l.bytes;
  unchanged : (k : ℕ) → l.start ≤ k → k < l.i → is_unchanged_at l.alone l.limit l.bytes k ≡ true;
}

abbrev pub decreases-loop-end : goal.decreases-loop-end
decreases-loop-end l = length l.bytes - l.i
