use Rattle.uri_ops.proofs.Common.{length, ◌-◌, ◌≡◌, ◌≤◌, ◌<◌, ℕ, true, is_unchanged_at}
use Rattle.uri_ops.proofs.normalize.unchanged_octets.unchanged_octets_end.Given as goal

abbrev pub invariant-loop-end : goal.invariant-loop-end
invariant-loop-end l = record {
  from : l.start ≤ l.end;
  within : l.end ≤ length l.bytes;
  unchanged : (limit k : ℕ) → l.start ≤ k → k < l.end
      → is_unchanged_at l.alone limit l.bytes k ≡ true;
}

abbrev pub decreases-loop-end : goal.decreases-loop-end
decreases-loop-end l = length l.bytes - l.end
