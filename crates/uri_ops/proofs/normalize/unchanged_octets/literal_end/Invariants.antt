use Rattle.uri_ops.proofs.Common.{length, ◌-◌, ◌≡◌, ◌≤◌, ◌<◌, ℕ, true, is_literal_at}
use Rattle.uri_ops.proofs.normalize.unchanged_octets.literal_end.Given as goal

abbrev pub invariant-loop-i : goal.invariant-loop-i
invariant-loop-i l = record {
  from : l.start ≤ l.i;
  within : l.i ≤ length l.bytes;
  pass : (k : ℕ) → l.start ≤ k → k < l.i → is_literal_at l.bytes k ≡ true;
}

abbrev pub decreases-loop-i : goal.decreases-loop-i
decreases-loop-i l = length l.bytes - l.i
