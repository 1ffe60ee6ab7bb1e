use Rattle.uri_pct.proofs.Common.{length, ◌-◌, ◌≡◌, ◌≤◌, ◌<◌, ℕ, true, not, ◌==◌, slice_index}
use Rattle.uri_pct.proofs.search.find_byte.Given as goal

abbrev pub invariant-loop-i : goal.invariant-loop-i
invariant-loop-i l = record {
  from : l.start ≤ l.i;
  within : l.i ≤ length l.bytes;
  pass : (k : ℕ) → l.start ≤ k → k < l.i → not (slice_index l.bytes k == l.byte) ≡ true;
}

abbrev pub decreases-loop-i : goal.decreases-loop-i
decreases-loop-i l = length l.bytes - l.i

abbrev pub invariant-loop-i-2 : goal.invariant-loop-i-2
invariant-loop-i-2 l = record {
  from : l.start ≤ l.i;
  within : l.i ≤ length l.bytes;
  pass : (k : ℕ) → l.start ≤ k → k < l.i → not (slice_index l.bytes k == l.byte) ≡ true;
}

abbrev pub decreases-loop-i-2 : goal.decreases-loop-i-2
decreases-loop-i-2 l = length l.bytes - l.i
