use Rattle.uri_pct.proofs.Common.{length, ◌-◌, ◌≡◌, ◌≤◌, ◌<◌, ℕ, true, slice_index, has_bit, is_char_byte}
use Rattle.uri_pct.proofs.lanes.chars_end_by_byte.Given as goal

abbrev pub invariant-loop-i : goal.invariant-loop-i
invariant-loop-i l = record {
  from : l.start ≤ l.i;
  within : l.i ≤ length l.bytes;
  pass : (k : ℕ) → l.start ≤ k → k < l.i
      → is_char_byte (has_bit l.low l.high) (slice_index l.bytes k) ≡ true;
}

abbrev pub decreases-loop-i : goal.decreases-loop-i
decreases-loop-i l = length l.bytes - l.i
