use Rattle.uri_ops.proofs.Common.{◌≡◌, ◌<◌, ◌-◌, ℕ, false, length, has_slash_dot_at}
use Rattle.uri_ops.proofs.path.leading_segment.dotless_prefix_len.Given as goal

abbrev pub invariant-loop-i : goal.invariant-loop-i
invariant-loop-i l = record {
  within : l.i < length l.bytes;
  none : (k : ℕ) → k < l.i → has_slash_dot_at l.bytes k ≡ false;
}

abbrev pub decreases-loop-i : goal.decreases-loop-i
decreases-loop-i l = length l.bytes - l.i
