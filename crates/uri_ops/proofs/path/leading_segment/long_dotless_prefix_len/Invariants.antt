use Rattle.uri_ops.proofs.Common.{◌≡◌, ◌≤◌, ◌<◌, ◌+◌, ◌-◌, ℕ, false, has_slash_dot_at}
use Rattle.uri_ops.proofs.path.leading_segment.long_dotless_prefix_len.Given as goal

abbrev pub invariant-loop-i : goal.invariant-loop-i
invariant-loop-i l = record {
  within : l.i ≤ l.last + 16;
  none : (k : ℕ) → k < l.i → has_slash_dot_at l.bytes k ≡ false;
}

abbrev pub decreases-loop-i : goal.decreases-loop-i
decreases-loop-i l = l.last - l.i
