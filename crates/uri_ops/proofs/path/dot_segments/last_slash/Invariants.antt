use Rattle.uri_ops.proofs.Common.{◌-◌, ◌≡◌, ◌≤◌, false, length, drop, has_slash}
use Rattle.uri_ops.proofs.path.dot_segments.last_slash.Given as goal

abbrev pub invariant-loop-left : goal.invariant-loop-left
invariant-loop-left l = record {
  from : l.start ≤ l.left;
  within : l.left ≤ length l.bytes;
  none : has_slash (drop l.left l.bytes) ≡ false;
}

abbrev pub decreases-loop-left : goal.decreases-loop-left
decreases-loop-left l = l.left - l.start
