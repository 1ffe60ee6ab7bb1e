use Rattle.uri_ops.proofs.Common.{◌-◌, ◌≡◌, ◌≤◌, false, length, drop, has_slash}
use Rattle.uri_ops.proofs.path.dot_segments.last_slash_before.Given as goal

abbrev pub invariant-loop-end : goal.invariant-loop-end
invariant-loop-end l = record {
  from : l.start ≤ l.end;
  within : l.end ≤ length l.bytes;
  none : has_slash (drop l.end l.bytes) ≡ false;
}

abbrev pub decreases-loop-end : goal.decreases-loop-end
decreases-loop-end l = l.end - l.start
