use Rattle.std.proofs.Common.{◌≡◌, ◌-◌, ◌≤◌, length, take}
use Rattle.uri_relative.proofs.paths.shared_prefix_len.Given as goal

abbrev pub invariant-loop-i : goal.invariant-loop-i
invariant-loop-i l = record {
  in_one : l.i ≤ length l.one;
  in_other : l.i ≤ length l.other;
  same : take l.i l.one ≡ take l.i l.other;
}

abbrev pub decreases-loop-i : goal.decreases-loop-i
decreases-loop-i l = length l.one - l.i
