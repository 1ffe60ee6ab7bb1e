use Rattle.std.proofs.Common.{◌≡◌, ◌+◌, ◌<◌, ◌≤◌, ℕ, get_or, length}
use Rattle.uri_basic.proofs.dots.last_segment_start.Given as goal

abbrev pub invariant-loop-start : goal.invariant-loop-start
invariant-loop-start l = record {
  within : l.start < length l.directory;
  none : (k : ℕ) → l.start ≤ k → k + 1 < length l.directory → get_or l.directory k 0 ≡ 47 → ⊥;
}

abbrev pub decreases-loop-start : goal.decreases-loop-start
decreases-loop-start l = l.start
