use Rattle.uri_pct.proofs.Common.{length, drop, ◌-◌, ◌≤◌, IsUtf8}
use Rattle.uri_pct.proofs.utf8_runs.are_chars_of_two_bytes.Given as goal

abbrev pub invariant-loop-end : goal.invariant-loop-end
invariant-loop-end l = record {
  within : l.end ≤ length l.run;
  utf8 : IsUtf8 (drop l.end l.run) → IsUtf8 l.run;
}

abbrev pub decreases-loop-end : goal.decreases-loop-end
decreases-loop-end l = length l.run - l.end
