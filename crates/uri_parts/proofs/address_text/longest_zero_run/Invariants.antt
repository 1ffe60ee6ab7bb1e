use Rattle.uri_parts.proofs.Common.{◌≡◌, ◌+◌, ◌≤◌, length, drop, zero_run, longest_zero_run}
use Rattle.uri_parts.proofs.address_text.longest_zero_run.Given as goal

abbrev pub invariant-loop-i : goal.invariant-loop-i
invariant-loop-i l = record {
  run : l.run ≡ zero_run (drop l.i l.segments);
  longest : l.longest ≡ (longest_zero_run (drop l.i l.segments)).1;
  start : l.start ≡ l.i + (longest_zero_run (drop l.i l.segments)).0;
  run_inside : l.i + l.run ≤ length l.segments;
  inside : l.start + l.longest ≤ length l.segments;
}
