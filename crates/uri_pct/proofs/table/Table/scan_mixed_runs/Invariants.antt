use Rattle.uri_pct.proofs.Common.{length, ◌-◌, ◌≡◌, ◌+◌, drop, IsCharBoundary, valid_prefix, set_of}
use Rattle.uri_pct.proofs.table.Table.scan_mixed_runs.Given as goal

abbrev pub invariant-loop-i : goal.invariant-loop-i
invariant-loop-i l = record {
  boundary : IsCharBoundary l.bytes l.i;
  total : l.i + valid_prefix (set_of l.table) (drop l.i l.bytes)
      ≡ l.initial.i + valid_prefix (set_of l.table) (drop l.initial.i l.bytes);
}

abbrev pub decreases-loop-i : goal.decreases-loop-i
decreases-loop-i l = length l.bytes - l.i
