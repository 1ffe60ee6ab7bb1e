use Rattle.uri_pct.proofs.Common.{length, ◌-◌, ◌≤◌, ◌≡◌, ◌+◌, drop, IsCharBoundary, valid_prefix, set_of}
use Rattle.uri_pct.proofs.table.Table.scan_octets.Given as goal

abbrev pub invariant-loop-i : goal.invariant-loop-i
invariant-loop-i l = record {
  from : l.fn.start ≤ l.i;
  boundary : IsCharBoundary l.bytes l.i;
  total : l.i + valid_prefix (set_of l.fn.table) (drop l.i l.bytes)
      ≡ l.fn.start + valid_prefix (set_of l.fn.table) (drop l.fn.start l.bytes);
}

abbrev pub decreases-loop-i : goal.decreases-loop-i
decreases-loop-i l = length l.bytes - l.i
