use Rattle.uri_ops.proofs.Common.{◌-◌, ◌≤◌, ◌≡◌, ◌++◌, drop, length, string_bytes, IsCharBoundary, widest_set, TableSet, IsValidFor, decoded_text}
use Rattle.uri_ops.proofs.normalize.octet_runs.push_blocks.Given as goal

abbrev pub invariant-loop-end : goal.invariant-loop-end
invariant-loop-end l = record {
  from : l.start ≤ l.end;
  boundary : IsCharBoundary l.text l.end;
  valid : IsValidFor widest_set (drop l.end l.text);
  total : (set : TableSet) → string_bytes l.out ++ decoded_text l.lowers set (drop l.end l.text)
      ≡ string_bytes l.fn.out ++ decoded_text l.lowers set (drop l.start l.text);
}

abbrev pub decreases-loop-end : goal.decreases-loop-end
decreases-loop-end l = length l.text - l.end
