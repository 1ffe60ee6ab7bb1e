use Rattle.uri_ops.proofs.Common.{◌-◌, ◌≡◌, ◌≤◌, ◌+◌, ◌*◌, ◌++◌, drop, take, IsAscii, IsCharBoundary, widest_set, TableSet, IsValidFor, decoded_text}
use Rattle.uri_ops.proofs.normalize.octet_runs.decode_block.Given as goal

abbrev pub invariant-loop-count : goal.invariant-loop-count
invariant-loop-count l = record {
  few : l.count ≤ 16;
  position : l.end ≡ l.start + 3 * l.count;
  ascii : IsAscii (take l.count l.block);
  boundary : IsCharBoundary l.text l.end;
  valid : IsValidFor widest_set (drop l.end l.text);
  decoded : (set : TableSet) → take l.count l.block ++ decoded_text l.lowers set (drop l.end l.text)
      ≡ decoded_text l.lowers set (drop l.start l.text);
}

abbrev pub decreases-loop-count : goal.decreases-loop-count
decreases-loop-count l = 16 - l.count
