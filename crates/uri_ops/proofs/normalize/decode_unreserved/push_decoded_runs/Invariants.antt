use Rattle.uri_ops.proofs.Common.{◌≡◌, ◌≤◌, ◌-◌, ◌++◌, length, drop, string_bytes, IsCharBoundary, widest_set, set_of, IsValidFor, KeepsPrefixWhenDecoded, decoded_text}
use Rattle.uri_ops.proofs.normalize.decode_unreserved.push_decoded_runs.Given as goal

abbrev pub invariant-loop-end : goal.invariant-loop-end
invariant-loop-end l = record {
  order : l.done ≤ l.end;
  start : IsCharBoundary l.text l.done;
  boundary : IsCharBoundary l.text l.end;
  valid : IsValidFor widest_set (drop l.end l.text);
  prefix : KeepsPrefixWhenDecoded l.lowers (set_of l.table) (drop l.done l.text) (l.end - l.done);
  total : string_bytes l.out ++ decoded_text l.lowers (set_of l.table) (drop l.done l.text)
      ≡ string_bytes l.fn.out ++ decoded_text l.lowers (set_of l.table) l.text;
}

abbrev pub decreases-loop-end : goal.decreases-loop-end
decreases-loop-end l = length l.text - l.end
