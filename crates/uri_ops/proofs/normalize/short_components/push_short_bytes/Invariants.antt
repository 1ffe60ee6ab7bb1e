use Rattle.uri_ops.proofs.Common.{◌≡◌, ◌+◌, ◌-◌, ◌≤◌, ◌++◌, length, drop, take, true, vec_capacity, vec_len, IsAscii, IsCharBoundary, widest_set, LacksPastAscii, TableSet, IsValidFor, decoded_text}
use Rattle.uri_ops.proofs.normalize.short_components.push_short_bytes.Given as goal

abbrev pub invariant-loop-end : goal.invariant-loop-end
invariant-loop-end l = record {
  within : l.end ≤ length l.text;
  boundary : IsCharBoundary l.text l.end;
  valid : IsValidFor widest_set (drop l.end l.text);
  unchanged : take (length l.fn.out.items) l.out.items ≡ l.fn.out.items;
  ascii : IsAscii (drop (length l.fn.out.items) l.out.items);
  room : vec_len l.out + (length l.text - l.end) ≤ vec_capacity l.out;
  total : (set : TableSet) → (l.alone ≡ true → LacksPastAscii set) → l.out.items ++ decoded_text
      l.lowers set (drop l.end l.text) ≡ l.fn.out.items ++ decoded_text l.lowers set l.text;
}

abbrev pub decreases-loop-end : goal.decreases-loop-end
decreases-loop-end l = length l.text - l.end
