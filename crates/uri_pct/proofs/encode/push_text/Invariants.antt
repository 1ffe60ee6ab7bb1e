use Rattle.uri_pct.proofs.Common.{◌≡◌, ◌-◌, ◌++◌, length, take, drop, string_bytes, IsCharBoundary, encode_text, set_of, print}
use Rattle.uri_pct.proofs.encode.push_text.Given as goal

abbrev pub invariant-loop-done : goal.invariant-loop-done
invariant-loop-done l = record {
  boundary : IsCharBoundary l.text l.done;
  total : string_bytes l.out ++ print (encode_text (set_of l.table) (drop l.done l.text))
      ≡ string_bytes l.fn.out ++ print (encode_text (set_of l.table) l.text);
  keeps : take (length (string_bytes l.fn.out)) (string_bytes l.out) ≡ string_bytes l.fn.out;
}

abbrev pub decreases-loop-done : goal.decreases-loop-done
decreases-loop-done l = length l.text - l.done
