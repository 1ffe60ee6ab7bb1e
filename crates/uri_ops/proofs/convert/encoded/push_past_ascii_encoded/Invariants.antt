use Rattle.uri_ops.proofs.Common.{length, ◌-◌, ◌≤◌, ◌≡◌, ◌++◌, take, encode_past_ascii}
use Rattle.uri_ops.proofs.convert.encoded.push_past_ascii_encoded.Given as goal

abbrev pub invariant-loop-done : goal.invariant-loop-done
invariant-loop-done l = record {
  inside : l.done ≤ length l.bytes;
  total : l.out.items ≡ l.fn.out.items ++ encode_past_ascii (take l.done l.bytes);
}

abbrev pub decreases-loop-done : goal.decreases-loop-done
decreases-loop-done l = length l.bytes - l.done
