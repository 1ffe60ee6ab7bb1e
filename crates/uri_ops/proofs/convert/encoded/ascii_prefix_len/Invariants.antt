use Rattle.uri_ops.proofs.Common.{length, ◌-◌, ◌≤◌, ◌≡◌, take, encode_past_ascii}
use Rattle.uri_ops.proofs.convert.encoded.ascii_prefix_len.Given as goal

abbrev pub invariant-loop-i : goal.invariant-loop-i
invariant-loop-i l = record {
  inside : l.i ≤ length l.bytes;
  unchanged : encode_past_ascii (take l.i l.bytes) ≡ take l.i l.bytes;
}

abbrev pub decreases-loop-i : goal.decreases-loop-i
decreases-loop-i l = length l.bytes - l.i
