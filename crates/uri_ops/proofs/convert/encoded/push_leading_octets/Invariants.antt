use Rattle.uri_ops.proofs.Common.{length, ◌-◌, ◌*◌, ◌≤◌, ◌≡◌, take, encode_past_ascii}
use Rattle.uri_ops.proofs.convert.encoded.push_leading_octets.Given as goal

abbrev pub invariant-loop-count : goal.invariant-loop-count
invariant-loop-count l = record {
  inside : l.count ≤ length l.bytes;
  few : l.count ≤ 16;
  size : length l.octets ≡ 48;
  octets : take (3 * l.count) l.octets ≡ encode_past_ascii (take l.count l.bytes);
}

abbrev pub decreases-loop-count : goal.decreases-loop-count
decreases-loop-count l = length l.bytes - l.count
