use Rattle.uri_ops.proofs.Common.{◌≡◌, ◌+◌, ◌*◌, ◌≤◌, length, take, encode_past_ascii}
use Rattle.uri_ops.proofs.convert.encoded.count_past_ascii.Given as goal

abbrev pub invariant-loop-byte : goal.invariant-loop-byte
invariant-loop-byte l = record {
  few : l.count ≤ l.byte-index;
  total : length (encode_past_ascii (take l.byte-index l.bytes)) ≡ l.byte-index + 2 * l.count;
}
