use Rattle.uri_ops.proofs.Common.{◌≡◌, ◌+◌, ◌-◌, ◌≤◌, ◌++◌, length, take, string_bytes, vec_capacity, vec_len, str_to_ascii_lowercase}
use Rattle.uri_ops.proofs.normalize.literal_runs.push_lower.Given as goal

abbrev pub invariant-loop-byte : goal.invariant-loop-byte
invariant-loop-byte l = record {
  room : vec_len l.bytes + (length l.text - l.byte-index) ≤ vec_capacity l.bytes;
  total : l.bytes.items
      ≡ string_bytes l.fn.out ++ str_to_ascii_lowercase (take l.byte-index l.text);
}
