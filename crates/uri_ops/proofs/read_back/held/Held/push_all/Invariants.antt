-- The bytes so far come after those that were held.
use Rattle.uri_ops.proofs.Common.{◌≡◌, ◌+◌, ◌++◌, length, take, held_text}
use Rattle.uri_ops.proofs.read_back.held.Held.push_all.Given as goal

abbrev pub invariant-loop-byte : goal.invariant-loop-byte
invariant-loop-byte l = record {
  size : length l.self.bytes ≡ 12;
  text : held_text l.self ≡ held_text l.initial.self ++ take l.byte-index l.text;
  len : l.self.len ≡ l.initial.self.len + l.byte-index;
}
