-- The bytes that are left give the rest of the state.
use Rattle.fluent_uri_c.proofs.Common.{◌≡◌, drop, fnv_bytes}
use Rattle.fluent_uri_c.proofs.fnv.FnvHasher.write.Given as goal

abbrev pub invariant-loop-byte : goal.invariant-loop-byte
invariant-loop-byte l =
    fnv_bytes l.self.state (drop l.byte-index l.bytes) ≡ fnv_bytes l.initial.self.state l.bytes
