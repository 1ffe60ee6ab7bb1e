use Rattle.uri_ops.proofs.Common.{◌≡◌, ◌++◌, take}
use Rattle.uri_ops.proofs.convert.encoded.push_run.Given as goal

abbrev pub invariant-loop-byte : goal.invariant-loop-byte
invariant-loop-byte l = l.out.items ≡ l.fn.out.items ++ take l.byte-index l.bytes
