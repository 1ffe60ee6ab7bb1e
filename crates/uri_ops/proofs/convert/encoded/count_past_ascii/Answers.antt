use Rattle.uri_ops.proofs.Common.{arith, ap, length}
use Rattle.uri_ops.proofs.AsciiForms.EncodedPaths.{encoding-of-nil-is-nil}
use Rattle.uri_ops.proofs.AsciiForms.EncodedRuns.{ascii-byte-adds-one, byte-past-ascii-adds-three}
use Rattle.uri_ops.proofs.convert.encoded.count_past_ascii.Goals as goal
use Rattle.uri_ops.proofs.convert.encoded.count_past_ascii.Goals.{then-byte-ge128, else-byte-ge128}

pub loop-byte-init : goal.loop-byte-init
loop-byte-init c = record { few = omega arith; total = ap length encoding-of-nil-is-nil }

pub loop-byte-preserved : goal.loop-byte-preserved
loop-byte-preserved c = grind (arith, byte-past-ascii-adds-three, ascii-byte-adds-one)
