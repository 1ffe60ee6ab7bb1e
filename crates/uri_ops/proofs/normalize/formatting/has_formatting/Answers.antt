use Rattle.uri_ops.proofs.Common.{arith}
use Rattle.uri_ops.proofs.Meanings.WrittenFormatting.{no-byte-E2-no-formatting}
use Rattle.uri_ops.proofs.normalize.formatting.has_formatting.Goals as goal

pub returns-else-contains : goal.returns-else-contains
returns-else-contains c = grind (arith, no-byte-E2-no-formatting)
