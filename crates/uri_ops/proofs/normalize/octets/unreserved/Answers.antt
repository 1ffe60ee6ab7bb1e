use Rattle.uri_ops.proofs.Common.{common_steps, arith}
use Rattle.uri_ops.proofs.Meanings.UnreservedCodes.{ascii-entry-is-unreserved, entry-past-ascii-is-not-unreserved}
use Rattle.uri_ops.proofs.normalize.octets.unreserved.Goals as goal

pub returns-then-is_ascii : goal.returns-then-is_ascii
returns-then-is_ascii c = grind (arith, common_steps, ascii-entry-is-unreserved)

pub returns-else-is_ascii : goal.returns-else-is_ascii
returns-else-is_ascii c = grind (arith, common_steps, entry-past-ascii-is-not-unreserved)
