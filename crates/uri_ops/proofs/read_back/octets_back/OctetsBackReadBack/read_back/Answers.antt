-- Where no text is left and the block is not full, nothing is held.
use Rattle.uri_ops.proofs.Common.{arith}
use Rattle.uri_ops.proofs.FromEnd.NormalTokens.{nothing_is_left}
use Rattle.uri_ops.proofs.read_back.octets_back.OctetsBackReadBack.read_back.Goals as goal

pub returns-else-not-is_empty-clause-end : goal.returns-else-not-is_empty-clause-end
returns-else-not-is_empty-clause-end c = grind (arith, nothing_is_left)
