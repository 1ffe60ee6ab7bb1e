use Rattle.uri_mend.proofs.Common.{common_steps, arith}
use Rattle.uri_mend.proofs.Buffers.{prefix-of-placed-block}
use Rattle.uri_mend.proofs.octets.place_block.Goals as goal

pub returns-clause-text : goal.returns-clause-text
returns-clause-text c = grind (arith, common_steps, prefix-of-placed-block)
