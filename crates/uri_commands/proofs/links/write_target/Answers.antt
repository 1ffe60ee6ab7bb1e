use Rattle.std.proofs.Common.{arith}
use Rattle.uri_commands.proofs.Common.{common_steps}
use Rattle.uri_commands.proofs.links.write_target.Goals as goal

pub returns : goal.returns
returns g c = grind (arith, common_steps)
