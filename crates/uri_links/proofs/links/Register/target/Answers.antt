use Rattle.std.proofs.Common.{arith}
use Rattle.std.proofs.lemmas.Grind.{common_steps}
use Rattle.uri_links.proofs.links.Register.target.Goals as goal

pub returns-clause-none : goal.returns-clause-none
returns-clause-none g c = grind (arith, common_steps)
