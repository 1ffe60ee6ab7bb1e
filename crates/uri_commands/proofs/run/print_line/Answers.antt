use Rattle.std.proofs.Common.{rules}
use Rattle.uri_commands.proofs.run.print_line.Goals as goal

pub returns-clause-printed : goal.returns-clause-printed
returns-clause-printed g c = search rules
