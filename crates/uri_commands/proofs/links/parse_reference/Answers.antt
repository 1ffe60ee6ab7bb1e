use Rattle.std.proofs.Common.{rules}
use Rattle.uri_commands.proofs.links.parse_reference.Goals as goal

pub returns-clause-refused : goal.returns-clause-refused
returns-clause-refused c = search rules
