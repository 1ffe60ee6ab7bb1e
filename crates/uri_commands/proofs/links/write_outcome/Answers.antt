use Rattle.std.proofs.Common.{rules}
use Rattle.uri_commands.proofs.links.write_outcome.Goals as goal

pub returns-in-New : goal.returns-in-New
returns-in-New g c = search rules

pub returns-in-Known : goal.returns-in-Known
returns-in-Known g c = search rules

pub returns-in-Refused : goal.returns-in-Refused
returns-in-Refused g c = search rules
