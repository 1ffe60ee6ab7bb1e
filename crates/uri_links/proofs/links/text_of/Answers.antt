use Rattle.std.proofs.Common.{arith}
use Rattle.uri_links.proofs.links.text_of.Goals as goal

pub returns-clause-uri : goal.returns-clause-uri
returns-clause-uri c = grind arith
