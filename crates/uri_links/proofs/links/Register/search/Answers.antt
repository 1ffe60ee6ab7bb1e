use Rattle.std.proofs.Common.{arith}
use Rattle.uri_links.proofs.FoundTexts.{search-finds-position}
use Rattle.uri_links.proofs.links.Register.search.Goals as goal

pub returns-clause-id : goal.returns-clause-id
returns-clause-id g c = grind (arith, search-finds-position)
