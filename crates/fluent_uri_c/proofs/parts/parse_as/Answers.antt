use Rattle.fluent_uri_c.proofs.Common.{arith}
use Rattle.fluent_uri_c.proofs.Rejected.{rejected_parts-are-parts}
use Rattle.fluent_uri_c.proofs.parts.parse_as.Goals as goal

pub returns-in-Err-clause-parts : goal.returns-in-Err-clause-parts
returns-in-Err-clause-parts g c = grind (arith, rejected_parts-are-parts)
