use Rattle.fluent_uri_c.proofs.Common.{arith, query_is_at_positions}
use Rattle.fluent_uri_c.proofs.Places.{IsSpan-of-positions}
use Rattle.fluent_uri_c.proofs.parts.query.Goals as goal

pub returns-in-Some : goal.returns-in-Some
returns-in-Some c = grind (arith, IsSpan-of-positions, query_is_at_positions)
