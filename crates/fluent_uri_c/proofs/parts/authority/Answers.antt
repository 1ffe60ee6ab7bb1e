use Rattle.fluent_uri_c.proofs.Common.{arith}
use Rattle.uri_parts.proofs.Offered.{authority_is_at_positions}
use Rattle.fluent_uri_c.proofs.Places.{IsSpan-of-positions, authority-start-of-positions}
use Rattle.fluent_uri_c.proofs.parts.authority.Goals as goal

pub returns-in-Some : goal.returns-in-Some
returns-in-Some c =
    grind (arith, IsSpan-of-positions, authority-start-of-positions, authority_is_at_positions)
