use Rattle.fluent_uri_c.proofs.Common.{common_steps, arith, position}
use Rattle.fluent_uri_c.proofs.LinesOf.{line_length-le}
use Rattle.fluent_uri_c.proofs.WrittenLines.{first-newline-found, no-newline-found}
use Rattle.fluent_uri_c.proofs.lines.line_end.Goals as goal

pub returns-in-Some : goal.returns-in-Some
returns-in-Some c = grind (arith, common_steps, first-newline-found, position, line_length-le)

pub returns-in-None : goal.returns-in-None
returns-in-None c = grind (arith, common_steps, no-newline-found, position, line_length-le)
