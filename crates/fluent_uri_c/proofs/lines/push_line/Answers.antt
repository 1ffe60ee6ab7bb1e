use Rattle.fluent_uri_c.proofs.Common.{arith}
use Rattle.fluent_uri_c.proofs.WrittenLines.{two-writes-are-one}
use Rattle.fluent_uri_c.proofs.lines.push_line.Goals as goal

pub returns-clause-written : goal.returns-clause-written
returns-clause-written c = grind (arith, two-writes-are-one)
