use Rattle.std.proofs.Common.{arith}
use Rattle.uri_idna.proofs.Replaced.{text-without-authority-stays}
use Rattle.uri_idna.proofs.references.copied.Goals as goal

pub returns-clause-text : goal.returns-clause-text
returns-clause-text g c = grind (arith, text-without-authority-stays)
