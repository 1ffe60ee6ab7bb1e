use Rattle.uri_mend.proofs.Common.{arith}
use Rattle.uri_mend.proofs.MendedTails.{component-is-mended-after-mark}
use Rattle.uri_mend.proofs.tail.mend_marked.Goals as goal

pub returns-in-Some-clause-text : goal.returns-in-Some-clause-text
returns-in-Some-clause-text c = grind (arith, component-is-mended-after-mark)
