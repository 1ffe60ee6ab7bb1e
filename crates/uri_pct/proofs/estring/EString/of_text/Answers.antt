use Rattle.uri_pct.proofs.estring.EString.of_text.Goals as goal
use Rattle.uri_pct.proofs.Common.{arith}

pub invariant_of-result : goal.invariant_of-result
invariant_of-result g c = grind arith
