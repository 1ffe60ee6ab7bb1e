use Rattle.uri_ops.proofs.Common.{ap, under_rules}
use Rattle.uri_ops.proofs.laws.normal_form.rules_keep_equivalence.Goals as goal

pub returns : goal.returns
returns c = λ kind rules t u e. ap (under_rules rules) e
