use Rattle.fluent_uri_c.proofs.Common.{arith}
use Rattle.fluent_uri_c.proofs.BuiltTexts.{scheme-from-characters}
use Rattle.fluent_uri_c.proofs.rules.SchemeRuleRule.read.Goals as goal

pub returns-clause-valid : goal.returns-clause-valid
returns-clause-valid c = grind (arith, scheme-from-characters)
