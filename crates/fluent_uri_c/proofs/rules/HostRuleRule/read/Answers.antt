use Rattle.fluent_uri_c.proofs.Common.{arith, starts}
use Rattle.fluent_uri_c.proofs.BuiltTexts.{host-from-characters, host-from-literal}
use Rattle.fluent_uri_c.proofs.rules.HostRuleRule.read.Goals as goal

pub returns-then-not-begins_with_bracket-clause-valid :
    goal.returns-then-not-begins_with_bracket-clause-valid
returns-then-not-begins_with_bracket-clause-valid g c = grind (arith, host-from-characters)

pub returns-then-is_ip_literal-clause-valid : goal.returns-then-is_ip_literal-clause-valid
returns-then-is_ip_literal-clause-valid g c = grind (arith, starts, host-from-literal)
