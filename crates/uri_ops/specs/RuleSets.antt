-- The rules of a set that a program chooses: RFC 3986, section 6.2.3.
use Rattle.uri_ops.specs.SchemeRules.{Rules, default_rules}
use Rattle.uri_ops.specs.StandardRules.{standard_rules}
use Rattle.uri_ops.specs.declared.scheme_rules.RuleSet.{RuleSet}
use Rattle.uri_ops.specs.declared.scheme_rules.RuleSet.TheVariants as Set

-- the rules of a set: default ports alone, or those of the registered documents of schemes too
-- (section 6.2.3)
abbrev pub rules_of_set : RuleSet → Rules
rules_of_set Set.DefaultPorts = default_rules
rules_of_set Set.StandardRules = standard_rules
