use Rattle.fluent_uri.specs.Grammar.{uri}
use Rattle.obligations.proofs.laws.printed_rules.host_of_the_rule_ipv4.Goals as goal

pub returns : goal.returns
returns c = c.hosts_are_of_the_first_rule_that_has_them.ensures.ipv4 uri.reg_name c.args.host.now
