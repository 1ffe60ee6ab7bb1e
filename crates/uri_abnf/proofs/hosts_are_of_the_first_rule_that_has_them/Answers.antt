use Rattle.uri_abnf.proofs.Common.{true, uri, iri, uri_rules, iri_rules}
use Rattle.uri_abnf.proofs.BothRfcs.{uri-rules-fit, iri-rules-fit}
use Rattle.uri_abnf.proofs.PartRules.{ipv6-hosts-are-of-rule, ipv_future-hosts-are-of-rule, ipv4-hosts-are-of-rule, names-are-of-rule}
use Rattle.uri_abnf.proofs.hosts_are_of_the_first_rule_that_has_them.Goals as goal

pub returns-clause-ipv6 : goal.returns-clause-ipv6
returns-clause-ipv6 c = ipv6-hosts-are-of-rule

pub returns-clause-ipv_future : goal.returns-clause-ipv_future
returns-clause-ipv_future c = ipv_future-hosts-are-of-rule

pub returns-clause-ipv4 : goal.returns-clause-ipv4
returns-clause-ipv4 c = ipv4-hosts-are-of-rule

pub returns-clause-reg_name : goal.returns-clause-reg_name
returns-clause-reg_name c = names-are-of-rule uri_rules uri (uri-rules-fit true)

pub returns-clause-ireg_name : goal.returns-clause-ireg_name
returns-clause-ireg_name c = names-are-of-rule iri_rules iri (iri-rules-fit true)
