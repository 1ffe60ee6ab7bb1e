use Rattle.uri_abnf.proofs.Common.{true, uri, iri, uri_rules, iri_rules}
use Rattle.uri_abnf.proofs.Authorities.{port-rule}
use Rattle.uri_abnf.proofs.BothRfcs.{uri-rules-fit, iri-rules-fit}
use Rattle.uri_abnf.proofs.PartRules.{schemes-are-of-rule, authorities-are-of-rule}
use Rattle.uri_abnf.proofs.components_are_of_their_rules.Goals as goal

pub returns-clause-scheme : goal.returns-clause-scheme
returns-clause-scheme c = schemes-are-of-rule

pub returns-clause-authority : goal.returns-clause-authority
returns-clause-authority c = authorities-are-of-rule uri_rules uri (uri-rules-fit true)

pub returns-clause-iauthority : goal.returns-clause-iauthority
returns-clause-iauthority c = authorities-are-of-rule iri_rules iri (iri-rules-fit true)

pub returns-clause-port : goal.returns-clause-port
returns-clause-port c = port-rule

pub returns-clause-userinfo : goal.returns-clause-userinfo
returns-clause-userinfo c = (uri-rules-fit true).userinfo

pub returns-clause-reg_name : goal.returns-clause-reg_name
returns-clause-reg_name c = (uri-rules-fit true).reg_name

pub returns-clause-path : goal.returns-clause-path
returns-clause-path c = (uri-rules-fit true).any_path

pub returns-clause-query : goal.returns-clause-query
returns-clause-query c = (uri-rules-fit true).query

pub returns-clause-fragment : goal.returns-clause-fragment
returns-clause-fragment c = (uri-rules-fit true).fragment

pub returns-clause-iuserinfo : goal.returns-clause-iuserinfo
returns-clause-iuserinfo c = (iri-rules-fit true).userinfo

pub returns-clause-ireg_name : goal.returns-clause-ireg_name
returns-clause-ireg_name c = (iri-rules-fit true).reg_name

pub returns-clause-ipath : goal.returns-clause-ipath
returns-clause-ipath c = (iri-rules-fit true).any_path

pub returns-clause-iquery : goal.returns-clause-iquery
returns-clause-iquery c = (iri-rules-fit true).query

pub returns-clause-ifragment : goal.returns-clause-ifragment
returns-clause-ifragment c = (iri-rules-fit true).fragment
