use Rattle.uri_abnf.proofs.PrintedRules.{rfc5234-is-printed, rfc3986-is-printed, rfc3987-is-printed}
use Rattle.uri_abnf.proofs.rules_are_those_that_the_rfcs_print.Goals as goal

pub returns-clause-rfc5234 : goal.returns-clause-rfc5234
returns-clause-rfc5234 c = rfc5234-is-printed

pub returns-clause-rfc3986 : goal.returns-clause-rfc3986
returns-clause-rfc3986 c = rfc3986-is-printed

pub returns-clause-rfc3987 : goal.returns-clause-rfc3987
returns-clause-rfc3987 c = rfc3987-is-printed
