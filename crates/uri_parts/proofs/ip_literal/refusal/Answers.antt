use Rattle.uri_parts.proofs.Common.{arith}
use Rattle.uri_parts.proofs.Refusals.Literals.{literal-malformed-ipv6, literal-unclosed-ipv6}
use Rattle.uri_parts.proofs.ip_literal.refusal.Goals as goal

pub returns-in-Some-clause-exact : goal.returns-in-Some-clause-exact
returns-in-Some-clause-exact c = grind (arith, literal-unclosed-ipv6)

pub returns-in-None-clause-exact : goal.returns-in-None-clause-exact
returns-in-None-clause-exact c = grind (arith, literal-malformed-ipv6)
