use Rattle.uri_parts.proofs.Common.{arith}
use Rattle.uri_parts.proofs.Refusals.Literals.{literal-with-version-letter-scans-ipvfuture, literal-without-address-is-unexpected}
use Rattle.uri_parts.proofs.ip_literal.any_literal_end.Goals as goal

pub returns-then-starts_ipvfuture-clause-exact : goal.returns-then-starts_ipvfuture-clause-exact
returns-then-starts_ipvfuture-clause-exact c =
    grind (arith, literal-with-version-letter-scans-ipvfuture)

pub returns-then-cannot_begin_ipv6-clause-exact : goal.returns-then-cannot_begin_ipv6-clause-exact
returns-then-cannot_begin_ipv6-clause-exact c = grind (arith, literal-without-address-is-unexpected)
