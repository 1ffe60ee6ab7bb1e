use Rattle.uri_parts.proofs.Common.{arith}
use Rattle.uri_parts.proofs.Parsing.WebSchemes.{text_after_scheme_and_slashes}
use Rattle.uri_parts.proofs.scheme_prefix.pass_scheme.Goals as goal

pub returns-in-Some-clause-rest : goal.returns-in-Some-clause-rest
returns-in-Some-clause-rest c = grind (arith, text_after_scheme_and_slashes)
