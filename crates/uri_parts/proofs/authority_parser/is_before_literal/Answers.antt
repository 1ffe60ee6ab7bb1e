use Rattle.uri_parts.proofs.Common.{arith}
use Rattle.uri_parts.proofs.Authorities.HostParsing.{bracket_begins_no_name}
use Rattle.uri_parts.proofs.TextKinds.KindSets.{each_kind_separates_components}
use Rattle.uri_parts.proofs.authority_parser.is_before_literal.Goals as goal

pub returns-clause-no_name : goal.returns-clause-no_name
returns-clause-no_name g c t = grind (arith, bracket_begins_no_name, each_kind_separates_components)
