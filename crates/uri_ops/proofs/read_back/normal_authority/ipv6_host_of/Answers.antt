use Rattle.uri_ops.proofs.Common.{arith, starts}
use Rattle.uri_ops.proofs.FromEnd.NormalParts.{name_has_no_address}
use Rattle.uri_ops.proofs.read_back.normal_authority.ipv6_host_of.Goals as goal

pub returns-then-not-is_bracketed-clause-text : goal.returns-then-not-is_bracketed-clause-text
returns-then-not-is_bracketed-clause-text g c = grind (arith, name_has_no_address, starts)
