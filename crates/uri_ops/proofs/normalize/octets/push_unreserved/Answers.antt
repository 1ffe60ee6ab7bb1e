use Rattle.uri_ops.proofs.Common.{arith}
use Rattle.uri_ops.proofs.Meanings.UnreservedCodes.{unreserved-octet-prints-its-code}
use Rattle.uri_ops.proofs.normalize.octets.push_unreserved.Goals as goal

pub returns : goal.returns
returns c = grind (arith, unreserved-octet-prints-its-code)
