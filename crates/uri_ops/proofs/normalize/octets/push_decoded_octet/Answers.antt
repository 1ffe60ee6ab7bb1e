use Rattle.uri_ops.proofs.Common.{rules}
use Rattle.uri_ops.proofs.normalize.octets.push_decoded_octet.Goals as goal

pub returns-in-Some : goal.returns-in-Some
returns-in-Some c = search rules
