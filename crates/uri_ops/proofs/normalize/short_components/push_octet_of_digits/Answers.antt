use Rattle.uri_ops.proofs.Common.{arith}
use Rattle.uri_ops.proofs.Meanings.AsciiSuffixes.{unreserved-octet-is-its-code}
use Rattle.uri_ops.proofs.normalize.short_components.push_octet_of_digits.Goals as goal

pub returns-in-Some-clause-items : goal.returns-in-Some-clause-items
returns-in-Some-clause-items c = grind (arith, unreserved-octet-is-its-code)
