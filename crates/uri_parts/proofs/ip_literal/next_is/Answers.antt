use Rattle.uri_parts.proofs.Common.{arith}
use Rattle.uri_parts.proofs.HostForms.LiteralTexts.{boundary-after-ascii-byte}
use Rattle.uri_parts.proofs.ip_literal.next_is.Goals as goal

pub returns-then-index-bytes-clause-suffix : goal.returns-then-index-bytes-clause-suffix
returns-then-index-bytes-clause-suffix c = grind (arith, boundary-after-ascii-byte)
