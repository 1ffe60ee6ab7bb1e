use Rattle.uri_ops.proofs.Common.{arith, holds}
use Rattle.uri_ops.proofs.Meanings.BracketedHosts.{normal-name-is-lowered-decoded}
use Rattle.uri_ops.proofs.Meanings.Decodable.{unbracketed-host-is-decodable}
use Rattle.uri_ops.proofs.normalize.normal_authority.push_host.Goals as goal

pub push_decoded-requires : goal.push_decoded-requires
push_decoded-requires g c = grind (arith, holds, unbracketed-host-is-decodable)

pub returns-then-not-is_bracketed : goal.returns-then-not-is_bracketed
returns-then-not-is_bracketed g c = grind (arith, normal-name-is-lowered-decoded)
