use Rattle.uri_ops.proofs.Common.{arith, starts, host_kind}
use Rattle.uri_ops.proofs.Meanings.BracketedHosts.{normal-ipvfuture-is-lowered}
use Rattle.uri_ops.proofs.normalize.normal_authority.push_bracketed_host.Goals as goal

pub returns-in_default : goal.returns-in_default
returns-in_default g c = grind (arith, normal-ipvfuture-is-lowered, starts, host_kind)
