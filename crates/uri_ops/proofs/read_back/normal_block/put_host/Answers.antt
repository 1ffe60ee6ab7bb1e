use Rattle.uri_ops.proofs.Common.{arith, holds}
use Rattle.uri_ops.proofs.FromEnd.NormalParts.{host_without_address_is_lowered}
use Rattle.uri_ops.proofs.Meanings.BracketedHosts.{normal-name-is-lowered-decoded}
use Rattle.uri_ops.proofs.Meanings.Decodable.{unbracketed-host-is-decodable}
use Rattle.uri_ops.proofs.read_back.normal_block.put_host.Goals as goal

pub put_component-requires-clause-valid : goal.put_component-requires-clause-valid
put_component-requires-clause-valid g c = grind (arith, holds, unbracketed-host-is-decodable)

pub returns-then-not-is_bracketed-clause-text : goal.returns-then-not-is_bracketed-clause-text
returns-then-not-is_bracketed-clause-text g c = grind (arith, normal-name-is-lowered-decoded)

pub returns-then-len-eq0-clause-text : goal.returns-then-len-eq0-clause-text
returns-then-len-eq0-clause-text g c = grind (arith, host_without_address_is_lowered)
