use Rattle.uri_ops.proofs.Builders.BuilderHosts.{ipv4-text-is-host}
use Rattle.uri_ops.proofs.build.host_port.Ipv4AddrWithEncoder.push_host.Goals as goal

pub returns-clause-host : goal.returns-clause-host
returns-clause-host g c = ipv4-text-is-host _ _ _ c.ipv4_text_parses_to_its_octets.ensures
