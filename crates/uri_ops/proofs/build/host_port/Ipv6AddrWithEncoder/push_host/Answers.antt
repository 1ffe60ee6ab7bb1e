use Rattle.uri_ops.proofs.Builders.BuilderHosts.{bracketed-ipv6-text-is-host}
use Rattle.uri_ops.proofs.build.host_port.Ipv6AddrWithEncoder.push_host.Goals as goal

pub returns-clause-host : goal.returns-clause-host
returns-clause-host g c = bracketed-ipv6-text-is-host _ _ _
    c.ipv6_text_parses_to_its_segments.ensures
