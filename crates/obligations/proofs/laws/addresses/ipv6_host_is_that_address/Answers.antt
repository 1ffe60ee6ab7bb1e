use Rattle.std.specs.Net.Text.{ipv6_text}
use Rattle.fluent_uri.specs.Prelude.{Ipv6, ipv6_segments}
use Rattle.obligations.proofs.laws.addresses.ipv6_host_is_that_address.Goals as goal

pub returns : goal.returns
returns c = c.authorities_split_in_one_way.ensures.uri_host c.args.host.now
    (Ipv6 (ipv6_segments c.args.address.now)) c.utf8.host (
      ipv6_text (ipv6_segments c.args.address.now),
      c.requires,
      c.ipv6_text_parses_to_its_segments.ensures,
    )
