use Rattle.std.proofs.Common.{sym, subst}
use Rattle.fluent_uri.specs.Prelude.{Ipv4, IsIpv4Text, ipv4_octets}
use Rattle.obligations.proofs.laws.addresses.ipv4_host_is_that_address.Goals as goal

pub returns : goal.returns
returns c = c.authorities_split_in_one_way.ensures.uri_host c.args.host.now
    (Ipv4 (ipv4_octets c.args.address.now)) c.utf8.host
    (subst (λ t. IsIpv4Text t (ipv4_octets c.args.address.now)) (sym c.requires)
    c.ipv4_text_parses_to_its_octets.ensures)
