-- The numbers of an address, and its text: RFC 3986, section 3.2.2, and RFC 5952.
use Rattle.std.specs.Prelude.{◌≡◌, ℕ, List}
use Rattle.std.specs.Net.Addr as Addr
use Rattle.std.specs.Net.Text.{ipv4_text, ipv6_text}
use Rattle.std.specs.declared.net.ip_addr.IpAddr as std_ip
use Rattle.std.specs.declared.net.ip_addr.IpAddr.TheVariants as std_version
use Rattle.uri_parts.specs.declared.net.Ipv4Addr.{Ipv4Addr}
use Rattle.uri_parts.specs.declared.net.Ipv6Addr.{Ipv6Addr}
use Rattle.uri_parts.specs.declared.net.IpAddr.{IpAddr}
use Rattle.uri_parts.specs.declared.net.IpAddr.TheVariants.{V4, V6}

-- the four octets of an IPv4 address, first to last
abbrev pub ipv4_octets : Ipv4Addr → List ℕ
ipv4_octets a = Addr.ipv4_octets a.0

-- the eight numbers below 65536 of an IPv6 address, first to last
abbrev pub ipv6_segments : Ipv6Addr → List ℕ
ipv6_segments a = Addr.ipv6_segments a.0

-- the canonical text of an IP address: of IPv4 four numbers with dots, of IPv6 as RFC 5952 has it
abbrev pub ip_text : IpAddr → List ℕ
ip_text (V4 a) = ipv4_text (ipv4_octets a)
ip_text (V6 a) = ipv6_text (ipv6_segments a)

-- an address and one of std's are of one version, with the same numbers
abbrev pub IsSameAddress : IpAddr → std_ip.IpAddr → Type 0
IsSameAddress (V4 a) (std_version.V4 b) = ipv4_octets a ≡ Addr.ipv4_octets b
IsSameAddress (V6 a) (std_version.V6 b) = ipv6_segments a ≡ Addr.ipv6_segments b
IsSameAddress (V4 a) (std_version.V6 b) = ⊥
IsSameAddress (V6 a) (std_version.V4 b) = ⊥
