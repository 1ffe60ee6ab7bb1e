-- What a builder writes as the host of an authority: RFC 3986, section 3.2.2.
use Rattle.std.specs.Prelude.{ℕ, List}
use Rattle.std.specs.Str.{IsUtf8}
use Rattle.uri_pct.specs.Prelude.{TableSet}
use Rattle.std.specs.Net.Text.{ipv4_text, ipv6_text}
use Rattle.uri_parts.specs.Prelude.{HostKind, IsHost, bracketed, ipv4_octets, ipv6_segments}
use Rattle.uri_parts.specs.declared.net.IpAddr.{IpAddr}
use Rattle.uri_parts.specs.declared.net.IpAddr.TheVariants.{V4, V6}

-- the text may be the host of a builder: UTF-8 that is a host of one kind, where `names` are the
-- characters of a registered name
pub record IsHostText (names : TableSet) (text : List ℕ) : Type 0 where
  pub utf8 : IsUtf8 text
  pub host : (kind : HostKind) × IsHost names text kind

-- the text of an IP address as the host of a builder: an IPv6 address is in brackets (section
-- 3.2.2)
abbrev pub ip_host : IpAddr → List ℕ
ip_host (V4 a) = ipv4_text (ipv4_octets a)
ip_host (V6 a) = bracketed (ipv6_text (ipv6_segments a))
