-- The IPv6 address of an authority, where it has one: RFC 3986, section 3.2.2.
use Rattle.std.specs.Prelude.{ℕ, List, [], Option, Some, None}
use Rattle.std.specs.Net.Text.{ipv6_text}
use Rattle.uri_parts.specs.Prelude.{HostKind, Ipv4, Ipv6, IpvFuture, RegName, authority_parts, bracketed, host_kind}

-- the normal text of a host of the kind if it is an IPv6 address, and else nothing
abbrev pub ipv6_host_text : HostKind → List ℕ
ipv6_host_text (Ipv6 segments) = bracketed (ipv6_text segments)
ipv6_host_text IpvFuture = []
ipv6_host_text (Ipv4 octets) = []
ipv6_host_text RegName = []

-- the normal text of an authority's host if it is an IPv6 address, and else nothing
abbrev pub ipv6_host_of : Option (List ℕ) → List ℕ
ipv6_host_of None = []
ipv6_host_of (Some authority) = ipv6_host_text (host_kind (authority_parts authority).host)
