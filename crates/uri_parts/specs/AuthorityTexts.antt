-- What an `Authority` holds, and which host a `HostOf` is: RFC 3986, sections 3.2 and 3.2.2.
use Rattle.std.specs.Prelude.{ℕ, List, ◌≡◌, ⊤}
use Rattle.uri_pct.specs.declared.pct_enc.EStr.{EStr}
use Rattle.uri_pct.specs.Prelude.{text_of}
use Rattle.uri_parts.specs.declared.component.Authority.{Authority}
use Rattle.uri_parts.specs.declared.component.HostOf.{HostOf}
use Rattle.uri_parts.specs.Addresses.{ipv4_octets, ipv6_segments}
use Rattle.uri_parts.specs.declared.component.HostOf.TheVariants as Of
use Rattle.uri_parts.specs.Hosts as Hosts

-- the text that an `Authority` holds, as its bytes, with the delimiters of its components
abbrev pub authority_text : {U R : _} {g : _} {h : _} → Authority U R g h → List ℕ
authority_text a = a.text.now

-- the kind of host that a `HostOf` is; an address has its numbers
abbrev pub host_kind_of : {N : Type 0} → HostOf N → Hosts.HostKind
host_kind_of (Of.Ipv4 a) = Hosts.Ipv4 (ipv4_octets a)
host_kind_of (Of.Ipv6 a) = Hosts.Ipv6 (ipv6_segments a)
host_kind_of Of.IpvFuture = Hosts.IpvFuture
host_kind_of (Of.RegName name) = Hosts.RegName

-- if the host is a registered name, this is its text; an address passes
abbrev pub HasRegisteredName : {R : _} {g : _} → HostOf (EStr R g) → List ℕ → Type 0
HasRegisteredName (Of.Ipv4 a) text = ⊤
HasRegisteredName (Of.Ipv6 a) text = ⊤
HasRegisteredName Of.IpvFuture text = ⊤
HasRegisteredName (Of.RegName name) text = text_of name ≡ text
