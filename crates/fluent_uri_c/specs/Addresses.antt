-- The address that the host of a text is: RFC 3986, section 3.2.2.
use Rattle.std.specs.Prelude.{ℕ, List, [], Option, Some, None, Ok}
use Rattle.std.specs.Net.Addr.{octets_of}
use Rattle.fluent_uri.specs.Prelude.{Kind, authority_parts, components}
use Rattle.fluent_uri.specs.Hosts as Hosts
use Rattle.fluent_uri_c.specs.Kinds.{kind_numbered}
use Rattle.fluent_uri_c.specs.Results.{Returned, rejection_or_result, text_error, with_valid_number}

-- the octets of a host of this kind, if it is an address: 4 of IPv4, and 16 of IPv6, the high octet
-- of each segment first
abbrev pub octets_of_kind : Hosts.HostKind → List ℕ
octets_of_kind (Hosts.Ipv4 octets) = octets
octets_of_kind (Hosts.Ipv6 segments) = octets_of segments
octets_of_kind Hosts.IpvFuture = []
octets_of_kind Hosts.RegName = []

-- the octets of an authority's host, if there is an authority and its host is an address
abbrev pub address_octets : Option (List ℕ) → List ℕ
address_octets None = []
address_octets (Some authority) =
    octets_of_kind (Hosts.host_kind (authority_parts authority).host)

-- the result of a call for C that writes the address of a text of the kind
abbrev pub host_address_of : Kind → List ℕ → Returned
host_address_of kind text =
    rejection_or_result (text_error kind text) (Ok (address_octets (components text).authority))

-- the result of `fluent_uri_host_address` for a text of the kind with a number of the C header
abbrev pub host_address_result : ℕ → List ℕ → Returned
host_address_result n text =
    with_valid_number (kind_numbered n) λ kind. host_address_of kind text
