-- What `Display` and `Debug` print, as bytes. `Debug` of a text is that of a `str`, which std
-- specifies for ASCII: `None` is a text that no clause states.
use Rattle.std.specs.Prelude.{ℕ, List, Option, Some, ◌++◌, codes, decimal}
use Rattle.std.specs.Fmt.{◌++?◌, debug_option, debug_str}
use Rattle.std.specs.Net.Text.{ipv4_text, ipv6_text}
use Rattle.uri_parts.specs.Addresses.{ipv4_octets, ipv6_segments}
use Rattle.uri_parts.specs.Authority.{authority_parts}
use Rattle.uri_parts.specs.Components.{components}
use Rattle.uri_parts.specs.Errors.{error_index, error_kind_of}
use Rattle.uri_parts.specs.Hosts.{HostKind, Ipv4, Ipv6, IpvFuture, RegName, host_kind}
use Rattle.uri_parts.specs.declared.component.HostOf.{HostOf}
use Rattle.uri_parts.specs.declared.component.HostOf.TheVariants as hosts
use Rattle.uri_parts.specs.declared.error.ParseError.{ParseError}
use Rattle.uri_parts.specs.declared.error.ParseErrorKind.{ParseErrorKind}
use Rattle.uri_parts.specs.declared.error.ParseErrorKind.TheVariants as kinds

-- what `Display` of a parse error says of its kind
abbrev pub error_kind_text : ParseErrorKind → List ℕ
error_kind_text kinds.InvalidPctEncodedOctet = codes "invalid percent-encoded octet"
error_kind_text kinds.UnexpectedChar = codes "unexpected character"
error_kind_text kinds.InvalidIpv6Addr = codes "invalid IPv6 address"

-- `Display` of a parse error: what is wrong, and at which index
abbrev pub error_text : ParseError → List ℕ
error_text e = error_kind_text (error_kind_of e) ++ (codes " at index " ++ decimal (error_index e))

-- `Debug` of a kind of parse error: its name
abbrev pub debug_error_kind : ParseErrorKind → List ℕ
debug_error_kind kinds.InvalidPctEncodedOctet = codes "InvalidPctEncodedOctet"
debug_error_kind kinds.UnexpectedChar = codes "UnexpectedChar"
debug_error_kind kinds.InvalidIpv6Addr = codes "InvalidIpv6Addr"

-- `Debug` of a parse error
abbrev pub debug_error : ParseError → List ℕ
debug_error e = codes "ParseError { index: " ++ (decimal (error_index e) ++ (codes ", kind: "
    ++ (debug_error_kind (error_kind_of e) ++ codes " }")))

-- `Debug` of a variant with one field, given what the field prints
abbrev pub debug_field : List ℕ → Option (List ℕ) → Option (List ℕ)
debug_field name field = Some (name ++ codes "(") ++? field ++? Some (codes ")")

-- `Debug` of a host, given what `Debug` of a registered name prints
abbrev pub debug_host_of : {N : Type 0} → (N → Option (List ℕ)) → HostOf N → Option (List ℕ)
debug_host_of name (hosts.Ipv4 a) = debug_field (codes "Ipv4") (Some (ipv4_text (ipv4_octets a)))
debug_host_of name (hosts.Ipv6 a) = debug_field (codes "Ipv6") (Some (ipv6_text (ipv6_segments a)))
debug_host_of name hosts.IpvFuture = Some (codes "IpvFuture")
debug_host_of name (hosts.RegName n) = debug_field (codes "RegName") (name n)

-- the same of a text of this kind
abbrev pub debug_host : HostKind → List ℕ → Option (List ℕ)
debug_host (Ipv4 octets) text = debug_field (codes "Ipv4") (Some (ipv4_text octets))
debug_host (Ipv6 segments) text = debug_field (codes "Ipv6") (Some (ipv6_text segments))
debug_host IpvFuture text = Some (codes "IpvFuture")
debug_host RegName text = debug_field (codes "RegName") (debug_str text)

-- `Debug` of an authority, given what its components print
abbrev pub debug_authority_of : (userinfo host parsed port : Option (List ℕ)) → Option (List ℕ)
debug_authority_of userinfo host parsed port =
    Some (codes "Authority { userinfo: ") ++? userinfo ++? Some (codes ", host: ") ++? host
    ++? Some (codes ", host_parsed: ") ++? parsed ++? Some (codes ", port: ") ++? port
    ++? Some (codes " }")

-- `Debug` of an authority: its components by name
unfoldable pub debug_authority : List ℕ → Option (List ℕ)
debug_authority text = let p = authority_parts text in
    debug_authority_of (debug_option debug_str p.userinfo) (debug_str p.host)
    (debug_host (host_kind p.host) p.host) (debug_option debug_str p.port)

-- `Debug` of a reference with this name, given what its components print
abbrev pub debug_reference_of : List ℕ
    → (scheme authority path query fragment : Option (List ℕ)) → Option (List ℕ)
debug_reference_of name scheme authority path query fragment =
    Some name ++? Some (codes " { scheme: ") ++? scheme
    ++? Some (codes ", authority: ") ++? authority ++? Some (codes ", path: ") ++? path
    ++? Some (codes ", query: ") ++? query ++? Some (codes ", fragment: ") ++? fragment
    ++? Some (codes " }")

-- `Debug` of a reference of this name: its components by name, where the scheme prints this
unfoldable pub debug_reference : List ℕ → Option (List ℕ) → List ℕ → Option (List ℕ)
debug_reference name scheme text = let p = components text in
    debug_reference_of name scheme (debug_option debug_authority p.authority)
    (debug_str p.path) (debug_option debug_str p.query) (debug_option debug_str p.fragment)
