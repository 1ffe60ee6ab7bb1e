-- Where the components of a text are, as the caller learns it: RFC 3986, section 3.
use Rattle.std.specs.Prelude.{◌≡◌, ◌≢◌, ◌↔◌, ℕ, ◌≤◌, ◌+◌, ◌-◌, ◌^◌, List, Option, Some, None, length, slice_range, option_and_then, option_map, IsSomeAnd}
use Rattle.fluent_uri.specs.Prelude.{Kind, authority_parts, components}
use Rattle.fluent_uri.specs.Hosts as Hosts
use Rattle.uri_parts.specs.Prelude.{before_fragment, delimited_length, positions_of}
use Rattle.fluent_uri_c.specs.declared.errors.Error.TheVariants.{InvalidArgument}
use Rattle.fluent_uri_c.specs.declared.errors.Rejection.{Rejection}
use Rattle.fluent_uri_c.specs.declared.parts.Span.{Span}
use Rattle.fluent_uri_c.specs.declared.parts.Parts.{Parts}
use Rattle.fluent_uri_c.specs.Errors.{number_of, rejected}
use Rattle.fluent_uri_c.specs.Results.{IsPossibleText, text_error}

-- the span, for C, of a component that is absent
abbrev pub absent : Span
absent = record { start = 2 ^ 64 - 1; end = 2 ^ 64 - 1 }

-- a component of a text, which begins at a position of it, is between the offsets of the span that
-- C gets, if it is present; if it is absent, so is the span
abbrev pub IsSpan : List ℕ → ℕ → Option (List ℕ) → Span → Type 0
IsSpan text start None span = span ≡ absent
IsSpan text start (Some part) span =
    (span.start ≡ start) × (span.start ≤ span.end) × (span.end ≤ length text)
    × (slice_range text span.start span.end ≡ part)

-- the number of a kind of host in the C header (section 3.2.2)
abbrev pub host_number : Hosts.HostKind → ℕ
host_number Hosts.RegName = 1
host_number (Hosts.Ipv4 octets) = 2
host_number (Hosts.Ipv6 segments) = 3
host_number Hosts.IpvFuture = 4

-- the number, in the C header, of the kind of host of an authority, or 0 if there is no authority
abbrev pub authority_host_number : Option (List ℕ) → ℕ
authority_host_number None = 0
authority_host_number (Some authority) = host_number
    (Hosts.host_kind (authority_parts authority).host)

-- the userinfo, of which C gets the span, of an authority, if there is an authority and it has one
-- (section 3.2.1)
abbrev pub userinfo_of : Option (List ℕ) → Option (List ℕ)
userinfo_of authority = option_and_then (λ a. (authority_parts a).userinfo) authority

-- the host, of which C gets the span, of an authority, if there is an authority (section 3.2.2)
abbrev pub host_of : Option (List ℕ) → Option (List ℕ)
host_of authority = option_map (λ a. (authority_parts a).host) authority

-- the port, of which C gets the span, of an authority, if there is an authority and it has one
-- (section 3.2.3)
abbrev pub port_of : Option (List ℕ) → Option (List ℕ)
port_of authority = option_and_then (λ a. (authority_parts a).port) authority

-- where the authority of a text begins, if it has one: after the scheme and the `//` (section 3)
abbrev pub authority_start : List ℕ → ℕ
authority_start text = delimited_length 1 (components text).scheme + 2

-- where the host of a text begins, if it has an authority: after the userinfo and its `@` (section
-- 3.2)
abbrev pub host_start : List ℕ → ℕ
host_start text =
    authority_start text + delimited_length 1 (userinfo_of (components text).authority)

-- where the port of a text begins, if it has one: after the host and a `:` (section 3.2.3)
abbrev pub port_start : List ℕ → ℕ
port_start text = host_start text + delimited_length 1 (host_of (components text).authority)

-- where the path of a text begins (section 3.3)
abbrev pub path_start : List ℕ → ℕ
path_start text = (positions_of (components text)).path_start

-- where the query of a text begins, if it has one: after the path and its `?` (section 3.4)
abbrev pub query_start : List ℕ → ℕ
query_start text = (positions_of (components text)).path_end + 1

-- where the fragment of a text begins, if it has one: after the `#` (section 3.5)
abbrev pub fragment_start : List ℕ → ℕ
fragment_start text = before_fragment (positions_of (components text)) + 1

-- each span of the parts that C gets is that of its component at its position in the text, and
-- there is no index of an error
pub record AreSpansOf (text : List ℕ) (parts : Parts) : Type 0 where
  pub index : parts.index ≡ 0
  pub scheme : IsSpan text 0 (components text).scheme parts.scheme
  pub authority : IsSpan text (authority_start text) (components text).authority parts.authority
  pub userinfo : IsSpan text (authority_start text) (userinfo_of (components text).authority)
      parts.userinfo
  pub host : IsSpan text (host_start text) (host_of (components text).authority) parts.host
  pub port : IsSpan text (port_start text) (port_of (components text).authority) parts.port
  pub path : IsSpan text (path_start text) (Some (components text).path) parts.path
  pub query : IsSpan text (query_start text) (components text).query parts.query
  pub fragment : IsSpan text (fragment_start text) (components text).fragment parts.fragment
  pub host_kind : parts.host_kind ≡ authority_host_number (components text).authority

-- the parts that C gets of a text that is rejected: the error and its index, and no component
abbrev pub rejected_parts : Rejection → Parts
rejected_parts why = record {
  error = number_of why.error;
  host_kind = 0;
  index = why.index;
  scheme = absent;
  authority = absent;
  userinfo = absent;
  host = absent;
  port = absent;
  path = absent;
  query = absent;
  fragment = absent;
}

-- why a call for C rejects bytes as a text of the kind, if it does, or that there is no such kind
abbrev pub parse_error : Option Kind → List ℕ → Option Rejection
parse_error None bytes = Some (rejected InvalidArgument)
parse_error (Some kind) bytes = text_error kind bytes

-- the parts that C gets of bytes that are parsed as a text of the kind: the spans of its
-- components, or the error
pub record ArePartsOf (kind : Option Kind) (bytes : List ℕ) (parts : Parts) : Type 0 where
  pub accepts : parts.error ≡ 0 ↔ IsSomeAnd kind (λ k. IsPossibleText k bytes)
  pub spans : parts.error ≡ 0 → AreSpansOf bytes parts
  pub none : parts.error ≡ 0 → parse_error kind bytes ≡ None
  pub rejected : parts.error ≢ 0 → IsSomeAnd (parse_error kind bytes) (λ why.
      parts ≡ rejected_parts why)
