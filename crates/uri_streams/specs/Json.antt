-- The line of JSON that tells what a reference consists of (RFC 8259): an object whose members are
-- texts. A text of a kind has no character that JSON escapes.
use Rattle.std.specs.Prelude.{ℕ, List, [], ◌++◌, codes, Option, Some, None}
use Rattle.fluent_uri.specs.Prelude.{Components, HostKind, Ipv4, Ipv6, IpvFuture, RegName, authority_parts, host_kind}

-- a member of a JSON object, by its name and its text: `"name":"text"` (RFC 8259, section 4)
abbrev pub member : List ℕ → List ℕ → List ℕ
member name text = codes "\"" ++ name ++ codes "\":\"" ++ text ++ codes "\""

-- the member of a JSON object for a text that may be absent, with this name, and a comma after it
abbrev pub member_before : List ℕ → Option (List ℕ) → List ℕ
member_before name None = []
member_before name (Some text) = member name text ++ codes ","

-- the member of a JSON object for a text that may be absent, with this name, and a comma before it
abbrev pub member_after : List ℕ → Option (List ℕ) → List ℕ
member_after name None = []
member_after name (Some text) = codes "," ++ member name text

-- the word that JSON has for a kind of host, as `ipv4`
abbrev pub host_word : HostKind → List ℕ
host_word (Ipv4 octets) = codes "ipv4"
host_word (Ipv6 segments) = codes "ipv6"
host_word IpvFuture = codes "ipvfuture"
host_word RegName = codes "reg-name"

-- the members of a JSON object for a host and its kind (section 3.2.2)
abbrev pub host_members : List ℕ → List ℕ
host_members host =
    member_before (codes "host") (Some host)
    ++ member_before (codes "host_kind") (Some (host_word (host_kind host)))

-- the members of a JSON object for an authority and its components (section 3.2)
abbrev pub authority_component_members : List ℕ → List ℕ
authority_component_members authority =
    member_before (codes "authority") (Some authority)
    ++ member_before (codes "userinfo") (authority_parts authority).userinfo
    ++ host_members (authority_parts authority).host
    ++ member_before (codes "port") (authority_parts authority).port

-- the members of a JSON object for an authority that may be absent, and its components
abbrev pub authority_members : Option (List ℕ) → List ℕ
authority_members None = []
authority_members (Some authority) = authority_component_members authority

-- the JSON object for the components of a reference, which `urilines parse` writes
unfoldable pub json_of : Components → List ℕ
json_of p =
    codes "{" ++ member_before (codes "scheme") p.scheme ++ authority_members p.authority
    ++ member (codes "path") p.path ++ member_after (codes "query") p.query
    ++ member_after (codes "fragment") p.fragment ++ codes "}"
