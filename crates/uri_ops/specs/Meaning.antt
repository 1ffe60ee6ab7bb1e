-- What a text means: RFC 3986, section 6.2.2 with, of section 6.2.3, what it says of ports;
-- RFC 3987, section 5.3.2.
use Rattle.std.specs.Prelude.{ℕ, ◌&&◌, ◌||◌, List, map, Option, Some, None, is_some, option_map, if◌then◌else◌}
use Rattle.std.specs.Option.{option_and_then}
use Rattle.std.specs.Str.{str_to_ascii_lowercase}
use Rattle.uri_pct.specs.Prelude.{TableSet, Token, decode_unreserved, lower_token, slash}
use Rattle.uri_parts.specs.Prelude.{Components, HostKind, Ipv4, Ipv6, IpvFuture, Kind, PortFunction, RegName, authority_parts, components, host_kind, is_default, no_defaults, starts}
use Rattle.uri_ops.specs.Dots.{is_empty, remove_dot_segments}

-- what a host means: the numbers of an IPv6 address, the text of an address of a later version, or
-- the characters and octets of a name
pub data HostMeaning : Type 0 where
  Address : List ℕ → HostMeaning
  FutureAddress : List ℕ → HostMeaning
  Name : List Token → HostMeaning

-- what an authority means: its components decoded, without an empty or default port (sections 6.2.2
-- and 6.2.3)
pub record AuthorityMeaning : Type 0 where
  pub userinfo : Option (List Token)
  pub host : HostMeaning
  pub port : Option (List ℕ)

-- what a text means: its components decoded, the scheme in lower case, and the path without dot
-- segments (section 6.2.2)
pub record Meaning : Type 0 where
  pub scheme : Option (List ℕ)
  pub authority : Option AuthorityMeaning
  pub path : List Token
  pub query : Option (List Token)
  pub fragment : Option (List Token)

-- What a host of the kind of host means, where `names` are the characters of a registered name
-- (section 6.2.2.1).
-- Upper and lower case are equivalent, and an IPv6 address is its numbers. ASCII letters decoded
-- from octets are included. An IPv4 address is its characters.
abbrev pub host_meaning : TableSet → List ℕ → HostKind → HostMeaning
host_meaning names host (Ipv6 segments) = Address segments
host_meaning names host IpvFuture = FutureAddress (str_to_ascii_lowercase host)
host_meaning names host (Ipv4 octets) = Name (map lower_token (decode_unreserved names host))
host_meaning names host RegName = Name (map lower_token (decode_unreserved names host))

-- what a port means, by its scheme's default port, the first Option: an empty port and the default
-- one are as none, every other is its digits (section 6.2.3)
abbrev pub port_meaning : Option ℕ → Option (List ℕ) → Option (List ℕ)
port_meaning default None = None
port_meaning default (Some digits) =
    if is_empty digits || is_default default digits then None else Some digits

-- what an authority of the kind means, where the Option is its scheme's default port (sections
-- 6.2.2 and 6.2.3)
abbrev pub authority_meaning : Kind → Option ℕ → List ℕ → AuthorityMeaning
authority_meaning kind default authority =
    let p = authority_parts authority in
    record {
      userinfo = option_map (decode_unreserved kind.userinfo) p.userinfo;
      host = host_meaning kind.reg_name p.host (host_kind p.host);
      port = port_meaning default p.port;
    }

-- the path as its meaning has it, by the scheme: under a scheme, one that begins with `/` is
-- without its dot segments (section 6.2.2.3)
abbrev pub dotless_path : Option (List ℕ) → List ℕ → List ℕ
dotless_path scheme path =
    if is_some scheme && starts slash path then remove_dot_segments path else path

-- what the components of a text of the kind mean, under a port function (sections 6.2.2 and 6.2.3)
abbrev pub components_meaning : Kind → PortFunction → Components → Meaning
components_meaning kind ports p =
    let scheme = option_map str_to_ascii_lowercase p.scheme in
    record {
      scheme = scheme;
      authority = option_map (authority_meaning kind (option_and_then ports scheme)) p.authority;
      path = decode_unreserved kind.path (dotless_path p.scheme p.path);
      query = option_map (decode_unreserved kind.query) p.query;
      fragment = option_map (decode_unreserved kind.fragment) p.fragment;
    }

-- what a text of the kind means, under a port function (sections 6.2.2 and 6.2.3)
abbrev pub meaning_of : Kind → PortFunction → List ℕ → Meaning
meaning_of kind ports text = components_meaning kind ports (components text)

-- what a text of the kind means if no scheme has a default port: it has every port that is not
-- empty
abbrev pub bare_meaning_of : Kind → List ℕ → Meaning
bare_meaning_of kind text = meaning_of kind no_defaults text

-- what an authority means without its port, if that is the default one, which the Option is
abbrev pub without_default_port : Option ℕ → AuthorityMeaning → AuthorityMeaning
without_default_port default a = record a { port = port_meaning default a.port }

-- what a port function leaves of a bare meaning: the authority's port only if it is not the
-- scheme's default one
abbrev pub under : PortFunction → Meaning → Meaning
under ports m =
    record m {
      authority = option_map (without_default_port (option_and_then ports m.scheme))
          m.authority;
    }
