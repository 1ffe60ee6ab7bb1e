-- The normal text of a meaning: RFC 3986, section 6.2.2, recomposed as in section 5.3.
use Rattle.std.specs.Prelude.{ℕ, List, [], codes, Option, is_some, option_map, if◌then◌else◌, Bool, ◌&&◌}
use Rattle.std.specs.Net.Text.{ipv6_text}
use Rattle.std.specs.Str.{str_to_ascii_lowercase}
use Rattle.std.specs.Option.{option_and_then}
use Rattle.uri_pct.specs.Prelude.{TableSet, decode_unreserved, print, slash}
use Rattle.uri_parts.specs.Prelude.{AuthorityParts, Components, Kind, PortFunction, bracketed, marked, recompose, recompose_authority, starts}
use Rattle.uri_ops.specs.Target.{guarded}
use Rattle.uri_ops.specs.Meaning.{HostMeaning, Address, FutureAddress, Name, AuthorityMeaning, Meaning, authority_meaning, dotless_path}
use Rattle.uri_ops.specs.Dots.{underflows}

-- the normal text of what a host means: an IPv6 address has the text of RFC 5952
abbrev pub host_text : HostMeaning → List ℕ
host_text (Address segments) = bracketed (ipv6_text segments)
host_text (FutureAddress text) = text
host_text (Name tokens) = print tokens

-- the normal userinfo, host and port of what an authority means (section 6.2.2)
abbrev pub normal_parts : AuthorityMeaning → AuthorityParts
normal_parts a = record {
  userinfo = option_map print a.userinfo;
  host = host_text a.host;
  port = a.port;
}

-- the normal text of what an authority means (section 6.2.2)
abbrev pub normal_authority : AuthorityMeaning → List ℕ
normal_authority a = recompose_authority (normal_parts a)

-- the normal form of a scheme, if it is present: it is in lower case (section 6.2.2.1)
abbrev pub normal_scheme : Option (List ℕ) → Option (List ℕ)
normal_scheme scheme = option_map str_to_ascii_lowercase scheme

-- the normal form of a component, if it is present: its text, with its unreserved characters
-- decoded (section 6.2.2.2)
abbrev pub normal_part : TableSet → Option (List ℕ) → Option (List ℕ)
normal_part set part = option_map print (option_map (decode_unreserved set) part)

-- the normal form of an authority with `//` before it, if it is present, where the first Option is
-- its scheme's default port
abbrev pub normal_authority_with_delimiter : Kind → Option ℕ → Option (List ℕ) → List ℕ
normal_authority_with_delimiter kind default authority =
    marked (codes "//")
    (option_map normal_authority (option_map (authority_meaning kind default) authority)) []

-- The normal text of a meaning's path.
-- Not in the RFC: under a scheme and without an authority `/.` is before a path that begins with
-- `//`, which would be parsed as one.
abbrev pub normal_path : Meaning → List ℕ
normal_path m =
    if is_some m.scheme then guarded (option_map normal_authority m.authority) (print m.path)
    else print m.path

-- the normal components of a meaning (section 6.2.2)
abbrev pub normal_components : Meaning → Components
normal_components m = record {
  scheme = m.scheme;
  authority = option_map normal_authority m.authority;
  path = normal_path m;
  query = option_map print m.query;
  fragment = option_map print m.fragment;
}

-- the normal text of a meaning: its normal components, recomposed (section 6.2.2)
abbrev pub normal_text : Meaning → List ℕ
normal_text m = recompose (normal_components m)

-- the normal form of a path, by the scheme and the authority before it, in this order (section
-- 6.2.2.3)
abbrev pub normal_path_text : TableSet → Option (List ℕ) → Option (List ℕ) → List ℕ → List ℕ
normal_path_text set scheme authority path =
    let text = print (decode_unreserved set (dotless_path scheme path)) in
    if is_some scheme then guarded authority text else text

-- whether normalising a path under the scheme underflows: its dot segments are removed, and a
-- double dot has no segment left to remove
abbrev pub path_underflows : Option (List ℕ) → List ℕ → Bool
path_underflows scheme path = is_some scheme && starts slash path && underflows path

-- the default port of a scheme in upper or lower case, if the port function has one (section 6.2.3)
abbrev pub default_port_of : PortFunction → Option (List ℕ) → Option ℕ
default_port_of ports scheme = option_and_then ports (normal_scheme scheme)
