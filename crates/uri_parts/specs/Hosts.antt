-- What a host may be: RFC 3986, section 3.2.2.
use Rattle.std.specs.Prelude.{◌≡◌, ℕ, ◌<◌, Bool, true, false, ◌&&◌, ◌||◌, List, [], ◌∷◌, ◌++◌, length, drop, codes, bytes_eq, nat_lt, Option, Some, None, is_some, if◌then◌else◌}
use Rattle.std.specs.Net.Grammar.{IsColonHex, IsDotted}
use Rattle.std.specs.Net.Reader.{whole_value, read_ipv4, read_ipv6}
use Rattle.uri_pct.specs.Prelude.{IsValidFor, TableSet, full_stop, hexdig_set, ipv_future_set, is_one_of, is_valid_for, left_bracket}
use Rattle.uri_parts.specs.Components.{starts, before_any, from_any}

-- the four kinds of hosts; an address has its numbers (RFC 3986, section 3.2.2)
pub data HostKind : Type 0 where
  Ipv4 : List ℕ → HostKind
  Ipv6 : List ℕ → HostKind
  IpvFuture : HostKind
  RegName : HostKind

-- the text is the IPv4 address of these octets: four decimal numbers below 256 with no leading
-- zeros, joined by `.` (RFC 3986, section 3.2.2)
abbrev pub IsIpv4Text : List ℕ → List ℕ → Type 0
IsIpv4Text text octets = IsDotted text octets

-- the text is the IPv6 address of these segments, without brackets (RFC 3986, section 3.2.2).
-- Eight groups of one to four hexadecimal digits joined by `:`; or one `::` between two lists of
-- such groups, perhaps empty and of at most seven together, the missing ones being 0. The whole, or
-- what follows the `::`, may end in an IPv4 address in place of two groups.
abbrev pub IsIpv6Text : List ℕ → List ℕ → Type 0
IsIpv6Text text segments = IsColonHex text segments

-- the text is an IPvFuture address, without brackets: `v`, hexadecimal digits, `.`, and characters
-- that may be in userinfo, one or more of each (RFC 3986, section 3.2.2)
pub record IsIpvFuture (text : List ℕ) : Type 0 where
  pub letter : ℕ
  pub version : List ℕ
  pub address : List ℕ
  pub whole : text ≡ letter ∷ version ++ (codes "." ++ address)
  pub is_v : is_one_of (codes "vV") letter ≡ true
  pub version_digits : (0 < length version) × IsValidFor hexdig_set version
  pub address_chars : (0 < length address) × IsValidFor ipv_future_set address

-- the text between `[` and `]`, as an IP literal is written (RFC 3986, section 3.2.2)
abbrev pub bracketed : List ℕ → List ℕ
bracketed text = codes "[" ++ (text ++ codes "]")

-- the text is a host of the kind: an address in brackets, an IPv4 address, or else a registered
-- name of characters of the set names (RFC 3986, section 3.2.2)
abbrev pub IsHost : TableSet → List ℕ → HostKind → Type 0
IsHost names text (Ipv6 segments) =
    (address : List ℕ) × (text ≡ bracketed address) × IsIpv6Text address segments
IsHost names text IpvFuture = (address : List ℕ) × (text ≡ bracketed address) × IsIpvFuture address
IsHost names text (Ipv4 octets) = IsIpv4Text text octets
IsHost names text RegName = IsValidFor names text × ((octets : List ℕ) → ¬ (IsIpv4Text text octets))

-- the four octets of the IPv4 address that the whole text is, or `None` if it is no such address
unfoldable pub ipv4_value : List ℕ → Option (List ℕ)
ipv4_value text = whole_value (read_ipv4 text)

-- the eight segments of the IPv6 address that the whole text is, without brackets, or `None` if it
-- is no such address
unfoldable pub ipv6_value : List ℕ → Option (List ℕ)
ipv6_value text = whole_value (read_ipv6 text)

-- the text is the end of an IPvFuture address: `.` and one or more characters that may be in
-- userinfo (RFC 3986, section 3.2.2)
abbrev pub is_future_address : List ℕ → Bool
is_future_address text =
    starts full_stop text && (nat_lt 0 (length (drop 1 text))
    && is_valid_for ipv_future_set (drop 1 text))

-- the text is an IPvFuture address, without brackets: `v`, one or more hexadecimal digits, `.` and
-- more (RFC 3986, section 3.2.2)
unfoldable pub is_ipv_future : List ℕ → Bool
is_ipv_future [] = false
is_ipv_future (letter ∷ rest) =
    let version = before_any (codes ".") rest in
    is_one_of (codes "vV") letter
    && ((nat_lt 0 (length version) && is_valid_for hexdig_set version)
    && is_future_address (from_any (codes ".") rest))

-- what is after the `[` that begins the text, up to the first `]`: the address of an IP literal
abbrev pub literal_of : List ℕ → List ℕ
literal_of text = before_any (codes "]") (drop 1 text)

-- the kind of a host in brackets: IPv6 if it has these segments, or else IPvFuture
abbrev pub literal_kind : Option (List ℕ) → HostKind
literal_kind None = IpvFuture
literal_kind (Some segments) = Ipv6 segments

-- the kind of a host without brackets: IPv4 if it has these octets, or else a registered name
abbrev pub name_kind : Option (List ℕ) → HostKind
name_kind None = RegName
name_kind (Some octets) = Ipv4 octets

-- the kind of a text that is a host (RFC 3986, section 3.2.2)
unfoldable pub host_kind : List ℕ → HostKind
host_kind text =
    if starts left_bracket text then literal_kind (ipv6_value (literal_of text))
    else name_kind (ipv4_value text)

-- the text is a host; names is the set of registered names (RFC 3986, section 3.2.2)
unfoldable pub is_host : TableSet → List ℕ → Bool
is_host names text =
    if starts left_bracket text
    then bytes_eq (bracketed (literal_of text)) text
    && (is_some (ipv6_value (literal_of text)) || is_ipv_future (literal_of text))
    else is_some (ipv4_value text) || is_valid_for names text
