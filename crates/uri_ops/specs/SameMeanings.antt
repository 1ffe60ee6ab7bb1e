-- Whether two meanings are equal, part by part: RFC 3986, section 6.2.2.
use Rattle.std.specs.Prelude.{Bool, false, ◌==◌, ◌&&◌, List, bytes_eq}
use Rattle.std.specs.Cmp.Lexicographic.{pointwise}
use Rattle.std.specs.Option.{option_eq}
use Rattle.uri_pct.specs.Prelude.{Char, Octet, Token}
use Rattle.uri_ops.specs.Meaning.{HostMeaning, Address, FutureAddress, Name, AuthorityMeaning, Meaning}

-- whether two tokens of meanings are equal: both literal or both percent-encoded, and of one code
abbrev pub same_token : Token → Token → Bool
same_token (Char c) (Char d) = c == d
same_token (Octet c) (Octet d) = c == d
same_token _ _ = false

-- whether two lists of tokens are equal, as those of two paths' meanings
abbrev pub same_tokens : List Token → List Token → Bool
same_tokens = pointwise same_token

-- whether two hosts mean the same: both are IPv6 addresses, addresses of a later version, or names,
-- with equal contents
abbrev pub same_host : HostMeaning → HostMeaning → Bool
same_host (Address a) (Address b) = bytes_eq a b
same_host (FutureAddress a) (FutureAddress b) = bytes_eq a b
same_host (Name a) (Name b) = same_tokens a b
same_host _ _ = false

-- whether two authorities mean the same: userinfo, host and port (section 6.2.2)
abbrev pub same_authority : AuthorityMeaning → AuthorityMeaning → Bool
same_authority a b =
    option_eq same_tokens a.userinfo b.userinfo &&
    (same_host a.host b.host && option_eq bytes_eq a.port b.port)

-- whether two meanings of texts are equal, component by component (section 6.2.2)
unfoldable pub same_meaning : Meaning → Meaning → Bool
same_meaning m n =
    option_eq bytes_eq m.scheme n.scheme
    && (option_eq same_authority m.authority n.authority
    && (same_tokens m.path n.path
    && (option_eq same_tokens m.query n.query && option_eq same_tokens m.fragment n.fragment)))
