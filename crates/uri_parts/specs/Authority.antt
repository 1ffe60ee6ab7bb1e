-- The components of an authority: RFC 3986, section 3.2.
use Rattle.std.specs.Prelude.{◌≡◌, ℕ, Bool, true, false, ◌&&◌, List, [], ◌++◌, drop, codes, bytes_eq, Option, IfSome, if◌then◌else◌}
use Rattle.std.specs.List.{list_any}
use Rattle.std.specs.Option.{option_map_or}
use Rattle.uri_pct.specs.Prelude.{IsValidFor, LacksPercent, TableSet, at_sign, colon, digit_set, is_valid_for, left_bracket}
use Rattle.uri_parts.specs.Components.{marked, starts, before_any, from_any, when}
use Rattle.uri_parts.specs.Hosts.{HostKind, IsHost, is_host}

-- the components of an authority, without their delimiters; userinfo and port may be absent
-- (RFC 3986, section 3.2)
pub record AuthorityParts : Type 0 where
  pub userinfo : Option (List ℕ)
  pub host : List ℕ
  pub port : Option (List ℕ)

-- the text of an authority's components, with `@` after userinfo and `:` before a port (RFC 3986,
-- section 3.2)
abbrev pub recompose_authority : AuthorityParts → List ℕ
recompose_authority p = marked [] p.userinfo (codes "@") ++ (p.host ++ marked (codes ":") p.port [])

-- the text is an authority with the components p, in the words of RFC 3986, section 3.2; users and
-- names are the sets of userinfo and of registered names
pub record IsAuthorityFor (users names : TableSet) (text : List ℕ)
    (p : AuthorityParts) : Type 0 where
  pub whole : recompose_authority p ≡ text
  pub userinfo : IfSome p.userinfo (IsValidFor users)
  pub host : (h : HostKind) × IsHost names p.host h
  pub port : IfSome p.port (IsValidFor digit_set)

-- the set of userinfo (users) lacks `@`, and that of registered names (names) lacks `@`, `:` and
-- `[`; neither has a literal `%`
pub record LackAuthorityDelimiters (users names : TableSet) : Type 0 where
  pub users_percent : LacksPercent users
  pub names_percent : LacksPercent names
  pub users_marks : list_any users.ascii (codes "@") ≡ false
  pub names_marks : list_any names.ascii (codes "@:[") ≡ false

-- of an authority, what follows its userinfo and first `@`, or all of it if it has no `@`
-- (RFC 3986, section 3.2.1)
abbrev pub after_userinfo : List ℕ → List ℕ
after_userinfo text =
    if starts at_sign (from_any (codes "@") text) then drop 1 (from_any (codes "@") text) else text

-- the host that begins the text: up to the first `]` if it begins with `[`, and else up to the
-- first `:` (RFC 3986, section 3.2.2)
abbrev pub leading_host : List ℕ → List ℕ
leading_host rest =
    if starts left_bracket rest then before_any (codes "]") rest ++ codes "]"
    else before_any (codes ":") rest

-- what follows the host that begins the text: after the first `]` if it begins with `[`, and else
-- from the first `:` on (RFC 3986, section 3.2.2)
abbrev pub after_host : List ℕ → List ℕ
after_host rest =
    if starts left_bracket rest then drop 1 (from_any (codes "]") rest)
    else from_any (codes ":") rest

-- the components of an authority: userinfo ends at the first `@`, a host in brackets after the
-- first `]` and another at the first `:`, which begins a port (RFC 3986, section 3.2)
abbrev pub authority_parts : List ℕ → AuthorityParts
authority_parts text =
    let rest = after_userinfo text in
    let suffix = after_host rest in
    record {
      userinfo = when (starts at_sign (from_any (codes "@") text)) (before_any (codes "@") text);
      host = leading_host rest;
      port = when (starts colon suffix) (drop 1 suffix);
    }

-- the text is an authority: each component of its cut meets its rule, and together they are the
-- text (RFC 3986, section 3.2). The sets are those of userinfo and of registered names.
unfoldable pub is_authority_for : TableSet → TableSet → List ℕ → Bool
is_authority_for users names text =
    let p = authority_parts text in
    bytes_eq (recompose_authority p) text
    && (option_map_or (is_valid_for users) p.userinfo true
    && (is_host names p.host && option_map_or (is_valid_for digit_set) p.port true))
