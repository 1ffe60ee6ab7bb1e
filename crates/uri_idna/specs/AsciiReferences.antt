-- References with their hosts in ASCII: RFC 3987, section 3.1.
use Rattle.std.specs.Prelude.{◌≡◌, ℕ, List, Option, Some, None, IsSomeAnd, option_map, ⊤}
use Rattle.uri_parts.specs.Prelude.{Components, authority_parts, components, recompose, recompose_authority}
use Rattle.uri_idna.specs.declared.error.AsciiHostError.{AsciiHostError}
use Rattle.uri_idna.specs.declared.error.AsciiHostError.TheVariants.{OutOfMemory}
use Rattle.uri_idna.specs.AsciiHosts.{IsAsciiHostError, ascii_host}

-- the text of an authority with this host in place of its own
abbrev pub with_host : List ℕ → List ℕ → List ℕ
with_host authority host = recompose_authority (record (authority_parts authority) { host = host })

-- components with this authority in place of their own
abbrev pub with_authority : Components → List ℕ → Components
with_authority c authority = record c { authority = Some authority }

-- components with the host of this authority, which is theirs, in ASCII, if it has such a form;
-- without an authority they stay
abbrev pub ascii_components : Components → Option (List ℕ) → Option Components
ascii_components c None = Some c
ascii_components c (Some authority) =
    option_map (λ host. with_authority c (with_host authority host))
    (ascii_host (authority_parts authority).host)

-- a text with its host in ASCII, if it has such a form: nothing else changes (RFC 3987, section
-- 3.1)
abbrev pub with_ascii_host : List ℕ → Option (List ℕ)
with_ascii_host text =
    option_map recompose (ascii_components (components text) (components text).authority)

-- an authority has the userinfo and the port of another one, and its host in ASCII
pub record IsWithAsciiHost (authority other : List ℕ) : Type 0 where
  pub userinfo : (authority_parts other).userinfo ≡ (authority_parts authority).userinfo
  pub port : (authority_parts other).port ≡ (authority_parts authority).port
  pub host : ascii_host (authority_parts authority).host ≡ Some (authority_parts other).host

-- an authority that may be absent is absent, or has its host in ASCII and is else the same
abbrev pub IsAuthorityWithAsciiHost : Option (List ℕ) → Option (List ℕ) → Type 0
IsAuthorityWithAsciiHost None other = other ≡ None
IsAuthorityWithAsciiHost (Some authority) other = IsSomeAnd other (IsWithAsciiHost authority)

-- Nothing but the host of a text changes, and it is in ASCII.
pub record HasAsciiHost (text made : List ℕ) : Type 0 where
  pub scheme : (components made).scheme ≡ (components text).scheme
  pub authority : IsAuthorityWithAsciiHost (components text).authority (components made).authority
  pub path : (components made).path ≡ (components text).path
  pub query : (components made).query ≡ (components text).query
  pub fragment : (components made).fragment ≡ (components text).fragment

-- a text may be rejected with the error: its host may be; or memory ran out
abbrev pub IsAsciiHostErrorOf : List ℕ → AsciiHostError → Type 0
IsAsciiHostErrorOf text OutOfMemory = ⊤
IsAsciiHostErrorOf text error =
    IsSomeAnd (components text).authority (λ a. IsAsciiHostError (authority_parts a).host error)
