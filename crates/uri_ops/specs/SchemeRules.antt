-- What a text means under the rules of its scheme: RFC 3986, section 6.2.3.
use Rattle.std.specs.Prelude.{ℕ, Bool, true, false, ◌&&◌, List, [], ◌∷◌, codes, bytes_eq, Option, Some, None, is_some, option_map, if◌then◌else◌}
use Rattle.uri_pct.specs.Prelude.{Char, Token, slash}
use Rattle.uri_parts.specs.Prelude.{Kind, PortFunction, default_port}
use Rattle.uri_ops.specs.Meaning.{Name, AuthorityMeaning, Meaning, meaning_of}
use Rattle.uri_ops.specs.Normal.{normal_authority}

-- the rules of schemes, which are given in lower case (section 6.2.3): the default port of each;
-- the schemes under which an empty path after an authority is equivalent to `/`; and those whose
-- default host is `localhost`
pub record Rules : Type 0 where
  pub ports : PortFunction
  pub roots : List ℕ → Bool
  pub locals : List ℕ → Bool

-- the rules with these default ports, these schemes with the path `/` and these with the default
-- host `localhost`
abbrev pub rules_with : PortFunction → (List ℕ → Bool) → (List ℕ → Bool) → Rules
rules_with ports roots locals = record { ports = ports; roots = roots; locals = locals }

-- the rules that have default ports alone
abbrev pub only_ports : PortFunction → Rules
only_ports ports = rules_with ports (λ _. false) (λ _. false)

-- the rules that have the default ports of `Scheme::default_port` alone
abbrev pub default_rules : Rules
default_rules = only_ports default_port

-- whether the scheme is one of a rule. An absent scheme is none: that of a relative reference is
-- found only when it is resolved.
abbrev pub is_scheme_of : (List ℕ → Bool) → Option (List ℕ) → Bool
is_scheme_of rule None = false
is_scheme_of rule (Some scheme) = rule scheme

-- whether a path, given by its tokens, is empty
abbrev pub has_no_token : List Token → Bool
has_no_token [] = true
has_no_token (t ∷ ts) = false

-- the path `/`
abbrev pub root : List Token
root = Char slash ∷ []

-- what an empty authority means
abbrev pub empty_authority : AuthorityMeaning
empty_authority = record { userinfo = None; host = Name []; port = None }

-- whether an authority is `localhost` in normal form: it has no userinfo, and no port but an empty
-- or default one. With others "the host should be given explicitly even if it matches the default"
-- (section 6.2.3).
abbrev pub is_localhost : AuthorityMeaning → Bool
is_localhost a = bytes_eq (normal_authority a) (codes "localhost")

-- what an authority means, where `local` is whether `localhost` is the default host: then "the
-- reference should be normalized to an empty authority" (section 6.2.3)
abbrev pub authority_under : Bool → AuthorityMeaning → AuthorityMeaning
authority_under local a = if local && is_localhost a then empty_authority else a

-- what a path means, where `rooted` is whether an empty one is `/` after an authority: "a URI that
-- uses the generic syntax for authority with an empty path should be normalized to a path of `/`"
-- (section 6.2.3)
abbrev pub path_under : Bool → Bool → List Token → List Token
path_under rooted follows_authority path =
    if (rooted && follows_authority) && has_no_token path then root else path

-- what a meaning becomes by the rules of its scheme. Its query and its fragment have none: "the
-- fragment component is not subject to any scheme-based normalization" (section 6.2.3).
abbrev pub under_rules : Rules → Meaning → Meaning
under_rules rules m =
    record m {
      authority = option_map (authority_under (is_scheme_of rules.locals m.scheme)) m.authority;
      path = path_under (is_scheme_of rules.roots m.scheme) (is_some m.authority) m.path;
    }

-- what a text of the kind means under the rules of its scheme (section 6.2.3)
abbrev pub meaning_under : Kind → Rules → List ℕ → Meaning
meaning_under kind rules text = under_rules rules (meaning_of kind rules.ports text)
