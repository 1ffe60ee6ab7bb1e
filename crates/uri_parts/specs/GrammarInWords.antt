-- Which texts are of a kind, in the words of the RFCs: RFC 3986, sections 3, 3.3 and 4.2, and
-- RFC 3987, section 2.2.
use Rattle.std.specs.Prelude.{◌≡◌, ℕ, true, false, ◌⊎◌, List, IfSome, IsSome}
use Rattle.uri_pct.specs.Prelude.{IsValidFor}
use Rattle.uri_parts.specs.Authority.{AuthorityParts, IsAuthorityFor}
use Rattle.uri_parts.specs.Components.{Components, IsSplitOf}
use Rattle.uri_parts.specs.Grammar.{Kind, is_scheme, has_colon_in_first_segment}

-- the text is cut into userinfo, host and port, and each meets its rule of the kind (RFC 3986,
-- section 3.2)
abbrev pub HasAuthorityParts : Kind → List ℕ → Type 0
HasAuthorityParts kind text =
    (parts : AuthorityParts) × IsAuthorityFor kind.userinfo kind.reg_name text parts

-- the components p are those of the text, and each meets its rule of the kind, in the words of
-- RFC 3986, sections 3, 3.3 and 4.2, and RFC 3987, section 2.2
pub record FollowsRules (kind : Kind) (text : List ℕ) (p : Components) : Type 0 where
  pub split : IsSplitOf text p
  pub scheme : IfSome p.scheme (λ s. is_scheme s ≡ true)
  pub authority : IfSome p.authority (HasAuthorityParts kind)
  pub path : IsValidFor kind.path p.path
  pub query : IfSome p.query (IsValidFor kind.query)
  pub fragment : IfSome p.fragment (IsValidFor kind.fragment)
  -- without a scheme, where none is needed, no `:` is in a first segment that no authority comes
  -- before
  pub reference : IsSome p.scheme
      ⊎ ((kind.needs_scheme ≡ false)
      × (IsSome p.authority ⊎ (has_colon_in_first_segment p.path ≡ false)))

-- the text is of the kind, in the words of the RFCs: it has components that meet the rules
-- (RFC 3986, section 3; RFC 3987, section 2.2)
abbrev pub IsInGrammar : Kind → List ℕ → Type 0
IsInGrammar kind text = (p : Components) × FollowsRules kind text p
