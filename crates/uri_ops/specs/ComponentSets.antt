-- What the characters of each component have in common in all kinds: RFC 3986, sections 2.2, 2.3
-- and 3, and RFC 3987, section 2.2.
use Rattle.std.specs.Prelude.{◌≡◌, true, false, List, ℕ, codes}
use Rattle.std.specs.List.{list_any}
use Rattle.uri_pct.specs.Prelude.{IsSubset, LacksPercent, TableSet, slash, unreserved_set}
use Rattle.uri_parts.specs.Prelude.{Kind}

-- what laws of normal forms ask of a component's set: it has the unreserved characters and
-- percent-encoded octets, and neither `%` by itself nor one of the marks, which end the component
pub record IsComponentSet (marks : List ℕ) (set : TableSet) : Type 0 where
  pub unreserved : IsSubset unreserved_set set
  pub percent : LacksPercent set
  pub octets : set.pct_encoded ≡ true
  pub ends : list_any set.ascii marks ≡ false

-- what laws of normal forms ask of a kind: each of its sets is that of a component, and lacks the
-- delimiters that end the component
pub record HasComponentSets (kind : Kind) : Type 0 where
  pub userinfo : IsComponentSet (codes "/?#[]@") kind.userinfo
  pub reg_name : IsComponentSet (codes "/?#[]@:") kind.reg_name
  pub path : IsComponentSet (codes "?#[]") kind.path
  pub slash : kind.path.ascii slash ≡ true
  pub query : IsComponentSet (codes "#[]") kind.query
  pub fragment : IsComponentSet (codes "#[]") kind.fragment

-- what a kind allows a wider one does, as each URI is an IRI: the second kind's sets are wider, and
-- it needs a scheme only if the first does
pub record IsWithin (kind wide : Kind) : Type 0 where
  pub userinfo : IsSubset kind.userinfo wide.userinfo
  pub reg_name : IsSubset kind.reg_name wide.reg_name
  pub path : IsSubset kind.path wide.path
  pub query : IsSubset kind.query wide.query
  pub fragment : IsSubset kind.fragment wide.fragment
  pub needs_scheme : wide.needs_scheme ≡ true → kind.needs_scheme ≡ true
