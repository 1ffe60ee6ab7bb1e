-- What a reference that leads from a base to a target is: the inverse of RFC 3986, section 5.2.
use Rattle.std.specs.Prelude.{◌≡◌, ◌≢◌, ◌≤◌, ℕ, Bool, false, not, ◌&&◌, ◌||◌, List, length, None, Ok, is_some, is_none}
use Rattle.uri_pct.specs.Prelude.{slash}
use Rattle.uri_parts.specs.Prelude.{Components, components, recompose, starts}
use Rattle.uri_ops.specs.Prelude.{is_empty, is_opaque, resolution_of, resolution_of_texts, target_underflows, with_final_path}

-- the components of the base that a reference leads from: without its fragment, of which a base is
-- stripped before use (section 5.1)
abbrev pub without_fragment : Components → Components
without_fragment base = record base { fragment = None }

-- The settled target, by the text of a target: its components without dot segments, if its path
-- begins with `/`.
-- They are those of the text that the target, which has a scheme, resolves to itself (section
-- 5.2.2).
abbrev pub settled : List ℕ → Components
settled target = with_final_path (components target)

-- the reference leads from the base to the target: resolved against the base, it and the target
-- give the same text, and no `..` of it underflows
pub record LeadsTo (base target reference : List ℕ) : Type 0 where
  pub leads : resolution_of (without_fragment (components base)) (components reference)
      ≡ Ok (recompose (settled target))
  pub itself : resolution_of (without_fragment (components base)) (components target)
      ≡ Ok (recompose (settled target))
  pub below : target_underflows (without_fragment (components base)) (components reference) ≡ false

-- the reference made, the last text, resolves against the base to the target, if the target is what
-- any reference resolves to
abbrev pub LeadsBackToTarget : List ℕ → List ℕ → List ℕ → Type 0
LeadsBackToTarget base target short = (reference : List ℕ)
    → resolution_of_texts base reference ≡ Ok target
    → resolution_of_texts base short ≡ Ok target

-- the reference is no longer than the settled target, and that no longer than the target
pub record IsNoLonger (target reference : List ℕ) : Type 0 where
  pub than_settled : length reference ≤ length (recompose (settled target))
  pub than_given : length (recompose (settled target)) ≤ length target

-- The targets that no reference without a scheme and an authority leads to, if the base has the
-- same scheme and authority, and is not opaque.

-- Whether a target to relativize has no authority, and a path that does not begin with `/`. Each
-- path that a reference has, or takes from the base, begins with `/` in the target (section 5.2.3).
abbrev pub is_rootless : Components → Bool
is_rootless target = is_none target.authority && not (starts slash target.path)

-- Whether a target to relativize has an authority and an empty path, and the base, the first
-- argument, a path that is not empty. A reference without a path takes the base's (section 5.2.2).
abbrev pub has_emptied_path : Components → Components → Bool
has_emptied_path base target =
    is_some target.authority && is_empty target.path && not (is_empty base.path)

-- Whether base and target of a relativizer, in this order, have empty paths, and only the base has
-- a query. A reference without a path takes the query, too (section 5.2.2).
abbrev pub would_inherit_query : Components → Components → Bool
would_inherit_query base target =
    is_empty target.path && is_empty base.path && is_none target.query && is_some base.query

-- whether a reference to the target needs a scheme or an authority, even from a base with the same
-- ones; the arguments are the base and the target
abbrev pub needs_authority : Components → Components → Bool
needs_authority base target =
    is_rootless target || (has_emptied_path base target || would_inherit_query base target)

-- the reference from the base to the target, in this order, has neither scheme nor authority, if
-- the base has the target's and is not opaque, unless it needs one
abbrev pub IsRelativeTo : Components → Components → Components → Type 0
IsRelativeTo base target reference =
    base.scheme ≡ target.scheme → base.authority ≡ target.authority → is_opaque base ≡ false
    → needs_authority base target ≡ false
    → (reference.scheme ≡ None) × (reference.authority ≡ None)

-- no reference without a scheme and an authority resolves against the base, the first text, to the
-- settled target of the second
abbrev pub NeedsSchemeOrAuthority : List ℕ → List ℕ → Type 0
NeedsSchemeOrAuthority base target = (reference : List ℕ)
    → (components reference).scheme ≡ None → (components reference).authority ≡ None
    → resolution_of (without_fragment (components base)) (components reference)
    ≢ Ok (recompose (settled target))
