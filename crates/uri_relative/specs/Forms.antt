-- The forms of references: RFC 3986, section 4.2.
use Rattle.std.specs.Prelude.{◌≡◌, ◌≢◌, ◌≤◌, ℕ, Bool, true, false, List, [], ◌++◌, codes, length, None, ◌==◌, ◌&&◌, if◌then◌else◌, is_none, is_some, slice_index}
use Rattle.uri_pct.specs.Prelude.{full_stop, slash}
use Rattle.uri_parts.specs.Prelude.{Components, IsSplitOf, Kind, components_meet_rules, marked, positions_of, recompose, starts}
use Rattle.uri_parts.specs.declared.positions.Positions.{Positions}
use Rattle.uri_ops.specs.Prelude.{HasComponentSets, IsAbsolute, guarded, is_opaque, is_opaque_rejection, lacks_dot_segments, reference_kind, target_of, target_underflows, with_final_path}
use Rattle.uri_relative.specs.Leading.{IsRelativeTo}
use Rattle.uri_relative.specs.Shortest.{Shortest}

-- the text after the path of a target that is relativized: the query and the fragment with their
-- delimiters
abbrev pub after_path : Components → List ℕ
after_path p = marked (codes "?") p.query [] ++ marked (codes "#") p.fragment []

-- the text of a target that is relativized after its scheme and `:`
abbrev pub after_scheme : Components → List ℕ
after_scheme p = marked (codes "//") p.authority [] ++ (p.path ++ after_path p)

-- the components of a target without the scheme, if it has an authority: a reference that begins
-- with `//`
abbrev pub from_authority : Components → Components
from_authority p = if is_some p.authority then record p { scheme = None } else p

-- The components of a reference of the kind that leads from the base to a target without dot
-- segments to remove; `prefers`: a relative path is preferred.
-- Unless it is, the reference is no longer than the target, and none is shorter if the base's path
-- has no dot segment.
pub record IsReferenceTo (kind : Kind) (prefers : Bool) (base target r : Components) : Type 0 where
  pub split : IsSplitOf (recompose r) r
  pub meets : components_meet_rules (reference_kind kind) r ≡ true
  pub leads : target_of base r ≡ target
  pub taken : is_opaque_rejection base r ≡ false
  pub below : target_underflows base r ≡ false
  pub relative : IsRelativeTo base target r
  pub short : prefers ≡ false → length (recompose r) ≤ length (recompose target)
  pub shortest : prefers ≡ false → lacks_dot_segments base.path ≡ true
      → Shortest kind base target (length (recompose r))

-- targets to relativize: the components are a target of which no dot segment is removed, of a kind
-- that needs a scheme
pub record IsDotlessTargetOf (kind : Kind) (t : Components) : Type 0 where
  pub sets : HasComponentSets kind
  pub split : IsSplitOf (recompose t) t
  pub meets : components_meet_rules kind t ≡ true
  pub scheme : is_some t.scheme ≡ true
  pub settled : with_final_path t ≡ t

-- of each kind that the target is of, the last components are a reference from the base to it; the
-- Bool is whether a relative path is preferred
abbrev pub IsReferenceOfEachKind : Bool → Components → Components → Components → Type 0
IsReferenceOfEachKind prefers base target r =
    (kind : Kind) → IsDotlessTargetOf kind target → IsReferenceTo kind prefers base target r

-- The text is that of a reference from the base to the target, in this order, and the positions are
-- those of its components.
-- It is one whether or not a relative path is preferred.
abbrev pub IsTextOfReference : Components → Components → List ℕ → Positions → Type 0
IsTextOfReference base target text positions =
    (r : Components) × (text ≡ recompose r) × (positions ≡ positions_of r)
    × ((prefers : Bool) → IsReferenceOfEachKind prefers base target r)

-- No reference without a path leads from the base to the target: if authority and path are equal,
-- the queries differ and the target has none.
-- With an opaque base the target may have a query: such a base takes no reference that begins with
-- `?`.
pub record NeedsPath (base target : Components) : Type 0 where
  pub other_query : base.authority ≡ target.authority → base.path ≡ target.path
      → base.query ≢ target.query
  pub no_query : base.authority ≡ target.authority → base.path ≡ target.path
      → is_opaque base ≡ false → is_none target.query ≡ true

-- the reference from the base to the target has a path that leads from the base's to the target's:
-- scheme and authority are equal
pub record NeedsRelativePath (base target : Components) : Type 0 where
  pub scheme : base.scheme ≡ target.scheme
  pub authority : base.authority ≡ target.authority
  pub opaque : is_opaque base ≡ false
  pub absolute : starts slash target.path ≡ true
  pub needs : NeedsPath base target

-- the path that a reference leads to is the target's without a guard `/.`: with its guard, if it
-- needs one, it is the target's (section 5.2.2)
pub record IsUnguarded (target : Components) (path : List ℕ) : Type 0 where
  pub absolute : IsAbsolute path
  pub dotless : lacks_dot_segments path ≡ true
  pub guards : guarded target.authority path ≡ target.path

-- whether a target's path begins with the guard `/.` and `//` (section 4.2)
abbrev pub is_guarded : List ℕ → Bool
is_guarded path =
    slice_index path 0 == slash && slice_index path 1 == full_stop
    && slice_index path 2 == slash && slice_index path 3 == slash
