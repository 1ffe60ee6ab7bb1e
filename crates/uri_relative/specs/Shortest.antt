-- That no reference to a target is shorter: RFC 3986, sections 4.2 and 5.2.
use Rattle.std.specs.Prelude.{◌≡◌, ◌≤◌, ℕ, true, false, List, length, Ok}
use Rattle.uri_parts.specs.Prelude.{Components, IsOfKind, IsSplitOf, Kind, components, components_meet_rules, has_authority, has_colon_in_first_segment, recompose}
use Rattle.uri_ops.specs.Prelude.{is_empty, is_opaque_rejection, lacks_dot_segments, reference_kind, remove_dot_segments, resolution_of, target_of}
use Rattle.uri_relative.specs.Leading.{without_fragment, settled}
use Rattle.uri_relative.specs.Relative.{joined_path}

-- no path of a reference that leads from the base's path to another is shorter than `way`, if the
-- base's path has no dot segment
abbrev pub IsShortestPath : List ℕ → List ℕ → List ℕ → Type 0
IsShortestPath base path way = lacks_dot_segments base ≡ true → (other : List ℕ)
    → is_empty other ≡ false → has_authority other ≡ false → has_colon_in_first_segment other
    ≡ false
    → remove_dot_segments (joined_path base other) ≡ path → length way ≤ length other

-- the components `other` are of a reference of the kind that leads from the base to the target
pub record IsReferenceFrom (kind : Kind) (base target other : Components) : Type 0 where
  pub split : IsSplitOf (recompose other) other
  pub meets : components_meet_rules (reference_kind kind) other ≡ true
  pub leads : target_of base other ≡ target
  pub taken : is_opaque_rejection base other ≡ false

-- no reference of the kind that leads from the base to the target, in this order, is shorter than n
-- bytes
abbrev pub Shortest : Kind → Components → Components → ℕ → Type 0
Shortest kind base target n =
    (other : Components) → IsReferenceFrom kind base target other → n ≤ length (recompose other)

-- No reference of the kind that leads from the base to the target is shorter than the reference, if
-- the base's path has no dot segment.
-- The texts are the base, the target and the reference. Each reference is resolved against the base
-- without its fragment.
abbrev pub IsShortest : Kind → List ℕ → List ℕ → List ℕ → Type 0
IsShortest kind base target reference = lacks_dot_segments (components base).path ≡ true
    → (other : List ℕ) → IsOfKind (reference_kind kind) other
    → resolution_of (without_fragment (components base)) (components other)
    ≡ Ok (recompose (settled target))
    → length reference ≤ length other
