-- The reference that is chosen to lead from a base to a target: the inverse of RFC 3986, section
-- 5.2.
use Rattle.std.specs.Prelude.{ℕ, suc, Bool, not, ◌&&◌, ◌||◌, ◌==◌, List, [], ◌∷◌, length, None, bytes_eq, if◌then◌else◌, is_some, nat_le, nat_lt}
use Rattle.std.specs.Option.{option_eq}
use Rattle.uri_pct.specs.Prelude.{slash}
use Rattle.uri_parts.specs.Prelude.{Components, components, recompose, starts}
use Rattle.uri_ops.specs.Prelude.{guarded, is_opaque, lacks_dot_segments, or_slash, remove_dot_segments}
use Rattle.uri_relative.specs.Forms.{from_authority}
use Rattle.uri_relative.specs.Leading.{settled}
use Rattle.uri_relative.specs.Relative.{relative_from}

-- the length of the longest prefix that two paths share and that ends in `/`, or 0 if there is none
unfoldable pub shared_directory_len : List ℕ → List ℕ → ℕ
shared_directory_len (a ∷ one) (b ∷ other) =
    let n = shared_directory_len one other in
    if a == b && (a == slash || nat_lt 0 n) then suc n else 0
shared_directory_len one other = 0

-- the relative path from the base's path to another, in this order; an empty base path has the
-- directory `/` (section 5.2.3)
abbrev pub path_from_base : List ℕ → List ℕ → List ℕ
path_from_base base path =
    relative_from (shared_directory_len (or_slash base) path) (or_slash base) path

-- The path of a reference from the base's path to another: the relative one or the one from the
-- root; the Bool is whether a relative one is preferred.
-- Section 4.2: The path is relative if the base's path has no dot segment, and a relative path is
-- preferred or no longer than the path from the root. Otherwise it is the path from the root.
unfoldable pub shortest_or_preferred_path : Bool → List ℕ → List ℕ → List ℕ
shortest_or_preferred_path prefers base path =
    if lacks_dot_segments base
    && (prefers || nat_le (length (path_from_base base path)) (length (guarded None path)))
    then path_from_base base path else guarded None path

-- whether the base and the target of a relativizer have the same scheme, byte for byte
abbrev pub has_same_scheme : Components → Components → Bool
has_same_scheme base target = option_eq bytes_eq base.scheme target.scheme

-- whether the base and the target of a relativizer have the same authority, byte for byte, or both
-- have none
abbrev pub has_same_authority : Components → Components → Bool
has_same_authority base target = option_eq bytes_eq base.authority target.authority

-- whether the base and the target of a relativizer have the same authority and path, byte for byte
abbrev pub has_same_authority_and_path : Components → Components → Bool
has_same_authority_and_path base target = has_same_authority base target
    && bytes_eq base.path target.path

-- whether the base and the target of a relativizer have the same query, byte for byte, or both have
-- none
abbrev pub has_same_query : Components → Components → Bool
has_same_query base target = option_eq bytes_eq base.query target.query

-- The components of the reference that is made from a base to a settled target, in this order;
-- `prefers`: a relative path is preferred.
-- Section 5.2.2: A reference takes from the base each component before its own first one. So it has
-- the target's components from the first one on that differs from the base's.
unfoldable pub reference_components : Bool → Components → Components → Components
reference_components prefers base target =
    if not (has_same_scheme base target) then target
    else (if has_same_authority_and_path base target && has_same_query base target
    then record target { scheme = None; authority = None; path = []; query = None }
    -- of references without a scheme, an opaque base takes only fragments
    else (if is_opaque base then target
    -- a reference without a query takes the base's
    else (if has_same_authority_and_path base target && is_some target.query
    then record target { scheme = None; authority = None; path = [] }
    -- a path of a reference begins with `/` in the target; the guard `/.` is none of its segments
    else (if has_same_authority base target && starts slash target.path
    then record target {
      scheme = None;
      authority = None;
      path = shortest_or_preferred_path prefers base.path (remove_dot_segments target.path);
    }
    else from_authority target))))

-- the text of the reference that is made from a base to a target, in this order; the Bool is
-- whether a relative path is preferred
unfoldable pub reference_to : Bool → List ℕ → List ℕ → List ℕ
reference_to prefers base target =
    recompose (reference_components prefers (components base) (settled target))
