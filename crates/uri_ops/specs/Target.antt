-- The target of a reference: RFC 3986, section 5.2.2 in its strict form. Where it differs from the
-- RFC, a line says so.
use Rattle.std.specs.Prelude.{ℕ, Bool, not, ◌&&◌, ◌||◌, List, ◌++◌, codes, Option, Result, Ok, Err, is_some, is_none, if◌then◌else◌}
use Rattle.uri_parts.specs.Prelude.{Components, components, has_authority, recompose, starts}
use Rattle.uri_ops.specs.Dots.{is_empty, remove_dot_segments, underflows, directory}
use Rattle.uri_pct.specs.Prelude.{slash}

-- why a reference has no target against a base (sections 5.1 and 5.2)
pub data TargetError : Type 0 where
  BaseWithFragment : TargetError
  InvalidReferenceAgainstOpaqueBase : TargetError

-- whether a base is opaque: it has no authority, and its path does not begin with `/`
abbrev pub is_opaque : Components → Bool
is_opaque base = is_none base.authority && not (starts slash base.path)

-- whether a reference is the empty text, or begins with `#`: it has no other component than a
-- fragment
abbrev pub is_fragment_only : Components → Bool
is_fragment_only r = is_none r.scheme && is_none r.authority && is_empty r.path && is_none r.query

-- Whether an opaque base rejects the reference: it takes only one that has a scheme, is empty or
-- begins with `#`.
-- Not in the RFC.
abbrev pub is_opaque_rejection : Components → Components → Bool
is_opaque_rejection base r = is_opaque base && not (is_some r.scheme || is_fragment_only r)

-- The merged path of a base and a reference, by their paths: the reference's after the base's
-- directory (section 5.2.3).
-- `directory` says what is not in the RFC.
abbrev pub merged : List ℕ → List ℕ → List ℕ
merged base reference = directory base ++ reference

-- the target's query, by the base's and the reference's, where the reference's path is empty: the
-- base's if the reference has none (section 5.2.2)
abbrev pub query_or : Option (List ℕ) → Option (List ℕ) → Option (List ℕ)
query_or base query = if is_some query then query else base

-- the components of the target of a base and a reference, before dot segments are removed (section
-- 5.2.2)
abbrev pub dotted_target : Components → Components → Components
dotted_target base r =
    if is_some r.scheme then r
    else (if is_some r.authority then record r { scheme = base.scheme }
    else (if is_empty r.path
    then record base { query = query_or base.query r.query; fragment = r.fragment }
    else (if starts slash r.path
    then record base { path = r.path; query = r.query; fragment = r.fragment }
    else record base { path = merged base.path r.path; query = r.query; fragment = r.fragment })))

-- the target's path without its dot segments, if it begins with `/` (section 5.2.2)
abbrev pub dotless_if_absolute : List ℕ → List ℕ
dotless_if_absolute path =
    if starts slash path
    -- Not in the RFC: they are removed from the base's path too, where the reference's is empty.
    then remove_dot_segments path
    -- Not in the RFC: a path that does not begin with `/` keeps them, such as that of `foo:a/../b`.
    else path

-- A target's path, with the guard `/.` before it if it begins with `//` and the authority, the
-- Option, is absent. Not in the RFC: the path would be parsed as an authority.
abbrev pub guarded : Option (List ℕ) → List ℕ → List ℕ
guarded authority path =
    if is_none authority && has_authority path then codes "/." ++ path else path

-- the components of the target of a base and a reference, in this order (section 5.2.2)
abbrev pub target_of : Components → Components → Components
target_of base r =
    let t = dotted_target base r in record t {
      path = guarded t.authority
          (dotless_if_absolute t.path);
    }

-- whether the dot segments of the path are removed from a target, since it begins with `/`, and
-- underflow
abbrev pub underflows_if_absolute : List ℕ → Bool
underflows_if_absolute path = starts slash path && underflows path

-- whether resolving underflows for a base and a reference: removing the dot segments of the
-- target's path does
abbrev pub target_underflows : Components → Components → Bool
target_underflows base r = underflows_if_absolute (dotted_target base r).path

-- the text of the target of a base and a reference, by their components, or why there is none
-- (section 5.2)
abbrev pub resolution_of : Components → Components → Result (List ℕ) TargetError
resolution_of base r =
    -- section 5.1: a base is stripped of its fragment before it is used
    if is_some base.fragment then Err BaseWithFragment
    else (if is_opaque_rejection base r then Err InvalidReferenceAgainstOpaqueBase
    else Ok (recompose (target_of base r)))

-- the target's text for the texts of a base and a reference, in this order, or why there is none
-- (section 5.2)
abbrev pub resolution_of_texts : List ℕ → List ℕ → Result (List ℕ) TargetError
resolution_of_texts base reference = resolution_of (components base) (components reference)
