-- The target of a reference by the basic algorithm: RFC 3986, sections 5.2.2 and 5.2.3, as they are
-- printed, in the strict form.
use Rattle.std.specs.Prelude.{ℕ, ◌&&◌, List, ◌++◌, codes, Bool, Result, Ok, Err, is_none, is_some, if◌then◌else◌}
use Rattle.uri_pct.specs.Prelude.{slash}
use Rattle.uri_parts.specs.Prelude.{Components, components, has_authority, recompose, starts}
use Rattle.uri_ops.specs.Prelude.{is_empty, up_to_last_slash}
use Rattle.uri_basic.specs.Removal.{remove_dot_segments}

-- The merged path of a base and a reference's path (section 5.2.3).
-- "If the base URI has a defined authority component and an empty path, then return a string
-- consisting of `/` concatenated with the reference's path; otherwise, return a string consisting
-- of the reference's path component appended to all but the last segment of the base URI's path
-- (i.e., excluding any characters after the right-most `/` in the base URI path, or excluding the
-- entire base URI path if it does not contain any `/` characters)."
abbrev pub merge : Components → List ℕ → List ℕ
merge base path =
    if is_some base.authority && is_empty base.path then codes "/" ++ path
    else up_to_last_slash base.path ++ path

-- The components of the target of a base and a reference, in this order (section 5.2.2).
-- The base's fragment is in none of them (section 5.1).
abbrev pub target : Components → Components → Components
target base r =
    if is_some r.scheme then record {
      scheme = r.scheme;
      authority = r.authority;
      path = remove_dot_segments r.path;
      query = r.query;
      fragment = r.fragment;
    }
    else (if is_some r.authority then record {
      scheme = base.scheme;
      authority = r.authority;
      path = remove_dot_segments r.path;
      query = r.query;
      fragment = r.fragment;
    }
    else (if is_empty r.path then record {
      scheme = base.scheme;
      authority = base.authority;
      path = base.path;
      query = if is_some r.query then r.query else base.query;
      fragment = r.fragment;
    }
    else (if starts slash r.path then record {
      scheme = base.scheme;
      authority = base.authority;
      path = remove_dot_segments r.path;
      query = r.query;
      fragment = r.fragment;
    }
    else record {
      scheme = base.scheme;
      authority = base.authority;
      path = remove_dot_segments (merge base r.path);
      query = r.query;
      fragment = r.fragment;
    })))

-- whether a target's path would be parsed as an authority: "if a URI does not contain an authority
-- component, then the path cannot begin with two slash characters" (section 3.3)
abbrev pub is_ambiguous : Components → Bool
is_ambiguous t = is_none t.authority && has_authority t.path

-- why the basic algorithm's target is not a text
pub data BasicTargetError : Type 0 where
  PathStartsWithDoubleSlash : BasicTargetError

-- the text of the target of a base and a reference, by their components (section 5.3), or why there
-- is none
abbrev pub basic_resolution : Components → Components → Result (List ℕ) BasicTargetError
basic_resolution base r =
    let t = target base r in
    if is_ambiguous t then Err PathStartsWithDoubleSlash else Ok (recompose t)

-- the text of the target for the texts of a base and a reference, in this order, or why there is
-- none
abbrev pub basic_resolution_of_texts : List ℕ → List ℕ → Result (List ℕ) BasicTargetError
basic_resolution_of_texts base reference = basic_resolution (components base) (components reference)
