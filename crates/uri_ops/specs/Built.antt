-- What is rejected of the parts of a builder: RFC 3986, sections 3.3 and 4.2.
use Rattle.std.specs.Prelude.{◌≡◌, ◌&&◌, ◌||◌, not, ℕ, Bool, List, [], Option, Some, None, is_some, unwrap_or, if◌then◌else◌}
use Rattle.uri_parts.specs.Components as Components
use Rattle.uri_parts.specs.Prelude.{IsOfKind, Kind, components, has_colon_in_first_segment, starts}
use Rattle.uri_ops.specs.declared.build.error.BuildError.{BuildError}
use Rattle.uri_ops.specs.declared.build.error.BuildError.TheVariants.{FirstPathSegmentContainsColon, NonemptyRootlessPath, PathStartsWithDoubleSlash}
use Rattle.uri_ops.specs.BuilderParts.{BuilderParts, as_components, parts_text}
use Rattle.uri_ops.specs.Dots.{is_empty}
use Rattle.uri_pct.specs.Prelude.{slash}

-- Why a builder rejects a path, if it does; the Bools are whether it has a scheme, and an
-- authority.
-- Section 3.3: with an authority the path is empty or begins with `/`, without one it does not
-- begin with `//`.
-- Section 4.2: with neither a scheme nor an authority no `:` is in the first segment.
unfoldable pub build_error_of_path : Bool → Bool → List ℕ → Option BuildError
build_error_of_path has_scheme has_authority path =
    if has_authority
    then (if is_empty path || starts slash path then None else Some NonemptyRootlessPath)
    else (if Components.has_authority path then Some PathStartsWithDoubleSlash
    else (if not has_scheme && has_colon_in_first_segment path
    then Some FirstPathSegmentContainsColon
    else None))

-- why a builder rejects its parts, if it does: the error is always of the path, beside scheme and
-- authority
abbrev pub refusal : BuilderParts → Option BuildError
refusal p = build_error_of_path (is_some p.scheme) (is_some p.authority) (unwrap_or p.path [])

-- the text of a builder's parts is of the kind, and is parsed as these parts again
pub record IsTextOfParts (kind : Kind) (p : BuilderParts) : Type 0 where
  pub of_kind : IsOfKind kind (parts_text p)
  pub components : components (parts_text p) ≡ as_components p
