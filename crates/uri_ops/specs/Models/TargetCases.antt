-- The cases of the pseudocode of RFC 3986, section 5.2.2, and what each takes from a base and a
-- reference.
use Rattle.std.specs.Prelude.{◌≡◌, true, false, List, ℕ, [], ◌++◌, codes, IfSome, Option, is_some, length, option_map, unwrap_or}
use Rattle.std.specs.Borrow.{Bor}
use Rattle.uri_pct.specs.Prelude.{slash}
use Rattle.uri_parts.specs.Prelude.{Components, IsAbemptyPath, marked, positions_of, starts}
use Rattle.uri_ops.specs.Dots.{is_empty}
use Rattle.uri_ops.specs.Target.{merged, query_or}
use Rattle.uri_ops.specs.Models.Places.{before_path}
use Rattle.uri_ops.specs.declared.resolve.dotted_target.DottedTarget.{DottedTarget}
use Rattle.uri_ops.specs.declared.resolve.target_case.TargetCase.{TargetCase}
use Rattle.uri_ops.specs.declared.resolve.target_case.TargetCase.TheVariants.{WithScheme, WithAuthority, EmptyPath, AbsolutePath, MergedPath}

-- a reference that has neither a scheme nor an authority: the target has the base's
pub record HasPathFirst (r : Components) : Type 0 where
  pub scheme : is_some r.scheme ≡ false
  pub authority : is_some r.authority ≡ false

-- the case is that of a reference with these components
abbrev pub IsCaseOf : Components → TargetCase → Type 0
IsCaseOf r WithScheme = is_some r.scheme ≡ true
IsCaseOf r WithAuthority = (is_some r.scheme ≡ false) × (is_some r.authority ≡ true)
IsCaseOf r EmptyPath = HasPathFirst r × (is_empty r.path ≡ true)
IsCaseOf r AbsolutePath =
    HasPathFirst r × (is_empty r.path ≡ false) × (starts slash r.path ≡ true)
IsCaseOf r MergedPath =
    HasPathFirst r × (is_empty r.path ≡ false) × (starts slash r.path ≡ false)

-- the target of a base and a reference with an authority, before dot segments are removed
abbrev pub with_authority : Components → Components → Components
with_authority base r = record r { scheme = base.scheme }

-- the components of the base, with this path, query and fragment: the target of a reference that
-- has neither a scheme nor an authority, before dot segments are removed
abbrev pub with_base_authority : Components → List ℕ → Option (List ℕ) → Option (List ℕ)
    → Components
with_base_authority base path query fragment =
    record base { path = path; query = query; fragment = fragment }

-- the target of a base and a reference in this case, before dot segments are removed: a line of the
-- pseudocode
abbrev pub target_in_case : TargetCase → Components → Components → Components
target_in_case WithScheme base r = r
target_in_case WithAuthority base r = with_authority base r
target_in_case EmptyPath base r =
    with_base_authority base base.path (query_or base.query r.query) r.fragment
target_in_case AbsolutePath base r = with_base_authority base r.path r.query r.fragment
target_in_case MergedPath base r =
    with_base_authority base (merged base.path r.path) r.query r.fragment

-- the path of these pieces: the second, merged with the base's path, if that is the Option
abbrev pub path_of_pieces : Option (Bor (List ℕ)) → List ℕ → List ℕ
path_of_pieces base_path path = unwrap_or (option_map (λ base. merged base.now path) base_path) path

-- the path of a target before its dot segments are removed: that of the base or of the reference,
-- or both merged
abbrev pub dotted_path : DottedTarget → List ℕ
dotted_path d = path_of_pieces d.base_path d.path.now

-- these pieces of a base and a reference are those of a target before its dot segments are removed
pub record IsDottedTarget (t : Components) (d : DottedTarget) : Type 0 where
  pub before : d.scheme.now ++ d.before_path.now ≡ before_path t
  pub path : dotted_path d ≡ t.path
  pub rooted : IfSome d.base_path (λ base. IsAbemptyPath base.now)
  pub query : d.query.now ≡ marked (codes "?") t.query []
  pub fragment : d.fragment.now ≡ marked (codes "#") t.fragment []
  pub scheme_end : d.scheme_end ≡ option_map length t.scheme
  pub authority : d.authority ≡ (positions_of t).authority
