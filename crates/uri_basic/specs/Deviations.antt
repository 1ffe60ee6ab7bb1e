-- Where `Resolver` resolves otherwise than the basic algorithm: RFC 3986, sections 5.1 to 5.2.4.
use Rattle.std.specs.Prelude.{◌≡◌, ℕ, Bool, true, false, not, ◌&&◌, ◌||◌, List, None, bytes_eq, codes, is_none}
use Rattle.std.specs.List.{list_any}
use Rattle.uri_pct.specs.Prelude.{slash}
use Rattle.uri_parts.specs.Prelude.{Components, starts}
use Rattle.uri_ops.specs.Prelude.{dotted_target, is_dot_segment, is_double_dot, is_empty, is_opaque_rejection, lacks_dot_segments, last_segment, segments}
use Rattle.uri_basic.specs.Target.{is_ambiguous, target}

-- whether a segment is `.` or `..`, not percent-encoded (section 3.3)
abbrev pub is_literal_dot_segment : List ℕ → Bool
is_literal_dot_segment segment = bytes_eq segment (codes ".") || bytes_eq segment (codes "..")

-- whether some segment of a path is `.` or `..`, not percent-encoded
abbrev pub has_literal_dot_segment : List ℕ → Bool
has_literal_dot_segment path = list_any is_literal_dot_segment (segments path)

-- whether a dot of some dot segment of a path is percent-encoded
abbrev pub has_encoded_dot_segment : List ℕ → Bool
has_encoded_dot_segment path =
    list_any (λ s. is_dot_segment s && not (is_literal_dot_segment s)) (segments path)

-- whether a reference has neither scheme nor authority nor path, so that its target has the base's
-- path (section 5.2.2)
abbrev pub takes_base_path : Components → Bool
takes_base_path r = is_none r.scheme && is_none r.authority && is_empty r.path

-- whether a reference's path is merged with the base's (section 5.2.2)
abbrev pub is_merged : Components → Bool
is_merged r =
    is_none r.scheme && is_none r.authority && not (is_empty r.path) && not (starts slash r.path)

-- no difference between `Resolver` and the basic algorithm concerns a base and a reference
pub record NothingDeviates (base r : Components) : Type 0 where
  -- the base has no fragment
  pub no_fragment : base.fragment ≡ None
  -- the base is not opaque, or the reference has a scheme, is empty or begins with `#`
  pub taken : is_opaque_rejection base r ≡ false
  -- the target has an authority, or its path does not begin with `//`
  pub unguarded : is_ambiguous (target base r) ≡ false
  -- no dot of a dot segment is percent-encoded, where dot segments of a path that begins with `/`
  -- are removed
  pub literal : takes_base_path r ≡ false → starts slash (dotted_target base r).path ≡ true
      → has_encoded_dot_segment (dotted_target base r).path ≡ false
  -- the base's path does not end in a double dot, where a path is merged with it
  pub last : is_merged r ≡ true → is_double_dot (last_segment base.path) ≡ false
  -- the base's path has no dot segment, where it is the target's and begins with `/`
  pub base_path : takes_base_path r ≡ true → starts slash base.path ≡ true
      → lacks_dot_segments base.path ≡ true
  -- a path that does not begin with `/` has no dot segment
  pub rootless : takes_base_path r ≡ false → starts slash (dotted_target base r).path ≡ false
      → has_literal_dot_segment (dotted_target base r).path ≡ false
