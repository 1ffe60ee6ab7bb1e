-- What a path begins with: a dot segment, or segments that are none (RFC 3986, section 5.2.4).
use Rattle.std.specs.Prelude.{◌≡◌, ◌<◌, ◌≤◌, ◌+◌, ◌-◌, ◌&&◌, ◌||◌, ◌==◌, ℕ, Bool, true, false, List, [], ◌∷◌, length, take, drop, slice_index, if◌then◌else◌}
use Rattle.std.specs.Str.{IsCharBoundary}
use Rattle.uri_pct.specs.Prelude.{full_stop, percent_sign, slash}
use Rattle.uri_parts.specs.Prelude.{IsAbemptyPath}
use Rattle.uri_ops.specs.declared.path.leading_segment.LeadingDots.{LeadingDots}
use Rattle.uri_ops.specs.declared.path.leading_segment.LeadingDots.TheVariants.{SingleDot, DoubleDot, NoDots}
use Rattle.uri_ops.specs.Dots.{has_slash, is_dot_segment, is_double_dot, is_single_dot, lacks_dot_segments}
use Rattle.uri_ops.specs.Models.Directories.{IsCutAtSegment}

-- whether a path begins with `.` or `%`, as a dot segment does
abbrev pub begins_with_dot : List ℕ → Bool
begins_with_dot [] = false
begins_with_dot (c ∷ rest) = c == full_stop || c == percent_sign

-- the length of the dot that a path's leading segment begins with: 1 of `.`, 3 of `%2E`, or 0 if
-- there is none
abbrev pub dot_len : List ℕ → ℕ
dot_len text =
    if slice_index text 0 == full_stop then 1
    else (if slice_index text 0 == percent_sign && (slice_index text 1 == 50
    && (slice_index text 2 == 69 || slice_index text 2 == 101)) then 3 else 0)

-- whether the leading segment of a path ends before this text: it is empty or begins with `/`
abbrev pub ends_segment : List ℕ → Bool
ends_segment [] = true
ends_segment (c ∷ rest) = c == slash

-- the leading segment of the path is no dot segment (section 3.3)
abbrev pub BeginsWithoutDotSegment : List ℕ → Type 0
BeginsWithoutDotSegment path =
    (end : ℕ) → has_slash (take end path) ≡ false → IsAbemptyPath (drop end path)
    → is_dot_segment (take end path) ≡ false

-- whether a `/` is at index k of the bytes of a path, and a dot or the `%` of an octet after it
abbrev pub has_slash_dot_at : List ℕ → ℕ → Bool
has_slash_dot_at bytes k =
    slice_index bytes k == slash
    && (slice_index bytes (k + 1) == full_stop || slice_index bytes (k + 1) == percent_sign)

-- the first n bytes of a path end in the first `/` that has a dot or a `%` after it, as a dot
-- segment would, or are all bytes
pub record IsPrefixToSlashDot (bytes : List ℕ) (n : ℕ) : Type 0 where
  pub some : 0 < n
  pub within : n ≤ length bytes
  pub none : (k : ℕ) → k + 1 < n → has_slash_dot_at bytes k ≡ false
  pub ends : n < length bytes → slice_index bytes (n - 1) ≡ slash

-- the leading segment of the path passes the test, as of being `..`, and has n bytes with the `/`
-- after it
pub record IsFirstSegment (test : List ℕ → Bool) (path : List ℕ) (n : ℕ) : Type 0 where
  pub end : ℕ
  pub segment : has_slash (take end path) ≡ false
  pub suffix : IsAbemptyPath (drop end path)
  pub passes : test (take end path) ≡ true
  pub rest : drop n path ≡ drop 1 (drop end path)

-- the first n bytes of the path have no dot segment, and another segment begins after them
pub record IsDotlessPrefix (path : List ℕ) (n : ℕ) : Type 0 where
  pub dotless : lacks_dot_segments (take n path) ≡ true
  pub closed : IsCutAtSegment (take n path) (drop n path)

-- the value says which dot segment the path begins with, and how long it is, if there is one
abbrev pub DescribesLeadingDots : List ℕ → LeadingDots → Type 0
DescribesLeadingDots path (SingleDot n) = IsFirstSegment is_single_dot path n
DescribesLeadingDots path (DoubleDot n) = IsFirstSegment is_double_dot path n
DescribesLeadingDots path NoDots = BeginsWithoutDotSegment path

-- the dot segment that the value says the path begins with is not empty, and ends at a character
-- boundary
abbrev pub HasLengthAtCharBoundary : List ℕ → LeadingDots → Type 0
HasLengthAtCharBoundary path (SingleDot n) = (0 < n) × IsCharBoundary path n
HasLengthAtCharBoundary path (DoubleDot n) = (0 < n) × IsCharBoundary path n
HasLengthAtCharBoundary path NoDots = Unit {0}
