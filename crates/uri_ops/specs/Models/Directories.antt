-- Directories, after which the segments of a path are taken one after the other: RFC 3986, section
-- 5.2.4.
use Rattle.std.specs.Prelude.{◌≡◌, ◌⊎◌, ◌||◌, Bool, true, List, [], ◌++◌, ℕ, codes}
use Rattle.uri_ops.specs.Dots.{IsAbsolute, EndsInSlash, before_last_slash, lacks_dot_segments, remove_dot_segments, underflows}

-- the path is a directory without dot segments: it begins with and ends in `/` (section 5.2.3)
pub record IsDotlessDirectory (path : List ℕ) : Type 0 where
  pub absolute : IsAbsolute path
  pub closed : EndsInSlash path
  pub dotless : lacks_dot_segments path ≡ true

-- the parent of a directory, which a `..` leads to: `/a/` of `/a/b/`, and `/` of `/` (section
-- 5.2.4)
abbrev pub parent_directory : List ℕ → List ℕ
parent_directory path = before_last_slash (before_last_slash path) ++ codes "/"

-- a path is cut after a prefix where a segment begins, or where the rest is empty
abbrev pub IsCutAtSegment : List ℕ → List ℕ → Type 0
IsCutAtSegment prefix rest = (rest ≡ []) ⊎ EndsInSlash prefix

-- A state of removing the dot segments of a path: the directory `kept`, the rest of the path, and
-- whether it underflowed.
-- Removing the rest's dot segments after `kept` gives what it gives for the path.
pub record RemovalState (path kept rest : List ℕ) (underflowed : Bool) : Type 0 where
  pub removed : remove_dot_segments (kept ++ rest) ≡ remove_dot_segments path
  pub underflow : (underflowed || underflows (kept ++ rest)) ≡ underflows path
  pub absolute : IsAbsolute kept
  pub dotless : lacks_dot_segments kept ≡ true
  pub closed : IsCutAtSegment kept rest

-- the text begins with this prefix
abbrev pub BeginsWith : List ℕ → List ℕ → Type 0
BeginsWith text prefix = (rest : List ℕ) × (text ≡ prefix ++ rest)

-- the text ends in this suffix
abbrev pub EndsIn : List ℕ → List ℕ → Type 0
EndsIn text suffix = (before : List ℕ) × (text ≡ before ++ suffix)
