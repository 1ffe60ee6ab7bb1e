-- Dot segments: RFC 3986, section 5.2.4, for a path that begins with `/`. A dot counts
-- percent-encoded too.
use Rattle.std.specs.Prelude.{◌≡◌, ℕ, zero, suc, ◌+◌, Bool, true, false, not, ◌||◌, ◌==◌, List, [], ◌∷◌, ◌++◌, length, drop, codes, bytes_eq, IsTrue, if◌then◌else◌}
use Rattle.std.specs.List.{list_all, list_any, slice_split}
use Rattle.uri_parts.specs.Prelude.{before_any, from_any, starts}
use Rattle.uri_pct.specs.Prelude.{slash}

-- The forms of a dot in a dot segment: `.`, `%2E` and `%2e`.
-- Not in the RFC: section 5.2.4 names `.` alone. `%2E` is equivalent to it (section 6.2.2.2).
abbrev pub dots : List (List ℕ)
dots = codes "." ∷ codes "%2E" ∷ codes "%2e" ∷ []

-- whether a segment is the dot segment of one dot, perhaps percent-encoded (section 3.3)
abbrev pub is_single_dot : List ℕ → Bool
is_single_dot segment = list_any (bytes_eq segment) dots

-- whether a segment is the dot segment of two dots, each perhaps percent-encoded (section 3.3)
abbrev pub is_double_dot : List ℕ → Bool
is_double_dot segment =
    list_any (λ first. list_any (λ second. bytes_eq segment (first ++ second)) dots) dots

-- whether a segment of a path is a dot segment, of one dot or two (section 3.3)
abbrev pub is_dot_segment : List ℕ → Bool
is_dot_segment segment = is_single_dot segment || is_double_dot segment

-- the segments of a path: the texts between its slashes (section 3.3)
abbrev pub segments : List ℕ → List (List ℕ)
segments path = slice_split (λ c. c == slash) path

-- whether no segment of the path is a dot segment: the path is dotless
abbrev pub lacks_dot_segments : List ℕ → Bool
lacks_dot_segments path = list_all (λ segment. not (is_dot_segment segment)) (segments path)

-- whether a path, or another text, has no bytes
abbrev pub is_empty : List ℕ → Bool
is_empty [] = true
is_empty (c ∷ rest) = false

-- whether a `/` is in the text of a path
abbrev pub has_slash : List ℕ → Bool
has_slash text = list_any (λ c. c == slash) text

-- the text of a path before its last `/`, or nothing where it has none
abbrev pub before_last_slash : List ℕ → List ℕ
before_last_slash [] = []
before_last_slash (c ∷ rest) = if has_slash rest then c ∷ before_last_slash rest else []

-- the text of a path up to and with its last `/`, or nothing where it has none
abbrev pub up_to_last_slash : List ℕ → List ℕ
up_to_last_slash text = if has_slash text then before_last_slash text ++ codes "/" else []

-- the last segment of a path: the text after its last `/`, or all of it if it has none
abbrev pub last_segment : List ℕ → List ℕ
last_segment [] = []
last_segment (c ∷ rest) =
    if has_slash rest then last_segment rest else (if c == slash then rest else c ∷ rest)

-- the buffers of removing dot segments: input and output, and whether a double dot met an empty
-- output (section 5.2.4, step 1)
pub record Buffers : Type 0 where
  pub input : List ℕ
  pub output : List ℕ
  pub underflowed : Bool

-- the path, or `/` if it is empty: a whole input `/.` or `/..` leaves `/` (section 5.2.4)
abbrev pub or_slash : List ℕ → List ℕ
or_slash [] = codes "/"
or_slash (c ∷ rest) = c ∷ rest

-- One step of removing dot segments, where the input begins with `/` (section 5.2.4, step 2).
-- B drops a single dot, C drops a double dot and the output's last segment with the `/` before it,
-- and E moves the first segment to the output.
abbrev pub step : Buffers → Buffers
step b =
    let segment = before_any (codes "/") (drop 1 b.input) in
    let rest = from_any (codes "/") (drop 1 b.input) in
    if is_single_dot segment
    then record { input = or_slash rest; output = b.output; underflowed = b.underflowed }
    else (if is_double_dot segment
    then record {
      input = or_slash rest;
      output = before_last_slash b.output;
      underflowed = b.underflowed || is_empty b.output;
    }
    else record { input = rest; output = b.output ++ slash ∷ segment; underflowed = b.underflowed })

-- the loop of removing dot segments, run until the input is empty or this many times (section
-- 5.2.4, step 2)
unfoldable pub run : ℕ → Buffers → Buffers
run zero b = b
run (suc n) b = if is_empty b.input then b else run n (step b)

-- the buffers after the loop that removes a path's dot segments (section 5.2.4, step 2): no path
-- needs more runs of it
abbrev pub buffers_after_removal : List ℕ → Buffers
buffers_after_removal path = run (length path + 1)
    (record { input = path; output = []; underflowed = false })

-- the path without its dot segments (section 5.2.4)
unfoldable pub remove_dot_segments : List ℕ → List ℕ
remove_dot_segments path = (buffers_after_removal path).output

-- whether removing the path's dot segments underflows: a double dot has no segment before it left
-- to remove
unfoldable pub underflows : List ℕ → Bool
underflows path = (buffers_after_removal path).underflowed

-- What of the base's path is before a merged path: the path up to its last `/` (section 5.2.3).
-- Not in the RFC: a base path that ends in a double dot is kept whole, so that its dots may be
-- removed first or last.
unfoldable pub directory : List ℕ → List ℕ
directory path =
    if is_empty path then codes "/"
    else (if is_double_dot (last_segment path) then path ++ codes "/"
    else up_to_last_slash path)

-- the path begins with `/`, as one whose dot segments are removed
abbrev pub IsAbsolute : List ℕ → Type 0
IsAbsolute path = IsTrue (starts slash path)

-- the path ends in `/`, as a directory does
abbrev pub EndsInSlash : List ℕ → Type 0
EndsInSlash path = (prefix : List ℕ) × (path ≡ prefix ++ codes "/")
