-- What the code holds while it removes dot segments: a directory and the rest of a path.
use Rattle.std.specs.Prelude.{◌≡◌, ◌⊎◌, ℕ, List, [], ◌++◌, bytes_eq, codes, if◌then◌else◌}
use Rattle.uri_ops.specs.Prelude.{EndsInSlash, before_last_slash, is_empty}
use Rattle.uri_basic.specs.Removal.{Buffers, output_of}

-- a directory, which ends in `/`, or nothing: no segment was kept yet
abbrev pub IsDirectoryOrNothing : List ℕ → Type 0
IsDirectoryOrNothing kept = (kept ≡ []) ⊎ EndsInSlash kept

-- the buffers of section 5.2.4 where the code holds a directory, or nothing, and the rest of the
-- path: the last `/` of the directory is still in the input buffer
unfoldable pub buffers_at : List ℕ → List ℕ → Buffers
buffers_at kept rest =
    if is_empty kept then record { input = rest; output = [] }
    else record { input = codes "/" ++ rest; output = before_last_slash kept }

-- the path that is left of a directory, or nothing, and the rest of a path (section 5.2.4)
unfoldable pub path_left : List ℕ → List ℕ → List ℕ
path_left kept rest = output_of (buffers_at kept rest)

-- what a double dot leaves of a directory: its parent, which for the first segment is `/`
unfoldable pub parent : List ℕ → List ℕ
parent kept =
    if is_empty kept then [] else before_last_slash (before_last_slash kept) ++ codes "/"

-- what is kept after a segment of a path; `piece` is the segment with the `/` after it, if any
unfoldable pub after_segment : List ℕ → List ℕ → List ℕ → List ℕ
after_segment kept segment piece =
    if bytes_eq segment (codes ".") then kept
    else (if bytes_eq segment (codes "..") then parent kept else kept ++ piece)
