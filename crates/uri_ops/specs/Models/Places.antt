-- Positions in a text: no RFC has this.
use Rattle.std.specs.Prelude.{◌≡◌, ℕ, ◌<◌, ◌≤◌, ◌⊎◌, List, [], ◌++◌, codes, length, slice_index}
use Rattle.uri_pct.specs.Prelude.{slash}
use Rattle.uri_parts.specs.Prelude.{Components, marked}

-- what a base or a reference has before its path: scheme and authority, with their delimiters
abbrev pub before_path : Components → List ℕ
before_path p = marked [] p.scheme (codes ":") ++ marked (codes "//") p.authority []

-- the second number is a position in the bytes of a path where a `/` is, not before the first
-- number, or the two are equal
abbrev pub IsSlashOrStart : List ℕ → ℕ → ℕ → Type 0
IsSlashOrStart bytes start place =
    (start ≤ place)
    × ((place ≡ start) ⊎ ((place < length bytes) × (slice_index bytes place ≡ slash)))
