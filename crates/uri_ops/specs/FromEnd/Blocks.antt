-- Blocks that a text is read into from its end.
use Rattle.std.specs.Prelude.{◌≡◌, ◌≤◌, ◌<◌, ◌++◌, ℕ, List, [], drop, length}

-- the last bytes of a text, no more than `size`, are the block, and this is left before them:
-- nothing if the block has fewer bytes
pub record IsLastBlock (size : ℕ) (text left block : List ℕ) : Type 0 where
  pub whole : text ≡ left ++ block
  pub within : length block ≤ size
  pub last : length block < size → left ≡ []

-- a text is put into a block before `end`, and begins at `start`, unless that is 0
abbrev pub IsPut : List ℕ → ℕ → List ℕ → ℕ → List ℕ → Type 0
IsPut text end before start after = 0 < start → drop start after ≡ text ++ drop end before
