-- What the hash of a normal form is of.
use Rattle.std.specs.Prelude.{ℕ, zero, suc, ◌-◌, ◌/◌, List, ◌∷◌, length, take, drop}
use Rattle.std.specs.Hash as fed

-- what a hasher is given for a text: this many times its last 1,024 bytes, and then what is left, as
-- a `str`
unfoldable pub hashed_blocks : ℕ → List ℕ → fed.HashWrites
hashed_blocks zero text = fed.str text
hashed_blocks (suc blocks) text =
    drop (length text - 1024) text ∷ hashed_blocks blocks (take (length text - 1024) text)

-- what a hasher is given for a text: its blocks of 1,024 bytes from the end, and then what is left.
-- A text of fewer bytes is hashed as `str` is.
abbrev pub hashed_text : List ℕ → fed.HashWrites
hashed_text text = hashed_blocks (length text / 1024) text
