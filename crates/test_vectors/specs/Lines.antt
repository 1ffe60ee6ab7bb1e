-- What a run prints.
use Rattle.std.specs.Prelude.{ℕ, List, ◌++◌, codes, decimal}

-- the last line of a run of rows: how many rows there are, and how many of them differ
abbrev pub summary : ℕ → ℕ → List ℕ
summary rows failed =
    codes "rows " ++ decimal rows ++ codes " failed " ++ decimal failed ++ codes "\n"
