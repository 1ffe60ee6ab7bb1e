-- The pairs of a query, one a line.
use Rattle.std.specs.Prelude.{ℕ, List, [], ◌∷◌, ◌++◌, codes}
use Rattle.uri_query.specs.Pairs.{NameAndValue}

-- a text with a line `name is value` for each pair at its end
abbrev pub lines_from : List ℕ → List NameAndValue → List ℕ
lines_from text [] = text
lines_from text (pair ∷ pairs) =
    lines_from ((((text ++ pair.0) ++ codes " is ") ++ pair.1) ++ codes "\n") pairs

-- the lines that are printed for pairs of a query, each `name is value`
abbrev pub lines_text : List NameAndValue → List ℕ
lines_text pairs = lines_from [] pairs
