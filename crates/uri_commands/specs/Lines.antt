-- The output of `parse`.
use Rattle.std.specs.Prelude.{ℕ, List, [], ◌++◌, codes, Option, Some, None}
use Rattle.fluent_uri.specs.Prelude.{Components}

-- the line that `uritool parse` prints for a component: its name, `=`, its text and a newline
abbrev pub line : List ℕ → List ℕ → List ℕ
line name text = name ++ codes "=" ++ text ++ codes "\n"

-- the line that `uritool parse` prints for a component of this name if it is present, and otherwise
-- nothing
abbrev pub optional_line : List ℕ → Option (List ℕ) → List ℕ
optional_line name None = []
optional_line name (Some text) = line name text

-- the lines that `uritool parse` prints: a line for each component that is present, in the order of
-- a text
abbrev pub component_lines : Components → List ℕ
component_lines p =
    optional_line (codes "scheme") p.scheme ++ optional_line (codes "authority") p.authority
    ++ line (codes "path") p.path
    ++ optional_line (codes "query") p.query ++ optional_line (codes "fragment") p.fragment
