-- `NotedLinks` as contracts see it.
use Rattle.std.specs.Prelude.{ℕ, List, All}
use Rattle.uri_links.specs.OutcomesInWords.{IdIsInRange}
use Rattle.uri_links.specs.Registers.{texts_of}
use Rattle.uri_commands.specs.Links.{outcome_lines}
use Rattle.uri_commands.specs.declared.links.NotedLinks.{NotedLinks}

-- the id of each outcome of the noted links of `uritool links` is that of a target in their
-- register
abbrev pub EachIdHasTarget : NotedLinks → Type 0
EachIdHasTarget noted = All (IdIsInRange (texts_of noted.register)) noted.outcomes.items

-- the lines that `uritool links` prints for the outcomes of noted links
abbrev pub lines_in : NotedLinks → List ℕ
lines_in noted = outcome_lines (texts_of noted.register) noted.outcomes.items
