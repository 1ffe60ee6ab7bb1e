use Rattle.uri_commands.proofs.Common.{◌≡◌, take, Appends, outcome_lines}
use Rattle.uri_links.specs.Registers.{texts_of}
use Rattle.uri_commands.proofs.links.NotedLinks.write_lines.Given as goal

-- the lines of the outcomes so far, and no failure
abbrev pub invariant-loop-outcome : goal.invariant-loop-outcome
invariant-loop-outcome g l =
    Appends (g.O.Write.contents l.initial.out.writer) (g.O.Write.contents l.out.writer)
    (outcome_lines (texts_of l.self.register) (take l.outcome-index l.self.outcomes.items))
    × (l.out.has_failed ≡ l.initial.out.has_failed)
