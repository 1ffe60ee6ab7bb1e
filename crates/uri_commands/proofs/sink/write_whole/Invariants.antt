use Rattle.uri_commands.proofs.Common.{◌≡◌, ℕ, List, ◌++◌, length, Appends}
use Rattle.uri_commands.proofs.sink.write_whole.Given as goal

-- what was taken so far, and what is left
abbrev pub invariant-loop-rest : goal.invariant-loop-rest
invariant-loop-rest g l = (prefix : List ℕ)
    × Appends (g.W.Write.contents l.initial.writer) (g.W.Write.contents l.writer) prefix
    × (l.bytes ≡ prefix ++ l.rest)

abbrev pub decreases-loop-rest : goal.decreases-loop-rest
decreases-loop-rest g l = length l.rest
