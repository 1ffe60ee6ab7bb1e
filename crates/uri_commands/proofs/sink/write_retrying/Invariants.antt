use Rattle.uri_commands.proofs.Common.{◌<◌, IfSome, Keeps, IsInterruptedWrite}
use Rattle.uri_commands.proofs.sink.write_retrying.Given as goal

-- an interrupted write takes nothing
abbrev pub invariant-loop-tries : goal.invariant-loop-tries
invariant-loop-tries g l = Keeps (g.W.Write.contents l.initial.writer) (g.W.Write.contents l.writer)
    × (0 < l.tries → IfSome (g.W.Traced.last_call l.writer) IsInterruptedWrite)
