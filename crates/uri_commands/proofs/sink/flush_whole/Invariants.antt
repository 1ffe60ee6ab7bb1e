use Rattle.uri_commands.proofs.Common.{◌<◌, IfSome, Keeps, IsInterruptedFlush}
use Rattle.uri_commands.proofs.sink.flush_whole.Given as goal

-- an interrupted flush loses nothing
abbrev pub invariant-loop-tries : goal.invariant-loop-tries
invariant-loop-tries g l = Keeps (g.W.Write.contents l.initial.writer) (g.W.Write.contents l.writer)
    × (0 < l.tries → IfSome (g.W.Traced.last_call l.writer) IsInterruptedFlush)
