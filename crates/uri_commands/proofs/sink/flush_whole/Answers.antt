use Rattle.uri_commands.proofs.Common.{arith, Keeps-trans}
use Rattle.uri_commands.proofs.Calls.{any-error-after-interrupted-flush}
use Rattle.uri_commands.proofs.sink.flush_whole.Goals as goal

pub returns-in_default-clause-keeps : goal.returns-in_default-clause-keeps
returns-in_default-clause-keeps g c =
    Keeps-trans _ _ _ c.loop-tries.invariant.0 c.flush_once.ensures.bytes

pub returns-clause-cause : goal.returns-clause-cause
returns-clause-cause g c = any-error-after-interrupted-flush _ _
    (c.loop-tries.invariant.1 (omega (arith, c.loop-tries-test.false)))
