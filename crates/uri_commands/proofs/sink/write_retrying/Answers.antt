use Rattle.std.proofs.Common.{Some, arith}
use Rattle.uri_commands.proofs.Calls.{any-error-after-interrupted-write}
use Rattle.uri_commands.proofs.sink.write_retrying.Goals as goal

pub returns-clause-cause : goal.returns-clause-cause
returns-clause-cause g c = any-error-after-interrupted-write (Some c.from.result) _
    (c.loop-tries.invariant.1 (omega (arith, c.loop-tries-test.false)))
