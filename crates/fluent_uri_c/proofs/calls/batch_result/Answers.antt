use Rattle.fluent_uri_c.proofs.Common.{arith}
use Rattle.fluent_uri_c.proofs.OtherErrors.{takes-memory-if-denied}
use Rattle.fluent_uri_c.proofs.calls.batch_result.Goals as goal

pub returns-in-OutOfMemory-clause-memory : goal.returns-in-OutOfMemory-clause-memory
returns-in-OutOfMemory-clause-memory c = grind (arith, takes-memory-if-denied)
