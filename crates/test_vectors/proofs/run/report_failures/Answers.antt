use Rattle.std.proofs.Common.{rules}
use Rattle.test_vectors.proofs.run.report_failures.Goals as goal

pub loop-row-preserved : goal.loop-row-preserved
loop-row-preserved c = search rules
