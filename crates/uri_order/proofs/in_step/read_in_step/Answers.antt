use Rattle.std.proofs.Common.{arith}
use Rattle.std.proofs.lemmas.Grind.{common_steps}
use Rattle.uri_order.proofs.InStep.{order_of_appended, then_assoc, then_equal}
use Rattle.uri_order.proofs.in_step.read_in_step.Goals as goal

pub loop-other-init : goal.loop-other-init
loop-other-init g c = grind (arith, then_equal)

pub loop-other-preserved : goal.loop-other-preserved
loop-other-preserved g c = grind (arith, common_steps, order_of_appended, then_assoc)
