use Rattle.uri_ops.proofs.Common.{arith}
use Rattle.uri_ops.proofs.resolve.dotted_target.with_scheme.Goals as goal

pub returns : goal.returns
returns c = grind arith
