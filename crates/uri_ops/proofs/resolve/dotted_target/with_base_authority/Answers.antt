use Rattle.uri_ops.proofs.Common.{arith}
use Rattle.uri_ops.proofs.resolve.dotted_target.with_base_authority.Goals as goal

pub returns : goal.returns
returns c = grind arith
