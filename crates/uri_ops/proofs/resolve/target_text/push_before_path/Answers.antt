use Rattle.uri_ops.proofs.Common.{common_steps, arith}
use Rattle.uri_ops.proofs.resolve.target_text.push_before_path.Goals as goal

pub returns : goal.returns
returns c = grind (arith, common_steps)
