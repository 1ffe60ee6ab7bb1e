use Rattle.uri_ops.proofs.Common.{arith}
use Rattle.uri_ops.proofs.Paths.SlashBlocks.{highest-lane-of-mask}
use Rattle.uri_ops.proofs.path.dot_segments.last_lane.Goals as goal

pub returns : goal.returns
returns c = grind (arith, highest-lane-of-mask)
