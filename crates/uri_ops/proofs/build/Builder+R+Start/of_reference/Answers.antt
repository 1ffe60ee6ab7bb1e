use Rattle.uri_ops.proofs.Common.{arith, is_in_order}
use Rattle.uri_ops.proofs.build.Builder+R+Start.of_reference.Goals as goal

pub from_draft-requires-clause-place : goal.from_draft-requires-clause-place
unfolding is_in_order
from_draft-requires-clause-place g c = grind arith
