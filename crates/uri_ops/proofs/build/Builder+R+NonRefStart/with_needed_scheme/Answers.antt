use Rattle.uri_ops.proofs.Common.{ap, is_fresh}
use Rattle.uri_ops.proofs.build.Builder+R+NonRefStart.with_needed_scheme.Goals as goal

pub from_draft-requires-clause-place : goal.from_draft-requires-clause-place
unfolding is_fresh
from_draft-requires-clause-place g c = ap (is_fresh g.R.RiMaybeRef.kind.needs_scheme) c.new.ensures
