use Rattle.uri_ops.proofs.Theorems.{target-is-of-kind-of-base}
use Rattle.uri_ops.proofs.laws.resolve_normalize.targets_are_of_the_kind_of_their_base.Goals as goal

pub returns : goal.returns
returns c = λ kind base reference
    target sets needs v w e. target-is-of-kind-of-base kind sets base reference target needs v w e
