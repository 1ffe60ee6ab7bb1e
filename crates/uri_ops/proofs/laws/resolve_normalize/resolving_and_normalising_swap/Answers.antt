use Rattle.uri_ops.proofs.Theorems.{resolving-respects-meaning, normal-texts-resolve-to-same-meaning}
use Rattle.uri_ops.proofs.laws.resolve_normalize.resolving_and_normalising_swap.Goals as goal

pub returns-clause-alike : goal.returns-clause-alike
returns-clause-alike c = λ kind rules b d
    r s sets needs v w x y e f. resolving-respects-meaning kind rules sets b d r s needs v w x y e f

pub returns-clause-normal_texts : goal.returns-clause-normal_texts
returns-clause-normal_texts c = λ kind rules base reference
    sets needs v w. normal-texts-resolve-to-same-meaning kind rules sets base reference needs v w
