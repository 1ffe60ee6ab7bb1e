use Rattle.uri_basic.proofs.LiteralDots.{target-with-literal-dot-has-base-path}
use Rattle.uri_basic.proofs.laws.targets_with_dot_segments_have_the_path_of_their_base.Goals as goal

pub returns-clause-takes : goal.returns-clause-takes
returns-clause-takes c = λ base target reference some leads literal.
    (target-with-literal-dot-has-base-path base target reference some leads literal).0

pub returns-clause-path : goal.returns-clause-path
returns-clause-path c = λ base target reference some leads literal.
    (target-with-literal-dot-has-base-path base target reference some leads literal).1
