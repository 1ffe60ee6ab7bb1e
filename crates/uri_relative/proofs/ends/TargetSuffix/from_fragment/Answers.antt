use Rattle.uri_ops.specs.Resolving.{components_of}
use Rattle.uri_relative.proofs.ends.TargetSuffix.from_fragment.Goals as goal

pub returns-clause-at : goal.returns-clause-at
returns-clause-at c = c.positions_of_fragment.ensures (components_of c.args.target.now)
