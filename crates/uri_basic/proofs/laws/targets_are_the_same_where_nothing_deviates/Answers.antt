use Rattle.uri_parts.specs.Components.{components}
use Rattle.uri_basic.proofs.SameTargets.{same-resolutions}
use Rattle.uri_basic.proofs.laws.targets_are_the_same_where_nothing_deviates.Goals as goal

pub returns-clause-resolver : goal.returns-clause-resolver
returns-clause-resolver c =
    λ base reference h. (same-resolutions (components base) (components reference) h).0

pub returns-clause-basic : goal.returns-clause-basic
returns-clause-basic c =
    λ base reference h. (same-resolutions (components base) (components reference) h).1
