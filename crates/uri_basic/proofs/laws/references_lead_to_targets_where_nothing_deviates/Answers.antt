use Rattle.uri_basic.proofs.SameTargets.{leading-reference-resolves}
use Rattle.uri_basic.proofs.laws.references_lead_to_targets_where_nothing_deviates.Goals as goal

pub returns : goal.returns
returns c = leading-reference-resolves
