use Rattle.uri_basic.proofs.Relativized.{reference-to-settled-target-leads, reference-to-target-without-dots-leads}
use Rattle.uri_basic.proofs.laws.relativized_references_lead_to_targets.Goals as goal

pub returns-clause-target : goal.returns-clause-target
returns-clause-target c = reference-to-target-without-dots-leads

pub returns-clause-settled : goal.returns-clause-settled
returns-clause-settled c = reference-to-settled-target-leads
