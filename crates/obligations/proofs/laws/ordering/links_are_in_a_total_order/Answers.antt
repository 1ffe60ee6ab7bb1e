use Rattle.fluent_uri.specs.Prelude.{standard_rules, uri}
use Rattle.obligations.proofs.laws.ordering.links_are_in_a_total_order.Goals as goal

pub returns : goal.returns
returns c = c.normal_forms_are_in_a_total_order.ensures.order uri standard_rules
