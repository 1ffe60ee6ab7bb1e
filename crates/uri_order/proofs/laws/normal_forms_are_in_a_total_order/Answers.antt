use Rattle.uri_order.specs.NormalForms.{normal_form}
use Rattle.uri_order.proofs.TotalOrders.{equal-in-order-if-equivalent, forms-are-in-total-order}
use Rattle.uri_order.proofs.laws.normal_forms_are_in_a_total_order.Goals as goal

pub returns-clause-order : goal.returns-clause-order
returns-clause-order c kind rules = forms-are-in-total-order (normal_form kind rules)

pub returns-clause-equal : goal.returns-clause-equal
returns-clause-equal c kind rules one other sets v w = equal-in-order-if-equivalent kind rules one other sets v w
