-- Two texts of the kind are in the order of their normal forms.
use Rattle.fluent_uri_c.proofs.Common.{arith}
use Rattle.fluent_uri_c.proofs.Orders.{form-by-set, order-of-same-texts, order-of-two-texts}
use Rattle.fluent_uri_c.proofs.order.order.Goals as goal

pub returns-in-Ok-parsed : goal.returns-in-Ok-parsed
returns-in-Ok-parsed g c = grind (arith, form-by-set, order-of-same-texts, order-of-two-texts)
