use Rattle.uri_order.proofs.normal_order.NormalOrder.is_normal.Goals as goal

pub returns : goal.returns
returns g c = rw (← c.core.ensures.text) c.is_normal.ensures
