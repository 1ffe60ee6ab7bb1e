use Rattle.uri_order.proofs.Equivalences.{equal_if_order_is_equal}
use Rattle.uri_order.proofs.normal_texts.have_equal_texts.Goals as goal

pub returns-in-None-None : goal.returns-in-None-None
returns-in-None-None g c =
    equal_if_order_is_equal _ _ c.cmp_back.result c.is_eq.result c.cmp_back.ensures c.is_eq.ensures
