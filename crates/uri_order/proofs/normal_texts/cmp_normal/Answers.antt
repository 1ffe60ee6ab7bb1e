use Rattle.std.proofs.Common.{arith}
use Rattle.uri_ops.proofs.Offered.{one-of-four-kinds-has-sets}
use Rattle.uri_order.proofs.Equivalences.{equal_in_order_if_equal, equal_texts_are_equal_in_order, equivalent_if_forms_are_equal}
use Rattle.uri_order.proofs.normal_texts.cmp_normal.Goals as goal

pub returns-clause-equal : goal.returns-clause-equal
returns-clause-equal g c =
    equivalent_if_forms_are_equal g.K.Kind.kind _
    (one-of-four-kinds-has-sets g.K.Kind.kind g.met.K.Kind.known) _ _
    c.have_same_text.ensures.one c.have_same_text.ensures.other
    (equal_in_order_if_equal _ _ c.cmp_texts.result c.cmp_texts.ensures)

pub returns-then-have_same_text-clause-order : goal.returns-then-have_same_text-clause-order
returns-then-have_same_text-clause-order g c = grind (arith, equal_texts_are_equal_in_order)

pub returns-then-have_same_text-clause-equal : goal.returns-then-have_same_text-clause-equal
returns-then-have_same_text-clause-equal g c = grind arith
