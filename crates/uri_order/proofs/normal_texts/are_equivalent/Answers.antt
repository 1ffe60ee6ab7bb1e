use Rattle.std.proofs.Common.{arith}
use Rattle.uri_ops.proofs.Offered.{one-of-four-kinds-has-sets}
use Rattle.uri_order.proofs.Equivalences.{equivalent_if_forms_are_equal}
use Rattle.uri_order.proofs.normal_texts.are_equivalent.Goals as goal

pub returns-clause-meaning : goal.returns-clause-meaning
returns-clause-meaning g c =
    equivalent_if_forms_are_equal g.K.Kind.kind _
    (one-of-four-kinds-has-sets g.K.Kind.kind g.met.K.Kind.known) _ _
    c.have_same_text.ensures.one c.have_same_text.ensures.other c.have_equal_texts.ensures

pub returns-then-have_same_text-clause-text : goal.returns-then-have_same_text-clause-text
returns-then-have_same_text-clause-text g c = grind arith

pub returns-then-have_same_text-clause-meaning : goal.returns-then-have_same_text-clause-meaning
returns-then-have_same_text-clause-meaning g c = grind arith
