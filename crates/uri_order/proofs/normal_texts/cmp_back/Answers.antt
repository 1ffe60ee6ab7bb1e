-- The first text is what the block ends in.
use Rattle.std.proofs.Common.{sym, ap, ◌∙◌, arith}
use Rattle.std.specs.Cmp.Lexicographic.{nat_list_cmp_total, slice_cmp}
use Rattle.std.specs.Ordering.{nat_cmp, ordering_reverse}
use Rattle.uri_parts.specs.CoreTexts.{core_text}
use Rattle.uri_ops.proofs.Offered.{rest_of_block_is_text}
use Rattle.uri_order.specs.NormalForms.{normal_form}
use Rattle.uri_order.proofs.normal_texts.cmp_back.Goals as goal

pub returns : goal.returns
returns g c =
    let form = normal_form g.K.Kind.kind (g.S.SchemeRules.rules_of c.args.rules.now) in
    c.reverse.ensures
    ∙ ap ordering_reverse (c.cmp_text.ensures
    ∙ ap (slice_cmp nat_cmp (form (core_text c.args.other)))
    (rest_of_block_is_text c.put_normal_text-start.result _ c.put_normal_text-start.new.block
    (omega arith) (c.put_normal_text-start.ensures.text (omega arith))))
    ∙ sym (nat_list_cmp_total.antisymm (form (core_text c.args.one)) (form (core_text c.args.other)))
