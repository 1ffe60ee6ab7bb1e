use Rattle.std.proofs.Common.{sym, ap, ◌∙◌}
use Rattle.std.specs.Cmp.Lexicographic.{nat_list_cmp_total, slice_cmp}
use Rattle.std.specs.Ordering.{nat_cmp, ordering_reverse}
use Rattle.uri_parts.specs.CoreTexts.{core_text}
use Rattle.uri_order.specs.NormalForms.{normal_form}
use Rattle.uri_order.proofs.normal_texts.cmp_texts.Goals as goal

pub returns-in-Some-None : goal.returns-in-Some-None
returns-in-Some-None g c =
    let form = normal_form g.K.Kind.kind (g.S.SchemeRules.rules_of c.args.rules.now) in
    let text = c.as_bytes.ensures.value ∙ c.in-Some-None.ensures in
    c.reverse.ensures ∙ ap ordering_reverse (c.cmp_text.ensures
    ∙ ap (slice_cmp nat_cmp (form (core_text c.args.other))) text)
    ∙ sym (nat_list_cmp_total.antisymm (form (core_text c.args.one)) (form (core_text c.args.other)))
