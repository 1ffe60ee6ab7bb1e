use Rattle.std.proofs.Common.{ap, sym, ◌∙◌}
use Rattle.fluent_uri.specs.Prelude.{default_rules, iri, meaning_under, normal_text}
use Rattle.obligations.proofs.laws.converting.same_normal_form.Goals as goal

pub returns-clause-equal : goal.returns-clause-equal
returns-clause-equal c =
    let same = ap (λ text. normal_text (meaning_under iri default_rules text))
    c.from-converted.ensures in
    let under = ap normal_text (c.in_ok-to_uri.ensures.under default_rules) in
    c.in_ok-normalize-2.ensures.text.text
    ∙ sym (c.in_ok-normalize.ensures.text.text ∙ (same ∙ under))
