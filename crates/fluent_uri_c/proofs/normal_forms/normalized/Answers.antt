use Rattle.fluent_uri_c.proofs.Common.{◌∙◌, reference_text}
use Rattle.fluent_uri_c.proofs.Orders.{form-by-set}
use Rattle.fluent_uri_c.proofs.normal_forms.normalized.Goals as goal

pub returns-in-Ok : goal.returns-in-Ok
returns-in-Ok g c = c.in-Ok.ensures.normal.text.text ∙ form-by-set _ c.args.rules
    c.scheme_rules_with.ensures.rules g.K.Kind.kind (reference_text c.args.value.now)
