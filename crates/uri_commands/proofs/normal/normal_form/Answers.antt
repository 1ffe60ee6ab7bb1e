use Rattle.uri_commands.proofs.Common.{subst, rules_of_set}
use Rattle.fluent_uri.specs.Prelude.{HasNormalText, reference_text}
use Rattle.uri_commands.proofs.NormalForms.{normal_form_is}
use Rattle.uri_commands.proofs.normal.normal_form.Goals as goal

pub returns-in-Ok : goal.returns-in-Ok
returns-in-Ok g c =
    let text = reference_text c.args.value.now in
    let normal = reference_text c.in-Ok.normal in
    normal_form_is c.args.rules g.K.Kind.kind text normal
    (subst (λ set. HasNormalText g.K.Kind.kind (rules_of_set set) text normal)
    c.scheme_rules_with-normalizer.ensures.rules c.in-Ok.ensures.normal.text)
