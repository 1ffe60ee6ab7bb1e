use Rattle.uri_links.proofs.Common.{ap, subst, uri, uri_ref_text, uri_text, target_rules}
use Rattle.std.proofs.lemmas.Result.{IfOk-weaker}
use Rattle.fluent_uri.specs.NormalTargets.{IsNormalFormOfTarget}
use Rattle.uri_links.proofs.links.Register.normal_target.Goals as goal

pub returns-clause-target : goal.returns-clause-target
returns-clause-target g c =
    let rules = target_rules c.args.self.now in
    let reference = uri_ref_text c.args.reference.now in
    IfOk-weaker c.resolve_normalized.result _ _
    (λ made h. subst (λ b. IsNormalFormOfTarget uri rules b reference (uri_text made))
    (ap (λ r. uri_text r) c.with_base-resolver.ensures.base) h.target)
    c.resolve_normalized.ensures.normal
