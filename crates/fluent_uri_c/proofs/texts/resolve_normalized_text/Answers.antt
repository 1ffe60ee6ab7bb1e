use Rattle.fluent_uri_c.proofs.Common.{arith, ap, subst, components, IsNormalFormOfTarget, rules_of_set, reference_text}
use Rattle.uri_ops.specs.Normalizers.{scheme_rules_of}
use Rattle.fluent_uri_c.proofs.Targets.{normal_resolution-of-target, normal_resolution-of-error, returned-rejection-is-of-error}
use Rattle.fluent_uri_c.proofs.texts.resolve_normalized_text.Goals as goal

pub returns-in-Ok : goal.returns-in-Ok
returns-in-Ok g c =
    let kind = g.K.Base.Kind.kind in
    let bare = reference_text c.strip_fragment.result in
    let reference = reference_text c.args.reference.now in
    let normal = reference_text c.in-Ok.target in
    let given = scheme_rules_of c.scheme_rules_with-normalizer.result in
    let found : IsNormalFormOfTarget kind (rules_of_set given) bare reference normal = subst
    (λ b. IsNormalFormOfTarget kind (rules_of_set given) b reference normal)
    (ap (λ r. reference_text r) c.with_base-resolver.ensures.base) c.in-Ok.ensures.normal.target in
    normal_resolution-of-target c.args.rules kind (reference_text c.args.base.now) bare reference
    normal c.strip_fragment.ensures
    (subst (λ set. IsNormalFormOfTarget kind (rules_of_set set) bare reference normal)
    c.scheme_rules_with-normalizer.ensures.rules found)

pub returns-in-Err : goal.returns-in-Err
returns-in-Err g c =
    grind (arith, returned-rejection-is-of-error, normal_resolution-of-error, components)
