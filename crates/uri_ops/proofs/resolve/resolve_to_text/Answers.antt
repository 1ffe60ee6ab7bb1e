use Rattle.uri_ops.proofs.Common.{◌≡◌, true, subst, sym, is_some, string_bytes, IfOk-weaker, IsTarget, components_of, IsTextOf, Components}
use Rattle.uri_ops.proofs.Targeting.ResolvedTexts.{computed-target-is-resolved, target-is-text-of-base-kind}
use Rattle.uri_ops.proofs.Targeting.Swaps.{text-of-kind-has-needed-scheme}
use Rattle.uri_ops.proofs.resolve.resolve_to_text.Goals as goal

pub target_text-requires : goal.target_text-requires
target_text-requires g c =
    subst (λ (p : Components). is_some p.scheme ≡ true) (sym c.of.ensures.components)
    (text-of-kind-has-needed-scheme g.B.RiMaybeRef.kind (g.B.RiMaybeRef.text c.args.base.now)
    g.met.B.Ri.needs_scheme (record { utf8 = c.of.ensures.utf8; grammar = c.of.ensures.of_kind }))

pub returns-clause-of_kind : goal.returns-clause-of_kind
returns-clause-of_kind g c =
    let kind = g.B.RiMaybeRef.kind in
    let p = components_of c.of.result in
    let q = components_of c.of-2.result in
    let base = g.B.RiMaybeRef.text c.args.base.now in
    let reference = g.Q.RiMaybeRef.text c.args.reference.now in
    IfOk-weaker c.target_text.result
    (λ made. IsTarget c.args.allow_path_underflow p q (string_bytes made.text))
    (λ made. IsTextOf kind (string_bytes made.text)) (λ made. target-is-text-of-base-kind
    kind g.Q.RiMaybeRef.kind g.met.B.RiMaybeRef.component_sets g.met.B.Ri.needs_scheme
    g.met.Q.RefOf.same_tables c.args.allow_path_underflow p q base reference c.of.ensures.components
    c.of-2.ensures.components c.of.ensures.utf8 c.of-2.ensures.utf8 c.of.ensures.of_kind
    c.of-2.ensures.of_kind (string_bytes made.text)) c.target_text.ensures.target

pub returns-clause-resolved : goal.returns-clause-resolved
returns-clause-resolved g c = computed-target-is-resolved g.B.RiMaybeRef.kind g.Q.RiMaybeRef.kind
    g.met.B.RiMaybeRef.component_sets g.met.B.Ri.needs_scheme g.met.Q.RefOf.same_tables
    c.args.allow_path_underflow (components_of c.of.result) (components_of c.of-2.result)
    (g.B.RiMaybeRef.text c.args.base.now) (g.Q.RiMaybeRef.text c.args.reference.now)
    c.of.ensures.components c.of-2.ensures.components c.of.ensures.utf8
    c.of-2.ensures.utf8 c.of.ensures.of_kind c.of-2.ensures.of_kind c.target_text.result
    (λ target. string_bytes target.text) c.target_text.ensures.target c.target_text.ensures.error
