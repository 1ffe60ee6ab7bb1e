use Rattle.uri_relative.proofs.Common.{◌≡◌, ap, string_bytes, subst, ◌∙◌, arith, IfOk, components, recompose, core_text, components_of, one-of-four-kinds-has-sets, IsReferenceTo, reference_components}
use Rattle.uri_relative.proofs.Leading.{dotless-text-is-target, settled-components-stay-settled}
use Rattle.uri_relative.proofs.relative.reference_to_settled_target.Goals as goal

pub reference-requires : goal.reference-requires
reference-requires g c = settled-components-stay-settled (core_text c.args.target)
    (components_of c.of_core-view.result) (grind arith)

pub returns-clause-leads : goal.returns-clause-leads
returns-clause-leads g c =
    let kind = g.K.Kind.kind in
    let same = c.of_core-view.ensures.components ∙ ap components c.borrow.ensures.text
    ∙ c.in_ok-settled.ensures in
    subst (λ t. IfOk c.reference.result (λ made. IsReferenceTo kind c.args.prefers_relative
    (components_of c.args.base.now) t (components (string_bytes made.text)))) same
    (c.reference.ensures.leads kind (dotless-text-is-target kind (core_text c.borrow.result)
    (components_of c.of_core-view.result) c.of_core-view.ensures.components
    (one-of-four-kinds-has-sets kind g.met.K.Kind.known) g.met.K.BaseKind.needs_scheme
    c.of_core-view.ensures.of_kind (settled-components-stay-settled (core_text c.args.target)
    (components_of c.of_core-view.result) same)))

pub returns-clause-text : goal.returns-clause-text
returns-clause-text g c = subst (λ t. IfOk c.reference.result (λ made. string_bytes made.text
    ≡ recompose (reference_components c.args.prefers_relative (components_of c.args.base.now) t)))
    (grind arith) c.reference.ensures.text

pub returns-clause-at : goal.returns-clause-at
returns-clause-at g c =
    let kind = g.K.Kind.kind in
    c.reference.ensures.at kind (dotless-text-is-target kind (core_text c.borrow.result)
    (components_of c.of_core-view.result) c.of_core-view.ensures.components
    (one-of-four-kinds-has-sets kind g.met.K.Kind.known) g.met.K.BaseKind.needs_scheme
    c.of_core-view.ensures.of_kind (settled-components-stay-settled (core_text c.args.target)
    (components_of c.of_core-view.result) (c.of_core-view.ensures.components
    ∙ ap components c.borrow.ensures.text ∙ c.in_ok-settled.ensures)))
