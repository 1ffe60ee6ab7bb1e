use Rattle.uri_relative.proofs.Common.{◌≡◌, ap, string_bytes, subst, sym, ◌∙◌, IfOk, components, recompose, core_text, components_of, with_final_path, one-of-four-kinds-has-sets, IsReferenceTo, reference_components}
use Rattle.uri_relative.proofs.Leading.{dotless-text-is-target}
use Rattle.uri_relative.proofs.relative.relative.Goals as goal

pub reference-requires : goal.reference-requires
reference-requires g c = c.is_without_removable_dots.ensures.settled
    c.if-is_without_removable_dots.true

pub returns-then-is_without_removable_dots-clause-leads
    : goal.returns-then-is_without_removable_dots-clause-leads
returns-then-is_without_removable_dots-clause-leads g c =
    let kind = g.K.Kind.kind in
    subst (λ t. IfOk c.reference.result (λ made. IsReferenceTo kind c.args.prefers_relative
    (components_of c.args.base.now) t (components (string_bytes made.text))))
    (sym (c.is_without_removable_dots.ensures.settled c.if-is_without_removable_dots.true)
    ∙ ap with_final_path c.of_core-view.ensures.components) (c.reference.ensures.leads kind
    (dotless-text-is-target kind (core_text c.args.target) (components_of c.of_core-view.result)
    c.of_core-view.ensures.components (one-of-four-kinds-has-sets kind g.met.K.Kind.known)
    g.met.K.BaseKind.needs_scheme c.args.target.of_kind
    (c.is_without_removable_dots.ensures.settled c.if-is_without_removable_dots.true)))

pub returns-then-is_without_removable_dots-clause-at
    : goal.returns-then-is_without_removable_dots-clause-at
returns-then-is_without_removable_dots-clause-at g c =
    let kind = g.K.Kind.kind in
    c.reference.ensures.at kind (dotless-text-is-target kind (core_text c.args.target)
    (components_of c.of_core-view.result) c.of_core-view.ensures.components
    (one-of-four-kinds-has-sets kind g.met.K.Kind.known) g.met.K.BaseKind.needs_scheme
    c.args.target.of_kind
    (c.is_without_removable_dots.ensures.settled c.if-is_without_removable_dots.true))

pub returns-then-is_without_removable_dots-clause-text
    : goal.returns-then-is_without_removable_dots-clause-text
returns-then-is_without_removable_dots-clause-text g c = subst (λ t. IfOk c.reference.result
    (λ made. string_bytes made.text
    ≡ recompose (reference_components c.args.prefers_relative (components_of c.args.base.now) t)))
    (sym (c.is_without_removable_dots.ensures.settled c.if-is_without_removable_dots.true)
    ∙ ap with_final_path c.of_core-view.ensures.components) c.reference.ensures.text

pub returns : goal.returns
returns g c = c.reference_to_settled_target.ensures
