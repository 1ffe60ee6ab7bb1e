use Rattle.uri_relative.proofs.Common.{◌≡◌, ap, subst, sym, true, ◌∙◌, arith, is_some, Components, recompose, core_text, IsOfKind, kind-that-needs-scheme-has-one, with_final_path, one-of-four-kinds-has-sets}
use Rattle.uri_relative.proofs.Leading.{components-of-settled-text, settled-text-is-of-kind}
use Rattle.uri_relative.proofs.relative.settled_target.Goals as goal

pub target_with_scheme-requires : goal.target_with_scheme-requires
target_with_scheme-requires g c = subst (λ (t : Components). is_some t.scheme ≡ true)
    (sym c.of_core.ensures.components) (kind-that-needs-scheme-has-one g.K.Kind.kind
    (core_text c.args.target) g.met.K.BaseKind.needs_scheme c.args.target.of_kind)

pub new-requires-clause-of_kind : goal.new-requires-clause-of_kind
new-requires-clause-of_kind g c =
    let kind = g.K.Kind.kind in
    subst (IsOfKind kind) (sym (c.in_ok-text.ensures.text
    ∙ ap (λ t. recompose (with_final_path t)) c.of_core.ensures.components))
    (settled-text-is-of-kind kind (core_text c.args.target)
    (one-of-four-kinds-has-sets kind g.met.K.Kind.known)
    g.met.K.BaseKind.needs_scheme c.of_core.ensures.utf8 c.args.target.of_kind)

pub returns : goal.returns
returns g c =
    let text = core_text c.args.target in
    components-of-settled-text text (core_text c.new.result) (kind-that-needs-scheme-has-one
    g.K.Kind.kind text g.met.K.BaseKind.needs_scheme c.args.target.of_kind) (grind arith)
