use Rattle.uri_ops.proofs.Common.{arith, sym, ap, ◌∙◌, refl, subst, packed, IsTextOfParts, refusal}
use Rattle.uri_ops.proofs.Builders.Built.{built-draft-is-text-of-parts, built-positions-are-of-parts, built-text-is-of-kind, text-of-parts-is-accepted}
use Rattle.uri_ops.proofs.build.Builder.build.Goals as goal

pub make_owned-requires-clause-of_kind : goal.make_owned-requires-clause-of_kind
make_owned-requires-clause-of_kind g c = built-text-is-of-kind g.R.RiMaybeRef.kind
    g.met.R.RiMaybeRef.component_sets c.into_draft-draft.result c.if-draft.false
    c.into_draft-draft.ensures.rules c.into_draft-draft.ensures.before
    (sym c.refusal.ensures ∙ c.in-None.is)

pub make_owned-requires-clause-at : goal.make_owned-requires-clause-at
make_owned-requires-clause-at g c = c.of-positions.ensures ∙ ap packed (c.positions.ensures ∙ sym
    (built-positions-are-of-parts g.R.RiMaybeRef.kind g.met.R.RiMaybeRef.component_sets
    c.into_draft-draft.result c.if-draft.false c.into_draft-draft.ensures.rules
    c.into_draft-draft.ensures.before (sym c.refusal.ensures ∙ c.in-None.is)))

pub returns-in-Some-clause-exactly : goal.returns-in-Some-clause-exactly
returns-in-Some-clause-exactly g c = grind (arith, refusal, text-of-parts-is-accepted)

pub returns-in-None-clause-exactly : goal.returns-in-None-clause-exactly
returns-in-None-clause-exactly g c = λ _. (
  λ _. subst (IsTextOfParts g.R.RiMaybeRef.kind) c.into_draft-draft.ensures.same
      (built-draft-is-text-of-parts g.R.RiMaybeRef.kind g.met.R.RiMaybeRef.component_sets
      c.into_draft-draft.result c.if-draft.false c.into_draft-draft.ensures.rules
      c.into_draft-draft.ensures.before (sym c.refusal.ensures ∙ c.in-None.is)),
  λ _. refl,
)
