use Rattle.uri_relative.proofs.Common.{ap, ◌∙◌, both_ways, recompose, components_of}
use Rattle.uri_relative.proofs.Forms.{whole}
use Rattle.uri_relative.proofs.Rules.{rule-gives-target-for-other-scheme}
use Rattle.uri_relative.proofs.ShortestForms.{target-is-shortest-for-other-scheme}
use Rattle.uri_relative.proofs.reference.target_suffix.Goals as goal

pub returns-then-not-have_same_scheme-clause-some
    : goal.returns-then-not-have_same_scheme-clause-some
returns-then-not-have_same_scheme-clause-some c =
    let b = components_of c.args.base.now in
    let t = components_of c.args.target.now in (
      t,
      c.whole.ensures.text,
      c.whole.ensures.at,
      λ prefers kind w. whole kind prefers b t w
          (λ s _ _ _. absurd (both_ways _ c.if-not-have_same_scheme.true
          (c.have_same_scheme.ensures.1 s)))
          (λ _ _. target-is-shortest-for-other-scheme kind b t
          (λ s. both_ways _ c.if-not-have_same_scheme.true (c.have_same_scheme.ensures.1 s))),
    )

pub returns-then-not-have_same_scheme-clause-text
    : goal.returns-then-not-have_same_scheme-clause-text
returns-then-not-have_same_scheme-clause-text c = λ prefers.
    c.whole.ensures.text
    ∙ ap recompose (rule-gives-target-for-other-scheme prefers (components_of c.args.base.now)
    (components_of c.args.target.now)
    (λ s. both_ways _ c.if-not-have_same_scheme.true (c.have_same_scheme.ensures.1 s)))
