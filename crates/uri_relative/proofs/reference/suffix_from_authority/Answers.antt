use Rattle.uri_relative.proofs.Common.{sym, ap, ◌∙◌, arith, both_ways, slash, recompose, starts, components_of, from_authority}
use Rattle.uri_relative.proofs.Forms.{authority-form-is-reference, whole}
use Rattle.uri_relative.proofs.RootedTargets.{rootless-target-needs-authority, base-that-is-not-opaque-is-rooted}
use Rattle.uri_relative.proofs.Rules.{rule-gives-authority, rule-gives-target-for-opaque-base}
use Rattle.uri_relative.proofs.ShortestForms.{authority-form-is-shortest, target-is-shortest-for-opaque-base}
use Rattle.uri_relative.proofs.reference.suffix_from_authority.Goals as goal

pub returns-then-is_opaque-clause-some : goal.returns-then-is_opaque-clause-some
returns-then-is_opaque-clause-some c =
    let b = components_of c.args.base.now in
    let t = components_of c.args.target.now in (
      t,
      c.whole.ensures.text,
      c.whole.ensures.at,
      λ prefers kind w. whole kind prefers b t w
          (λ _ _ opaque _. absurd
          (both_ways _ opaque (sym c.is_opaque.ensures ∙ c.if-is_opaque.true)))
          (λ _ _. target-is-shortest-for-opaque-base kind b t
          (sym c.is_opaque.ensures ∙ c.if-is_opaque.true) c.requires.path),
    )

pub returns-then-not-have_same_authority-clause-some
    : goal.returns-then-not-have_same_authority-clause-some
returns-then-not-have_same_authority-clause-some c =
    let b = components_of c.args.base.now in
    let t = components_of c.args.target.now in (
      from_authority t,
      c.from_authority.ensures.text,
      c.from_authority.ensures.at,
      λ prefers kind w. authority-form-is-reference kind prefers b t w c.requires.scheme
          (sym c.is_opaque.ensures ∙ c.if-is_opaque.false)
          (λ a. absurd (both_ways _ c.if-not-have_same_authority.true
          (c.have_same_authority.ensures.1 a)))
          (authority-form-is-shortest kind b t c.requires.scheme
          (base-that-is-not-opaque-is-rooted c.args.base.now.text.now (sym c.is_opaque.ensures
          ∙ c.if-is_opaque.false))
          (sym c.is_opaque.ensures ∙ c.if-is_opaque.false)
          (λ a. absurd (both_ways _ c.if-not-have_same_authority.true
          (c.have_same_authority.ensures.1 a)))),
    )

pub returns-then-begins_with_slash-clause-none : goal.returns-then-begins_with_slash-clause-none
returns-then-begins_with_slash-clause-none c = λ _. grind arith

pub returns-clause-some : goal.returns-clause-some
returns-clause-some c =
    let b = components_of c.args.base.now in
    let t = components_of c.args.target.now in
    let opaque = sym c.is_opaque.ensures ∙ c.if-is_opaque.false in (
      from_authority t,
      c.from_authority-2.ensures.text,
      c.from_authority-2.ensures.at,
      λ prefers kind w. authority-form-is-reference kind prefers b t w c.requires.scheme opaque
          (λ a. rootless-target-needs-authority kind b t w c.requires.path a opaque
          (sym (c.begins_with_slash.ensures
          ∙ ap (starts slash) (c.as_bytes.ensures.value ∙ c.path.ensures))
          ∙ c.if-begins_with_slash.false))
          (authority-form-is-shortest kind b t c.requires.scheme
          (base-that-is-not-opaque-is-rooted c.args.base.now.text.now opaque) opaque
          (λ _. (
            c.requires.path,
            sym (c.begins_with_slash.ensures
                ∙ ap (starts slash) (c.as_bytes.ensures.value ∙ c.path.ensures))
                ∙ c.if-begins_with_slash.false,
          ))),
    )

pub returns-then-is_opaque-clause-text : goal.returns-then-is_opaque-clause-text
returns-then-is_opaque-clause-text c = λ prefers.
    c.whole.ensures.text ∙ ap recompose (rule-gives-target-for-opaque-base prefers
    (components_of c.args.base.now) (components_of c.args.target.now) c.requires.scheme
    c.requires.path (sym c.is_opaque.ensures ∙ c.if-is_opaque.true))

pub returns-then-not-have_same_authority-clause-text
    : goal.returns-then-not-have_same_authority-clause-text
returns-then-not-have_same_authority-clause-text c = λ prefers.
    c.from_authority.ensures.text
    ∙ ap recompose (rule-gives-authority prefers (components_of c.args.base.now)
    (components_of c.args.target.now) c.requires.scheme c.requires.path
    (sym c.is_opaque.ensures ∙ c.if-is_opaque.false)
    (λ a. absurd (both_ways _ c.if-not-have_same_authority.true
    (c.have_same_authority.ensures.1 a))))

pub returns-clause-text : goal.returns-clause-text
returns-clause-text c = λ prefers. grind (arith, rule-gives-authority)
