use Rattle.uri_relative.proofs.Common.{sym, ap, ◌∙◌, [], arith, None, both_ways, not_some_is_none, recompose, components_of}
use Rattle.uri_relative.proofs.Forms.{fragment-form-is-reference, query-form-is-reference}
use Rattle.uri_relative.proofs.Rules.{rule-gives-fragment-for-same-query, rule-gives-query-for-same-path}
use Rattle.uri_relative.proofs.reference.suffix_without_path.Goals as goal

pub returns-then-not-have_same_authority_and_path-clause-none
    : goal.returns-then-not-have_same_authority_and_path-clause-none
returns-then-not-have_same_authority_and_path-clause-none c = λ _. record {
  other_query = λ a p. absurd
      (c.have_same_authority_and_path.ensures.other c.if-not-have_same_authority_and_path.true a p);
  no_query = λ a p _. absurd
      (c.have_same_authority_and_path.ensures.other c.if-not-have_same_authority_and_path.true a p);
}

pub returns-then-have_same_query-clause-some : goal.returns-then-have_same_query-clause-some
returns-then-have_same_query-clause-some c =
    let b = components_of c.args.base.now in
    let t = components_of c.args.target.now in
    let same = c.have_same_authority_and_path.ensures.same
    c.if-not-have_same_authority_and_path.false in (
      record t { scheme = None; authority = None; path = []; query = None },
      c.from_fragment.ensures.text,
      c.from_fragment.ensures.at,
      λ prefers kind w. fragment-form-is-reference kind prefers b t w c.requires.scheme
          same.0 same.1 (c.have_same_query.ensures.0 c.if-have_same_query.true),
    )

pub returns-then-not-has_query-clause-none : goal.returns-then-not-has_query-clause-none
returns-then-not-has_query-clause-none c = grind (arith, not_some_is_none)

pub returns-then-is_opaque-clause-none : goal.returns-then-is_opaque-clause-none
returns-then-is_opaque-clause-none c = λ _. grind arith

pub returns-clause-some : goal.returns-clause-some
returns-clause-some c =
    let b = components_of c.args.base.now in
    let t = components_of c.args.target.now in
    let same = c.have_same_authority_and_path.ensures.same
    c.if-not-have_same_authority_and_path.false in (
      record t { scheme = None; authority = None; path = [] },
      c.from_query.ensures.text,
      c.from_query.ensures.at,
      λ prefers kind w. query-form-is-reference kind prefers b t w c.requires.scheme same.0 same.1
          (sym c.has_query.ensures ∙ c.if-not-has_query.false)
          (sym c.is_opaque.ensures ∙ c.if-is_opaque.false)
          (λ e. both_ways _ c.if-have_same_query.false (c.have_same_query.ensures.1 e)),
    )

pub returns-then-have_same_query-clause-text : goal.returns-then-have_same_query-clause-text
returns-then-have_same_query-clause-text c = λ prefers.
    grind (arith, rule-gives-fragment-for-same-query)

pub returns-clause-text : goal.returns-clause-text
returns-clause-text c = λ prefers.
    let same = c.have_same_authority_and_path.ensures.same
    c.if-not-have_same_authority_and_path.false in
    c.from_query.ensures.text
    ∙ ap recompose (rule-gives-query-for-same-path prefers (components_of c.args.base.now)
    (components_of c.args.target.now) c.requires.scheme same.0 same.1
    (λ e. both_ways _ c.if-have_same_query.false (c.have_same_query.ensures.1 e))
    (sym c.is_opaque.ensures ∙ c.if-is_opaque.false)
    (sym c.has_query.ensures ∙ c.if-not-has_query.false))
