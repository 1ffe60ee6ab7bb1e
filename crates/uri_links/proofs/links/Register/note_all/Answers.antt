use Rattle.uri_links.proofs.Common.{◌+◌, ◌∙◌, ap, map, take, refl, sym, uri_ref_text, uri_text, target_rules, texts_of}
use Rattle.uri_links.proofs.Ids.{ids-are-in-range}
use Rattle.uri_links.proofs.Several.{prefix, first-outcomes-of-one-more, first-outcomes-of-none}
use Rattle.uri_links.proofs.links.Register.note_all.Goals as goal

pub returns-in_err-outcomes-clause-prefix : goal.returns-in_err-outcomes-clause-prefix
returns-in_err-outcomes-clause-prefix g c = prefix uri_ref_text _ _ c.args.references.now
    c.from_residual.result _ 0 _ _ (first-outcomes-of-none uri_ref_text (uri_text c.args.base.now)
    (texts_of c.args.self.now) c.args.references.now (target_rules c.args.self.now))

pub returns-in_err-outcome-clause-prefix : goal.returns-in_err-outcome-clause-prefix
returns-in_err-outcome-clause-prefix g c = prefix uri_ref_text _ _ c.args.references.now
    c.from_residual-in_err-outcome.result _ c.loop-reference.reference-index _ _
    (c.loop-reference.invariant.noted
    ∙ ap (λ texts. (c.loop-reference.outcomes.items, texts)) (sym c.in_err-outcome.ensures.kept))

pub loop-reference-init : goal.loop-reference-init
loop-reference-init g c = record {
  rules = refl;
  noted = first-outcomes-of-none uri_ref_text (uri_text c.args.base.now) (texts_of c.args.self.now)
      c.args.references.now (target_rules c.args.self.now)
      ∙ ap (λ outcomes. (outcomes, texts_of c.args.self.now)) (sym c.in_ok-outcomes.ensures.items);
}

pub returns-in_err-push-clause-prefix : goal.returns-in_err-push-clause-prefix
returns-in_err-push-clause-prefix g c = prefix uri_ref_text _ _ c.args.references.now
    c.from_residual-in_err-push.result _ (c.loop-reference.reference-index + 1) _ _
    (first-outcomes-of-one-more uri_ref_text (uri_text c.args.base.now) (texts_of c.args.self.now)
    c.args.references.now (target_rules c.args.self.now) (target_rules c.loop-reference.self)
    c.loop-reference.reference-index c.reference-item.result c.loop-reference.outcomes.items
    (texts_of c.loop-reference.self) (texts_of c.note.new.self) c.in_ok-outcome.outcome
    c.loop-reference-test.true c.reference-item.is c.loop-reference.invariant.rules
    c.loop-reference.invariant.noted c.in_ok-outcome.ensures.noted)

pub loop-reference-preserved : goal.loop-reference-preserved
loop-reference-preserved g c = record {
  rules = c.note.ensures.rules ∙ c.loop-reference.invariant.rules;
  noted = first-outcomes-of-one-more uri_ref_text (uri_text c.args.base.now)
      (texts_of c.args.self.now) c.args.references.now (target_rules c.args.self.now)
      (target_rules c.loop-reference.self) c.loop-reference.reference-index c.reference-item.result
      c.loop-reference.outcomes.items (texts_of c.loop-reference.self) (texts_of c.note.new.self)
      c.in_ok-outcome.outcome c.loop-reference-test.true c.reference-item.is
      c.loop-reference.invariant.rules c.loop-reference.invariant.noted
      c.in_ok-outcome.ensures.noted
      ∙ ap (λ outcomes. (outcomes, texts_of c.note.new.self)) (sym c.in_ok-push.ensures.items);
}

pub returns-clause-ids : goal.returns-clause-ids
returns-clause-ids g c = ids-are-in-range (target_rules c.args.self.now) (uri_text c.args.base.now)
    (texts_of c.args.self.now)
    (map uri_ref_text (take c.loop-reference.reference-index c.args.references.now))
    c.loop-reference.outcomes.items (texts_of c.loop-reference.self)
    c.loop-reference.invariant.noted
