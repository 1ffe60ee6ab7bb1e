use Rattle.uri_links.proofs.Common.{◌≡◌, take, map, uri_ref_text, uri_text, outcomes_of, target_rules, texts_of}
use Rattle.uri_links.proofs.links.Register.note_all.Given as goal

abbrev pub invariant-loop-reference : goal.invariant-loop-reference
invariant-loop-reference g l = record {
  rules : target_rules l.self ≡ target_rules l.fn.self;
  noted : outcomes_of (target_rules l.fn.self) (uri_text l.base) (texts_of l.fn.self)
      (map uri_ref_text (take l.reference-index l.references))
      ≡ (l.outcomes.items, texts_of l.self);
}
