use Rattle.uri_links.proofs.Common.{arith, uri, uri_ref_text, uri_text, target_rules, texts_of}
use Rattle.std.proofs.lemmas.Result.{IfOk-weaker}
use Rattle.uri_links.proofs.InWords.{outcome_of-is-outcome}
use Rattle.uri_links.proofs.Noted.{noted, normal-target-is-its-own-normal-text, outcome_of-without-target}
use Rattle.uri_links.proofs.links.Register.note.Goals as goal

pub note_target-requires : goal.note_target-requires
note_target-requires g c = normal-target-is-its-own-normal-text uri (target_rules c.args.self.now)
    (uri_text c.args.base.now) (uri_ref_text c.args.reference.now) (uri_text c.in-Ok.target)
    c.in-Ok.ensures.target

pub returns-in-Ok-clause-noted : goal.returns-in-Ok-clause-noted
returns-in-Ok-clause-noted g c = IfOk-weaker c.note_target.result _ _
    (λ outcome e. noted c.meanings_are_equal_if_their_parts_are.ensures
    (target_rules c.args.self.now) (uri_text c.args.base.now) (uri_ref_text c.args.reference.now)
    (uri_text c.in-Ok.target) (texts_of c.args.self.now) (outcome, texts_of c.note_target.new.self)
    c.in-Ok.ensures.target c.args.self.now.uris c.args.self.now.normal e)
    c.note_target.ensures.noted

pub returns-in-Err-clause-noted : goal.returns-in-Err-clause-noted
returns-in-Err-clause-noted g c = grind (arith, outcome_of-without-target)

pub returns-in-Ok-clause-meant : goal.returns-in-Ok-clause-meant
returns-in-Ok-clause-meant g c = IfOk-weaker c.note_target.result _ _
    (λ outcome. outcome_of-is-outcome c.meanings_are_equal_if_their_parts_are.ensures
    (target_rules c.args.self.now) (uri_text c.args.base.now) (texts_of c.args.self.now)
    (uri_ref_text c.args.reference.now) outcome (texts_of c.note_target.new.self))
    (returns-in-Ok-clause-noted g c)

pub returns-in-Err-clause-meant : goal.returns-in-Err-clause-meant
returns-in-Err-clause-meant g c = grind (arith, outcome_of-is-outcome, returns-in-Err-clause-noted)
