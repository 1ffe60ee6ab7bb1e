use Rattle.uri_streams.proofs.Common.{◌≡◌, ◌∙◌, IfOk, ap, refl, subst, sym, kind_named, LineResult, Error, result_in, line_error_message, HasMet, Known}
use Rattle.uri_streams.proofs.Tasks.{unique_result-of-normalize_result}
use Rattle.uri_streams.proofs.task.UniqueTask.result_for.Goals as goal

pub returns-in-Text-clause-output : goal.returns-in-Text-clause-output
returns-in-Text-clause-output c = λ known has.
    subst (λ (next : LineResult × Known). IfOk c.text_if_new.result (λ line_result.
    (result_in line_result ≡ next.0) × HasMet c.text_if_new.new.met next.1))
    (unique_result-of-normalize_result c.args.self.now.rules
    (kind_named c.args.self.now.kind) known c.args.text.now _
    (sym (ap result_in c.in-Text.is) ∙ c.in_ok-normal.ensures.result))
    (c.text_if_new.ensures known has)

pub returns-in-Borrowed-clause-output : goal.returns-in-Borrowed-clause-output
returns-in-Borrowed-clause-output c = λ known has.
    subst (λ (next : LineResult × Known). IfOk c.borrowed_if_new.result (λ line_result.
    (result_in line_result ≡ next.0) × HasMet c.borrowed_if_new.new.met next.1))
    (unique_result-of-normalize_result c.args.self.now.rules
    (kind_named c.args.self.now.kind) known c.args.text.now _
    (sym (ap result_in c.in-Borrowed.is) ∙ c.in_ok-normal.ensures.result))
    (c.borrowed_if_new.ensures known has)

pub returns-in-Error-clause-output : goal.returns-in-Error-clause-output
returns-in-Error-clause-output c = λ known has.
    subst (λ (next : LineResult × Known).
    (Error (line_error_message c.in-Error.fault) ≡ next.0) × HasMet c.args.self.now.met next.1)
    (unique_result-of-normalize_result c.args.self.now.rules (kind_named c.args.self.now.kind) known
    c.args.text.now (Error (line_error_message c.in-Error.fault))
    (sym (ap result_in c.in-Error.is) ∙ c.in_ok-normal.ensures.result)) (refl, has)
