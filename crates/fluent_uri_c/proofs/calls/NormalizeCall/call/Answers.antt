use Rattle.fluent_uri_c.proofs.Common.{Some, ◌∙◌, ap, sym, result_ok, normalize_result}
use Rattle.fluent_uri_c.proofs.OtherErrors.{normalize_result-is-other}
use Rattle.fluent_uri_c.proofs.calls.NormalizeCall.call.Goals as goal

pub returns-in-Ok-clause-made : goal.returns-in-Ok-clause-made
returns-in-Ok-clause-made c = ap Some c.of_normal_form.ensures ∙ sym (ap result_ok c.in-Ok.ensures)

pub returns-in-Err-clause-made : goal.returns-in-Err-clause-made
returns-in-Err-clause-made c =
    let call = c.args.self.now in
    c.batch_result.ensures.made _ (normalize_result call.kind call.options c.args.text.now)
    c.in-Err.ensures

pub returns-in-Err-clause-memory : goal.returns-in-Err-clause-memory
returns-in-Err-clause-memory c =
    let call = c.args.self.now in
    c.batch_result.ensures.memory _ (normalize_result call.kind call.options c.args.text.now)
    (normalize_result-is-other call.kind call.options c.args.text.now) c.in-Err.ensures
