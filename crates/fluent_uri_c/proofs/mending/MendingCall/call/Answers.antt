use Rattle.fluent_uri_c.specs.Mends.{mend_result}
use Rattle.fluent_uri_c.proofs.OtherErrors.{mend_result-is-other}
use Rattle.fluent_uri_c.proofs.mending.MendingCall.call.Goals as goal

pub returns-clause-made : goal.returns-clause-made
returns-clause-made c =
    let call = c.args.self.now in
    c.batch_result.ensures.made _ (mend_result call.kind c.args.text.now) c.mended.ensures.text

pub returns-clause-memory : goal.returns-clause-memory
returns-clause-memory c =
    let call = c.args.self.now in
    c.batch_result.ensures.memory _ (mend_result call.kind c.args.text.now)
    (mend_result-is-other call.kind c.args.text.now) c.mended.ensures.text
