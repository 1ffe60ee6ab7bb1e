use Rattle.fluent_uri_c.specs.Results.{to_uri_result}
use Rattle.fluent_uri_c.proofs.OtherErrors.{to_uri_result-is-other}
use Rattle.fluent_uri_c.proofs.calls.ToUriCall.call.Goals as goal

pub returns-clause-made : goal.returns-clause-made
returns-clause-made c =
    let call = c.args.self.now in
    c.batch_result.ensures.made _ (to_uri_result call.kind c.args.text.now) c.as_uri.ensures

pub returns-clause-memory : goal.returns-clause-memory
returns-clause-memory c =
    let call = c.args.self.now in
    c.batch_result.ensures.memory _ (to_uri_result call.kind c.args.text.now)
    (to_uri_result-is-other call.kind c.args.text.now) c.as_uri.ensures
