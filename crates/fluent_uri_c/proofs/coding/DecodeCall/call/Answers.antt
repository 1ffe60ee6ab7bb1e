use Rattle.fluent_uri_c.specs.Results.{decode_result}
use Rattle.fluent_uri_c.proofs.OtherErrors.{decode_result-is-other}
use Rattle.fluent_uri_c.proofs.coding.DecodeCall.call.Goals as goal

pub returns-clause-memory : goal.returns-clause-memory
returns-clause-memory c = c.decoded_result.ensures.memory
    (decode_result c.args.self.now.component c.args.text.now)
    (decode_result-is-other c.args.self.now.component c.args.text.now) c.decoded.ensures
