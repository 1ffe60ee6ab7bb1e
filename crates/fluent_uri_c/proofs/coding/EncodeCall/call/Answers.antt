use Rattle.fluent_uri_c.proofs.Common.{common_steps, arith}
use Rattle.fluent_uri_c.proofs.OtherErrors.{encode_result-is-other}
use Rattle.fluent_uri_c.proofs.coding.EncodeCall.call.Goals as goal

pub returns-clause-memory : goal.returns-clause-memory
returns-clause-memory c = grind (arith, common_steps, encode_result-is-other)
