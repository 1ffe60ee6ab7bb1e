use Rattle.uri_pct.proofs.Common.{not, ap, ◌∙◌, is_unencoded}
use Rattle.uri_pct.proofs.TableSets.Percent.{byte_not_found_is_lacked}
use Rattle.uri_pct.proofs.decode.Decode.is_unencoded.Goals as goal

pub returns : goal.returns
returns c = ap not c.contains.ensures.value ∙ byte_not_found_is_lacked 37 c.as_bytes.result.now
    ∙ ap is_unencoded c.as_bytes.ensures.value
