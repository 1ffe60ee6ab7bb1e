use Rattle.uri_streams.proofs.Common.{ap, ◌∙◌, Text}
use Rattle.uri_streams.proofs.TextResults.{target_result-of-target, target_result-of-returned-error}
use Rattle.uri_streams.proofs.targets.target.Goals as goal

pub returns-in-Ok : goal.returns-in-Ok
returns-in-Ok g c =
    ap Text c.into_string.ensures.text ∙ target_result-of-target _ _ _ c.in-Ok.ensures.target

pub returns-in-Err : goal.returns-in-Err
returns-in-Err g c = target_result-of-returned-error _ _ c.in-Err.error
    c.resolve_error_result.result c.in-Err.ensures.refusal c.resolve_error_result.ensures.output
    c.resolve_error_result.ensures.some
