use Rattle.uri_streams.proofs.Common.{ap, ◌∙◌, reference_text, Text}
use Rattle.uri_streams.proofs.BasicTargets.{basic_target_result-of-returned-error, basic_target_result-of-target}
use Rattle.uri_streams.proofs.targets.basic_target.Goals as goal

pub returns-in-Ok : goal.returns-in-Ok
returns-in-Ok g c = ap Text c.into_string.ensures.text ∙ basic_target_result-of-target _ _ _ _
    (ap reference_text c.with_base.ensures) c.in-Ok.ensures.target

pub returns-in-Err : goal.returns-in-Err
returns-in-Err g c = basic_target_result-of-returned-error _ _ _ c.in-Err.error
    c.basic_error_result.result (ap reference_text c.with_base.ensures) c.in-Err.ensures.error
    c.basic_error_result.ensures.output c.basic_error_result.ensures.some
