use Rattle.fluent_uri_c.proofs.Common.{ap, reference_text}
use Rattle.fluent_uri_c.proofs.Targets.{basic_resolution-of-error, basic_resolution-of-target}
use Rattle.fluent_uri_c.proofs.texts.resolve_text_by_basic_algorithm.Goals as goal

pub returns-in-Ok : goal.returns-in-Ok
returns-in-Ok g c = basic_resolution-of-target _ _ _ _ (ap reference_text c.with_base.ensures)
    c.in-Ok.ensures.target

pub returns-in-Err : goal.returns-in-Err
returns-in-Err g c = basic_resolution-of-error _ _ _ _ c.in-Err.error
    (ap reference_text c.with_base.ensures) c.from.ensures c.in-Err.ensures.error
