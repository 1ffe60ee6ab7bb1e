use Rattle.fluent_uri_c.proofs.Targets.{resolution-of-target, returned-rejection-is-of-error, resolution-of-error}
use Rattle.fluent_uri_c.proofs.texts.resolve_text.Goals as goal

pub returns-in-Ok : goal.returns-in-Ok
returns-in-Ok g c = resolution-of-target _ _ _ _ c.strip_fragment.ensures c.in-Ok.ensures.target

pub returns-in-Err : goal.returns-in-Err
returns-in-Err g c = returned-rejection-is-of-error _ _ c.in-Err.error c.from.ensures
    (resolution-of-error _ _ _ _ c.strip_fragment.ensures c.in-Err.ensures.refusal)
