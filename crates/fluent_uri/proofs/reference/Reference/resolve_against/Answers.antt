use Rattle.uri_parts.specs.Components.{components}
use Rattle.fluent_uri.specs.References.{reference_text}
use Rattle.fluent_uri.proofs.Targets.{error_is_without_underflow, target_is_resolution}
use Rattle.fluent_uri.proofs.reference.Reference.resolve_against.Goals as goal

pub returns-clause-target : goal.returns-clause-target
returns-clause-target g c =
    target_is_resolution (reference_text c.args.base.now) (reference_text c.args.self.now)
    (λ target. reference_text target) c.resolve_to_value.result c.resolve_to_value.ensures.target

pub returns-clause-refusal : goal.returns-clause-refusal
returns-clause-refusal g c =
    error_is_without_underflow (components (reference_text c.args.base.now))
    (components (reference_text c.args.self.now)) c.resolve_to_value.result
    c.resolve_to_value.ensures.error
