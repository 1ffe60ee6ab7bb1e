use Rattle.fluent_uri.specs.References.{reference_text}
use Rattle.uri_commands.proofs.Targets.{target_text-of-resolved}
use Rattle.uri_commands.proofs.target.target_of.Goals as goal

pub returns-clause-target : goal.returns-clause-target
returns-clause-target g c = target_text-of-resolved reference_text _ _ c.resolve_against.result
    c.resolve_against.ensures.target
