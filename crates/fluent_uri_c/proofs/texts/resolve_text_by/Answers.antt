use Rattle.fluent_uri.specs.References.{reference_text}
use Rattle.fluent_uri_c.proofs.Targets.{target-is-returned}
use Rattle.fluent_uri_c.proofs.texts.resolve_text_by.Goals as goal

pub returns : goal.returns
returns g c = target-is-returned reference_text _ _ c.args.is_basic _ c.if-is_basic.false
    c.resolve_text.ensures
