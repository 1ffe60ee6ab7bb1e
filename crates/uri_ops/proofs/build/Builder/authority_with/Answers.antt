use Rattle.uri_ops.proofs.Common.{◌∙◌}
use Rattle.uri_ops.proofs.build.Builder.authority_with.Goals as goal

pub returns : goal.returns
returns g c = (
  c.with_authority_begun.result,
  c.parts-done.result,
  c.with_authority_begun.ensures,
  c.parts-done.ensures,
  c.from_draft.ensures ∙ c.into_draft.ensures.same,
)
