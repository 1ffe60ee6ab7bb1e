use Rattle.uri_ops.proofs.Common.{arith, is_some-option_map}
use Rattle.uri_ops.proofs.build.draft.Draft.refusal.Goals as goal

pub returns : goal.returns
returns c = grind (arith, is_some-option_map)
