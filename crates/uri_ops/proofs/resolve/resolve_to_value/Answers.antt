use Rattle.uri_ops.proofs.Common.{arith}
use Rattle.uri_ops.proofs.Targeting.ResolvedTexts.{value-with-text-is-resolved}
use Rattle.uri_ops.proofs.resolve.resolve_to_value.Goals as goal

pub returns : goal.returns
returns g c = grind (arith, value-with-text-is-resolved)
