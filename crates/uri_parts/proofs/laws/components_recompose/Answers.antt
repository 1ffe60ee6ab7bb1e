use Rattle.uri_parts.proofs.Theorems.{recompose-components}
use Rattle.uri_parts.proofs.laws.components_recompose.Goals as goal

pub returns : goal.returns
returns c = recompose-components
