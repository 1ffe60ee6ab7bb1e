use Rattle.uri_parts.proofs.Theorems.{only-split-is-components}
use Rattle.uri_parts.proofs.laws.components_are_the_only_split.Goals as goal

pub returns : goal.returns
returns c = only-split-is-components
