use Rattle.uri_parts.proofs.Theorems.{components-are-split-of-text}
use Rattle.uri_parts.proofs.laws.components_are_a_split.Goals as goal

pub returns : goal.returns
returns c = components-are-split-of-text
