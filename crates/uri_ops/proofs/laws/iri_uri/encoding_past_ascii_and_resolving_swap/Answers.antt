use Rattle.uri_ops.proofs.Theorems.{resolving-and-encoding-swap, encoding-keeps-target-underflow}
use Rattle.uri_ops.proofs.laws.iri_uri.encoding_past_ascii_and_resolving_swap.Goals as goal

pub returns-clause-resolution : goal.returns-clause-resolution
returns-clause-resolution c = λ base reference u v. resolving-and-encoding-swap base reference u v

pub returns-clause-underflow : goal.returns-clause-underflow
returns-clause-underflow c =
    λ base reference target u v e. encoding-keeps-target-underflow base reference target u v e
