use Rattle.uri_mend.proofs.Common.{common_steps, arith}
use Rattle.uri_mend.proofs.LinkPrefixes.{holds-where-some}
use Rattle.uri_mend.proofs.Unchanged.{text-of-kind-has-no-false-scheme}
use Rattle.uri_mend.proofs.mending.link_of.Goals as goal

pub link_of_prefix-link-requires-clause-scheme : goal.link_of_prefix-link-requires-clause-scheme
link_of_prefix-link-requires-clause-scheme g c =
    grind (arith, common_steps, text-of-kind-has-no-false-scheme)

pub returns-then-is_some-clause-mendable : goal.returns-then-is_some-clause-mendable
returns-then-is_some-clause-mendable g c = grind (arith, common_steps, holds-where-some)
