use Rattle.uri_ops.proofs.Common.{arith}
use Rattle.uri_ops.proofs.Paths.LastSlashes.{prefix-to-last-slash, prefix-without-slash-after-start, slashless-suffix-stays-slashless}
use Rattle.uri_ops.proofs.path.dot_segments.last_slash_before.Goals as goal

pub returns-then-bytes-end-eq47-clause-prefix : goal.returns-then-bytes-end-eq47-clause-prefix
returns-then-bytes-end-eq47-clause-prefix c = grind (arith, prefix-to-last-slash)

pub returns-clause-prefix : goal.returns-clause-prefix
returns-clause-prefix c = grind (arith, prefix-without-slash-after-start)

pub returns-clause-last : goal.returns-clause-last
returns-clause-last c = grind (arith, slashless-suffix-stays-slashless)
