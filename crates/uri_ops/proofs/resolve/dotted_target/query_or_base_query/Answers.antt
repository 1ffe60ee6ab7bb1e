use Rattle.uri_ops.proofs.Common.{arith}
use Rattle.uri_ops.proofs.resolve.dotted_target.query_or_base_query.Goals as goal

pub returns-then-has_query : goal.returns-then-has_query
returns-then-has_query c = grind arith

pub returns : goal.returns
returns c = grind arith
