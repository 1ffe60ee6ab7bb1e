use Rattle.std.proofs.Common.{arith}
use Rattle.fluent_uri_c.proofs.QueryPairs.{next-pair-is-reported}
use Rattle.fluent_uri_c.proofs.queries.fluent_uri_next_pair.Goals as goal

pub returns : goal.returns
returns c = grind (arith, next-pair-is-reported)
