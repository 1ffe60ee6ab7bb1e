use Rattle.uri_query.proofs.Cuts.{decode_pair-of-halves}
use Rattle.std.proofs.Common.{arith}
use Rattle.uri_query.proofs.pairs.pair_of.Goals as goal

pub returns : goal.returns
returns g c = grind (arith, decode_pair-of-halves)
