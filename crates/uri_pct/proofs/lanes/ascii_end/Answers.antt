use Rattle.uri_pct.proofs.Common.{arith}
use Rattle.uri_pct.proofs.TableSets.Masks.{has_bit-full-masks}
use Rattle.uri_pct.proofs.lanes.ascii_end.Goals as goal

pub returns : goal.returns
returns c = grind (arith, has_bit-full-masks)
