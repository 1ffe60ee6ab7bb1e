use Rattle.uri_pct.proofs.Common.{arith}
use Rattle.uri_pct.proofs.TableSets.Masks.{has_bit_of_percent_is_bit_of_low}
use Rattle.uri_pct.proofs.table.Table.of_parts.Goals as goal

pub invariant_of-result : goal.invariant_of-result
invariant_of-result c = grind (arith, has_bit_of_percent_is_bit_of_low)
