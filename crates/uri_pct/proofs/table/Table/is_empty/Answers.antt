use Rattle.uri_pct.proofs.Common.{arith}
use Rattle.uri_pct.proofs.TableSets.Tables.{clear_masks_are_empty_set, empty_set_has_clear_masks}
use Rattle.uri_pct.proofs.table.Table.is_empty.Goals as goal

pub returns : goal.returns
returns c = grind (arith, clear_masks_are_empty_set, empty_set_has_clear_masks)
