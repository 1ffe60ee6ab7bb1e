use Rattle.uri_pct.proofs.Common.{sym, ◌∙◌}
use Rattle.uri_pct.proofs.TableSets.Masks.{has_bit-only-ascii}
use Rattle.uri_pct.proofs.table.Table.allows_ascii.Goals as goal

pub returns-clause-ascii : goal.returns-clause-ascii
returns-clause-ascii c = λ h. has_bit-only-ascii _ _ _ (sym c.holds.ensures ∙ h)
