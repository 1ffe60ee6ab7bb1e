use Rattle.uri_pct.proofs.Common.{arith}
use Rattle.uri_pct.proofs.ValidTexts.PrefixSteps.{valid_prefix_at_end_is_empty}
use Rattle.uri_pct.proofs.table.Table.scan_mixed_runs.Goals as goal

pub loop-i-preserved : goal.loop-i-preserved
loop-i-preserved c = grind arith

pub returns-after-loop-i-clause-end : goal.returns-after-loop-i-clause-end
returns-after-loop-i-clause-end c = grind (arith, valid_prefix_at_end_is_empty)

pub returns-then-end-i-clause-end : goal.returns-then-end-i-clause-end
returns-then-end-i-clause-end c = grind arith
