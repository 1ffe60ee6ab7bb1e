use Rattle.uri_pct.proofs.Common.{arith, IsLongestRun, is_char_byte, set_of}
use Rattle.uri_pct.proofs.LaneScans.CharRuns.{char_run_is_scanned_from_start, char_run_ends_at_boundary}
use Rattle.uri_pct.proofs.TableSets.Masks.{has_bit-only-ascii}
use Rattle.uri_pct.proofs.TableSets.Percent.{lacks_percent}
use Rattle.uri_pct.proofs.ValidTexts.PrefixSteps.{valid_prefix_stops_at_ascii_outside_set}
use Rattle.uri_pct.proofs.scan.pass_chars.Goals as goal

run : (c : goal.After-char_run_end) → IsLongestRun (is_char_byte
    (set_of c.args.table.now).ascii) c.args.text.now c.args.start c.char_run_end.result
run c = grind arith

pub returns-clause-total : goal.returns-clause-total
returns-clause-total c =
    grind (arith, char_run_is_scanned_from_start, lacks_percent, has_bit-only-ascii)

pub returns-clause-boundary : goal.returns-clause-boundary
returns-clause-boundary c =
    grind (arith, char_run_ends_at_boundary, lacks_percent, has_bit-only-ascii)

pub returns-clause-stop : goal.returns-clause-stop
returns-clause-stop c = grind (arith, valid_prefix_stops_at_ascii_outside_set)
