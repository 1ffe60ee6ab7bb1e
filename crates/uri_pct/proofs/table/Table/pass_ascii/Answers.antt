use Rattle.uri_pct.proofs.Common.{◌≡◌, ◌+◌, ℕ, List, drop, arith, IsCharBoundary, IsUtf8, Table, IsLongestRun, has_bit, valid_prefix, set_of}
use Rattle.uri_pct.proofs.LaneScans.AsciiRuns.{ascii_run_is_scanned}
use Rattle.uri_pct.proofs.TableSets.Masks.{has_bit-only-ascii}
use Rattle.uri_pct.proofs.TableSets.Percent.{lacks_percent}
use Rattle.uri_pct.proofs.table.Table.pass_ascii.Goals as goal

run_is_scanned : (table : Table) (low high : ℕ) → has_bit low high ≡ (set_of table).ascii
    → (bytes text : List ℕ) → bytes ≡ text → IsUtf8 text → (start end : ℕ)
    → IsCharBoundary text start → IsLongestRun (has_bit low high) bytes start end
    → (end + valid_prefix (set_of table) (drop end text)
    ≡ start + valid_prefix (set_of table) (drop start text)) × IsCharBoundary text end
run_is_scanned table low high ascii bytes text same utf8 start end here run =
    let scanned = ascii_run_is_scanned (set_of table)
    (lacks_percent table) (has_bit-only-ascii _ _) text utf8 start here end (grind arith) in
    (scanned.0, scanned.1)

pub returns-then-this-clause-total : goal.returns-then-this-clause-total
returns-then-this-clause-total c = grind (arith, run_is_scanned)

pub returns-then-this-clause-boundary : goal.returns-then-this-clause-boundary
returns-then-this-clause-boundary c = (run_is_scanned c.args.self.now _ _ c.masks-low.ensures
    _ _ c.as_bytes-bytes.ensures.value c.utf8.text _ _ c.requires c.run_end.ensures).1

pub returns-then-is_constant-clause-total : goal.returns-then-is_constant-clause-total
returns-then-is_constant-clause-total c = grind (arith, run_is_scanned)

pub returns-then-is_constant-clause-boundary : goal.returns-then-is_constant-clause-boundary
returns-then-is_constant-clause-boundary c = (run_is_scanned c.args.self.now _ _ c.masks-low.ensures
    _ _ c.as_bytes-bytes.ensures.value c.utf8.text _ _ c.requires c.run_end_by_members.ensures).1

pub returns-else-is_constant-clause-total : goal.returns-else-is_constant-clause-total
returns-else-is_constant-clause-total c = grind (arith, run_is_scanned)

pub returns-else-is_constant-clause-boundary : goal.returns-else-is_constant-clause-boundary
returns-else-is_constant-clause-boundary c = (run_is_scanned c.args.self.now _ _ c.masks-low.ensures
    _ _ c.as_bytes-bytes.ensures.value c.utf8.text _ _ c.requires c.run_end_by_words.ensures).1
