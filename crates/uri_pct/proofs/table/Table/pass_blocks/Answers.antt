use Rattle.uri_pct.proofs.Common.{◌≡◌, ◌≤◌, ◌+◌, ◌-◌, ℕ, List, true, length, drop, subst, sym, arith, IsUtf8, IsCharBoundary, AreCharactersOrOctets, valid_prefix, set_of, Table}
use Rattle.uri_pct.proofs.TableSets.Masks.{has_bit-only-ascii}
use Rattle.uri_pct.proofs.TableSets.Percent.{lacks_percent}
use Rattle.uri_pct.proofs.ValidTexts.ScannedRuns.{characters_and_octets_are_scanned}
use Rattle.uri_pct.proofs.table.Table.pass_blocks.Goals as goal

-- a run that is as long as its end says
passed : (t : Table) (bs : List ℕ) (start end : ℕ)
    → t.pct_encoded ≡ true → IsUtf8 bs → IsCharBoundary bs start → start ≤ end → end ≤ length bs
    → AreCharactersOrOctets (set_of t).ascii bs start (end - start) → (end + valid_prefix (set_of t)
    (drop end bs) ≡ start + valid_prefix (set_of t) (drop start bs)) × IsCharBoundary bs end
passed t bs start end pct u here from within allowed =
    let e : start + (end - start) ≡ end = omega arith in
    subst (λ n. (n + valid_prefix (set_of t) (drop n bs)
    ≡ start + valid_prefix (set_of t) (drop start bs)) × IsCharBoundary bs n) e
    (characters_and_octets_are_scanned (set_of t) (lacks_percent t) pct
    (has_bit-only-ascii t.low t.high) bs start (end - start) (omega arith) u here allowed)

pub returns-clause-total : goal.returns-clause-total
returns-clause-total c = grind (arith, passed)

pub returns-clause-boundary : goal.returns-clause-boundary
returns-clause-boundary c =
    let run = c.encoded_run_end.ensures in
    let b = c.as_bytes-bytes in
    rw (← b.ensures.value)
    (passed c.args.self.now b.result.now c.args.start c.encoded_run_end.result
    c.requires.octets b.ensures.utf8 (subst (λ t. IsCharBoundary t c.args.start)
    (sym b.ensures.value) c.requires.here) run.from run.within run.allowed).1
