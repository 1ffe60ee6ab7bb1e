use Rattle.uri_pct.proofs.Common.{◌≡◌, ◌<◌, ◌≤◌, ◌∙◌, ◌||◌, ℕ, List, false, length, drop, get_or, arith, sym, ap, subst, ⊎_elim, slice_index, and_right, cond-false, ne_eqb, cases_lt, Table, valid_prefix, set_of}
use Rattle.uri_pct.specs.Models.Scans.{may_begin_octet_or_past_ascii}
use Rattle.uri_pct.proofs.TableSets.Masks.{has_bit_past_ascii_is_false}
use Rattle.uri_pct.proofs.ValidTexts.PrefixSteps.{valid_prefix_at_end_is_empty, valid_prefix_stops_where_none_may_begin}
use Rattle.uri_pct.proofs.TableSets.Percent.{lacks_percent}
use Rattle.uri_pct.proofs.table.Table.scan.Goals as goal
use Rattle.uri_pct.proofs.table.Table.scan.Goals.{then-run_end-bytes-via-then-run_end-bytes}

-- a character past ASCII, of which the table allows none
past_done : (t : Table) (bs : List ℕ) (i : ℕ) → i < length bs → 128 ≤ get_or bs i 0
    → ((set_of t).ucschar || (set_of t).iprivate) ≡ false → valid_prefix (set_of t) (drop i bs) ≡ 0
unfolding may_begin_octet_or_past_ascii
past_done t bs i inside past none = valid_prefix_stops_where_none_may_begin
    (set_of t) (lacks_percent t) bs i inside (has_bit_past_ascii_is_false t.low t.high _ past)
    (cond-false _ _ _ (ne_eqb (get_or bs i 0) 37 (λ e. omega arith)) ∙ and_right _ _ none)

pub returns-then-start-bytes-clause-end : goal.returns-then-start-bytes-clause-end
returns-then-start-bytes-clause-end c = grind (arith, valid_prefix_at_end_is_empty)

pub returns-then-not-allows_some_past_ascii-clause-end
    : goal.returns-then-not-allows_some_past_ascii-clause-end
returns-then-not-allows_some_past_ascii-clause-end c =
    let set = set_of c.args.self.now in
    let text = c.args.text.now in
    let end = c.pass_encoded-end.result in
    let same : c.as_bytes-bytes.result.now ≡ text = c.as_bytes-bytes.ensures.value in
    let within : end ≤ length text = c.pass_encoded-end.ensures.boundary.0 in
    let long : length c.as_bytes-bytes.result.now ≡ length text = ap length same in
    let e : valid_prefix set (drop end text) ≡ 0 = elim c.then-not-allows_some_past_ascii.branch [
      | goal.then-not-allows_some_past_ascii-via-then-not-allows_some_past_ascii w ↦ ⊎_elim
          (λ (inside : end < length text). ⊎_elim
          (λ (below : slice_index text end < 128). c.pass_encoded-end.ensures.stop inside below)
          (λ (past : 128 ≤ slice_index text end). past_done c.args.self.now text end inside past
          (sym c.allows_some_past_ascii.ensures ∙ w.if-not-allows_some_past_ascii.true))
          (cases_lt (slice_index text end) 128))
          (λ (over : length text ≤ end). valid_prefix_at_end_is_empty set text end over)
          (cases_lt end (length text))
      | goal.then-not-allows_some_past_ascii-via-else-not-allows_some_past_ascii+then-end-bytes w ↦
          valid_prefix_at_end_is_empty set text end (omega (arith, w.if-end-bytes.true, long))
      | goal.then-not-allows_some_past_ascii-via-else-not-allows_some_past_ascii+else-end-bytes+then-bytes-end-lt128 w ↦
          c.pass_encoded-end.ensures.stop (omega (arith, within, w.if-end-bytes.false, long))
          (subst (λ t. slice_index t end < 128) same w.if-bytes-end-lt128.true)
    ] in
    omega (arith, e, c.pass_encoded-end.ensures.total)

pub returns-then-run_end-bytes-clause-end : goal.returns-then-run_end-bytes-clause-end
returns-then-run_end-bytes-clause-end c =
    grind (arith, then-run_end-bytes-via-then-run_end-bytes, valid_prefix_at_end_is_empty)

pub scan_mixed_runs-requires-clause-percent : goal.scan_mixed_runs-requires-clause-percent
scan_mixed_runs-requires-clause-percent c =
    ap (λ s. s.ascii 37) c.parts-low.ensures ∙ lacks_percent c.args.self.now
