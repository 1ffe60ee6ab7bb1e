use Rattle.uri_pct.proofs.Common.{◌≡◌, ◌+◌, ◌-◌, ◌<◌, ◌≤◌, ◌∙◌, ℕ, Bool, List, true, false, length, drop, eqb, get_or, arith, sym, subst, ⊎_elim, IsUtf8, IsCharBoundary, cases_Bool, AreCharactersOrOctets, IsLongestRun, valid_prefix, has_hex_digits_after, set_of, Table}
use Rattle.uri_pct.proofs.TableSets.Masks.{has_bit-only-ascii}
use Rattle.uri_pct.proofs.TableSets.Percent.{lacks_percent}
use Rattle.uri_pct.proofs.LaneScans.AsciiRuns.{ascii_run_is_scanned}
use Rattle.uri_pct.proofs.ValidTexts.PrefixSteps.{valid_prefix_stops_at_ascii_outside_set, valid_prefix_stops_at_stray_percent}
use Rattle.uri_pct.proofs.ValidTexts.ScannedRuns.{characters_and_octets_are_scanned}
use Rattle.uri_pct.proofs.table.Table.pass_encoded.Goals as goal
use Rattle.uri_pct.proofs.table.Table.pass_encoded.Goals.{then-i-bytes-via-then-i-bytes}

-- nothing is scanned at an ASCII byte outside the set at which no octet begins
stops : (t : Table) (text : List ℕ) (i : ℕ) → i < length text → get_or text i 0 < 128
    → (set_of t).ascii (get_or text i 0) ≡ false → (get_or text i 0 ≡ 37 → (set_of t).pct_encoded
    ≡ true → has_hex_digits_after text i ≡ false) → valid_prefix (set_of t) (drop i text) ≡ 0
stops t text i inside ascii outside stray =
    ⊎_elim (grind (arith, valid_prefix_stops_at_stray_percent, lacks_percent))
    (λ (e : eqb (get_or text i 0) 37 ≡ false). valid_prefix_stops_at_ascii_outside_set
    (set_of t) text i inside ascii e outside) (cases_Bool (eqb (get_or text i 0) 37))

pub returns-then-i-bytes-clause-stop : goal.returns-then-i-bytes-clause-stop
returns-then-i-bytes-clause-stop c = grind (arith, stops, then-i-bytes-via-then-i-bytes)

-- what the first block shows is scanned
scanned : (t : Table) (ascii : ℕ → Bool) (octets : Bool) (text bs : List ℕ) (start end : ℕ)
    → ascii ≡ (set_of t).ascii → octets ≡ (set_of t).pct_encoded
    → bs ≡ text → IsUtf8 text → IsCharBoundary text start → start ≤ end
    → end ≤ length bs → AreCharactersOrOctets ascii bs start (end - start) → (octets ≡ false
    → IsLongestRun ascii bs start end) → (end + valid_prefix (set_of t) (drop end text)
    ≡ start + valid_prefix (set_of t) (drop start text)) × IsCharBoundary text end
scanned t ascii octets text bs start end masks pct same u here from within are plain =
    let room : end ≤ length text = subst (λ b. end ≤ length b) same within in
    ⊎_elim (λ (o : octets ≡ true).
    let e : start + (end - start) ≡ end = omega (arith, from) in
    subst (λ n. (n + valid_prefix (set_of t) (drop n text)
    ≡ start + valid_prefix (set_of t) (drop start text)) × IsCharBoundary text n) e
    (characters_and_octets_are_scanned (set_of t) (lacks_percent t) (sym pct ∙ o)
    (has_bit-only-ascii t.low t.high) text start (end - start) (omega (arith, from, room)) u here
    (subst (λ f. AreCharactersOrOctets f text start (end - start)) masks
    (subst (λ b. AreCharactersOrOctets ascii b start (end - start)) same are))))
    (λ (o : octets ≡ false). ascii_run_is_scanned (set_of t) (lacks_percent t)
    (has_bit-only-ascii t.low t.high) text u start here end (subst (λ f. IsLongestRun f text start
    end) masks (subst (λ b. IsLongestRun ascii b start end) same (plain o)))) (cases_Bool octets)

pub returns-then-is_end-clause-total : goal.returns-then-is_end-clause-total
returns-then-is_end-clause-total c =
    let run = c.first_run_end-end.ensures in
    (scanned c.args.self.now _ _ c.args.text.now _ c.args.start c.first_run_end-end.result.0
    c.masks-low.ensures c.allows_pct_encoded-2.ensures c.as_bytes-bytes.ensures.value c.utf8.text
    c.requires run.from run.within run.allowed run.plain).0

pub returns-then-is_end-clause-boundary : goal.returns-then-is_end-clause-boundary
returns-then-is_end-clause-boundary c =
    let run = c.first_run_end-end.ensures in
    (scanned c.args.self.now _ _ c.args.text.now _ c.args.start c.first_run_end-end.result.0
    c.masks-low.ensures c.allows_pct_encoded-2.ensures c.as_bytes-bytes.ensures.value c.utf8.text
    c.requires run.from run.within run.allowed run.plain).1

pub returns-then-is_end-clause-stop : goal.returns-then-is_end-clause-stop
returns-then-is_end-clause-stop c = grind (arith, stops)

pub scan_octets-requires-2-clause-here : goal.scan_octets-requires-2-clause-here
scan_octets-requires-2-clause-here c =
    let run = c.first_run_end-end.ensures in
    (scanned c.args.self.now _ _ c.args.text.now _ c.args.start c.first_run_end-end.result.0
    c.masks-low.ensures c.allows_pct_encoded-2.ensures c.as_bytes-bytes.ensures.value c.utf8.text
    c.requires run.from run.within run.allowed run.plain).1

pub returns-clause-total : goal.returns-clause-total
returns-clause-total c =
    let run = c.first_run_end-end.ensures in
    grind (arith, scanned)
