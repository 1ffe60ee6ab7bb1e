use Rattle.uri_pct.proofs.Common.{◌≡◌, ◌+◌, ◌-◌, ◌*◌, ◌/◌, ◌%◌, ◌^◌, ◌<◌, ◌≤◌, ℕ, List, not, leb, length, map, get_or, arith, sym, ap, ◌∙◌, ◌&&◌, ⊎_elim, mask_l, chunk, cases_lt, and_right, le-leb, lt-leb, nat_tests, has_bit}
use Rattle.std.proofs.Math.Nat.{div-mul-le_self}
use Rattle.uri_pct.proofs.LaneScans.LaneRuns.{set_mask_marks_lanes_outside, run_goes_on_past_unmarked_lanes}
use Rattle.uri_pct.proofs.LaneScans.LaneBits.{is_set_bit, mask_bit_is_test_of_byte, bit_of_left_shift, bit_of_right_shift, low_bit_of_left_shift_is_clear}
use Rattle.uri_pct.proofs.lanes.first_block_outside.Goals as goal

lane : (low high : ℕ) (bs : List ℕ) (i mask k : ℕ) → i + 16 ≤ length bs
    → mask ≡ mask_l (map (λ b. not (has_bit low high b)) (chunk i 16 bs)) → k < 16
    → is_set_bit mask k ≡ not (has_bit low high (get_or bs (i + k) 0))
lane low high bs i mask k room e h = ap (λ m. is_set_bit m k) e
    ∙ mask_bit_is_test_of_byte (λ b. not (has_bit low high b)) bs i k room h

pub returns-then-mask-ne0-clause-below : goal.returns-then-mask-ne0-clause-below
returns-then-mask-ne0-clause-below c = (set_mask_marks_lanes_outside c.args.low
    c.args.high c.args.bytes.now c.loop-i.i c.outside-mask.result
    (omega (arith, c.loop-i.invariant.within, c.loop-i-test.true)) c.outside-mask.ensures).below

pub returns-then-mask-ne0-clause-lane : goal.returns-then-mask-ne0-clause-lane
returns-then-mask-ne0-clause-lane c k h = grind (arith, nat_tests, lane)

pub loop-i-preserved : goal.loop-i-preserved
loop-i-preserved c =
    let bs = c.args.bytes.now in
    let room : c.loop-i.i + 16 ≤ length bs =
    omega (arith, c.loop-i.invariant.within, c.loop-i-test.true) in
    record {
      from = omega (arith, c.loop-i.invariant.from);
      within = room;
      pass = run_goes_on_past_unmarked_lanes _ bs c.args.start c.loop-i.i 16 _
          (set_mask_marks_lanes_outside _ _ bs c.loop-i.i _ room c.outside-mask.ensures)
          c.loop-i.invariant.pass (omega (arith, c.if-mask-ne0.false));
    }

-- a mask without its first s bits
below : (n s : ℕ) → n < 2 ^ 16 → n / 2 ^ s * 2 ^ s % 2 ^ 64 < 2 ^ 16
below n s h = omega (arith, div-mul-le_self n (2 ^ s))

pub returns-clause-below : goal.returns-clause-below
returns-clause-below c =
    let bs = c.args.bytes.now in
    let last : ℕ = length bs - 16 in
    let marks = set_mask_marks_lanes_outside c.args.low c.args.high bs last c.outside-tail.result
    (omega (arith, c.requires.long)) c.outside-tail.ensures in
    below c.outside-tail.result (c.loop-i.i - last) marks.below

pub returns-clause-lane : goal.returns-clause-lane
returns-clause-lane c k h =
    let bs = c.args.bytes.now in
    let last : ℕ = length bs - 16 in
    let i = c.loop-i.i in
    let s : ℕ = i - last in
    let tail = c.outside-tail.result in
    let test = has_bit c.args.low c.args.high in
    let room : last + 16 ≤ length bs = omega (arith, c.requires.long) in
    let near : last ≤ i = omega (arith, c.loop-i-test.false) in
    let marked = lane c.args.low c.args.high bs last tail k room c.outside-tail.ensures h in
    ⊎_elim (λ (l : k < s). low_bit_of_left_shift_is_clear (tail / 2 ^ s) s k (omega arith) l
    ∙ sym (⊎_elim (λ (x : last + k < c.args.start). ap
    (λ b. b && not (test (get_or bs (last + k) 0))) (lt-leb c.args.start (last + k) x))
    (λ (x : c.args.start ≤ last + k). and_right (leb c.args.start (last + k)) _ (ap not
    (c.loop-i.invariant.pass (last + k) x (omega arith)))) (cases_lt (last + k) c.args.start)))
    (λ (l : s ≤ k). bit_of_left_shift (tail / 2 ^ s) s k (omega arith) l
    ∙ bit_of_right_shift tail s (k - s) ∙ ap (is_set_bit tail) (omega arith)
    ∙ marked ∙ ap (λ b. b && not (test (get_or bs (last + k) 0)))
    (sym (le-leb c.args.start (last + k) (omega (arith, c.loop-i.invariant.from))))) (cases_lt k s)
