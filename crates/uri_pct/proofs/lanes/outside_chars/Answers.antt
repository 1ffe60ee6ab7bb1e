use Rattle.uri_pct.proofs.Common.{◌≡◌, ◌+◌, ◌≤◌, Bool, true, false, not, eqb, length, refl, sym, ap, subst, ◌∙◌, arith, bit_and, w64, ◌&&◌, ◌||◌, slice_index, nat_le, bit_not, and_le_l, has_bit}
use Rattle.uri_pct.proofs.TableSets.Masks.{bit_of_bit_and_not}
use Rattle.uri_pct.proofs.LaneScans.LaneRuns.{MarksFailingLanes, load_mask_marks_failing_lanes}
use Rattle.uri_pct.proofs.LaneScans.LaneBits.{is_set_bit, mask_bit_is_test_of_byte, mask_bit_is_equality_of_byte}
use Rattle.uri_pct.proofs.lanes.outside_chars.Goals as goal

neither : (a b : Bool) → (not a && not b) ≡ not (a || b)
neither true b = refl
neither false b = refl

pub returns-clause-below : goal.returns-clause-below
returns-clause-below c =
    let below = (subst (MarksFailingLanes (has_bit c.args.low c.args.high) c.args.bytes.now
    c.args.at 16)
    (sym c.outside.ensures) (load_mask_marks_failing_lanes _ c.args.bytes.now c.args.at 16
    c.requires)).below in
    omega (
      arith,
      below,
      and_le_l c.outside.result (bit_not w64 (bit_and (bit_and c.lanes_at_most-low_bytes.result
          (bit_not w64 c.lanes_at_most-ascii.result)) (bit_not w64 c.lanes_equal_to.result))),
    )

pub returns-clause-lane : goal.returns-clause-lane
returns-clause-lane c k h =
    let bs = c.args.bytes.now in
    let i = c.args.at in
    let room : i + 16 ≤ length bs = c.requires in
    let b = slice_index bs (i + k) in
    let from = c.lanes_at_most-low_bytes.result in
    let others = c.lanes_at_most-ascii.result in
    let c2 = c.lanes_equal_to.result in
    let past = bit_and from (bit_not w64 others) in
    let is_from : is_set_bit from k ≡ nat_le b 237 =
    ap (λ m. is_set_bit m k) c.lanes_at_most-low_bytes.ensures
    ∙ mask_bit_is_test_of_byte (λ x. nat_le x 237) bs i k room h in
    let is_other : is_set_bit others k ≡ nat_le b 127 =
    ap (λ m. is_set_bit m k) c.lanes_at_most-ascii.ensures
    ∙ mask_bit_is_test_of_byte (λ x. nat_le x 127) bs i k room h in
    let is_c2 : is_set_bit c2 k ≡ eqb b 194 = grind (arith, mask_bit_is_equality_of_byte) in
    let is_out : is_set_bit c.outside.result k ≡ not (has_bit c.args.low c.args.high b) =
    ap (λ m. is_set_bit m k) c.outside.ensures
    ∙ mask_bit_is_test_of_byte (λ x. not (has_bit c.args.low c.args.high x)) bs i k room h in
    let is_part : is_set_bit (bit_and past (bit_not w64 c2)) k ≡ ((nat_le b 237
    && not (nat_le b 127)) && not (eqb b 194)) = grind (arith, bit_of_bit_and_not) in
    grind (arith, bit_of_bit_and_not, and_le_l, neither)
