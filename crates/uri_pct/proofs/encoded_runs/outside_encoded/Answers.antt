use Rattle.uri_pct.proofs.Common.{◌+◌, ◌-◌, ◌≤◌, length, ap, arith, ◌∙◌, bit_and, bit_or, w64, bit_not, and_le_l, or_lt, HEXDIG_LOW, HEXDIG_HIGH, has_bit}
use Rattle.uri_pct.proofs.LaneScans.LaneRuns.{set_mask_marks_lanes_outside}
use Rattle.uri_pct.proofs.LaneScans.LaneBits.{is_set_bit, mask_bit_is_equality_of_byte}
use Rattle.uri_pct.proofs.LaneScans.LinkedLanes.{clear_lane_holds_byte_of_encoded_text}
use Rattle.uri_pct.proofs.encoded_runs.outside_encoded.Goals as goal

pub returns-clause-below : goal.returns-clause-below
returns-clause-below c =
    let bs = c.args.bytes.now in
    let misses = c.outside.result in
    let others = c.lanes_without_hex_digit.result in
    let percents = bit_not w64 c.lanes_equal_to-no_octet.result in
    let digits = bit_or c.lanes_equal_to.result c.lanes_equal_to-2.result in
    let set = set_mask_marks_lanes_outside c.args.low c.args.high bs c.args.at misses
    c.requires.within c.outside.ensures in
    let hex = set_mask_marks_lanes_outside HEXDIG_LOW HEXDIG_HIGH bs c.args.at
    others c.requires.within c.lanes_without_hex_digit.ensures in
    or_lt 16 (bit_and misses percents) (bit_and others digits)
    (omega (arith, set.below, and_le_l misses percents))
    (omega (arith, hex.below, and_le_l others digits))

pub returns-clause-lane : goal.returns-clause-lane
returns-clause-lane c n few clear =
    let bs = c.args.bytes.now in
    let i = c.args.at in
    let room : i + 16 ≤ length bs = c.requires.within in
    clear_lane_holds_byte_of_encoded_text (has_bit c.args.low c.args.high) bs i c.outside.result
    c.lanes_without_hex_digit.result c.lanes_equal_to-no_octet.result c.lanes_equal_to.result
    c.lanes_equal_to-2.result c.requires.before (set_mask_marks_lanes_outside c.args.low
    c.args.high bs i c.outside.result room c.outside.ensures)
    (set_mask_marks_lanes_outside HEXDIG_LOW HEXDIG_HIGH bs i c.lanes_without_hex_digit.result
    room c.lanes_without_hex_digit.ensures) c.lanes_equal_to-no_octet.type_inv
    (λ k h. ap (λ m. is_set_bit m k) c.lanes_equal_to-no_octet.ensures
    ∙ mask_bit_is_equality_of_byte 37 bs i k room h)
    (λ k h. ap (λ m. is_set_bit m k) c.lanes_equal_to.ensures
    ∙ mask_bit_is_equality_of_byte 37 bs (i - 1) k (omega (arith, room)) h)
    (λ k h. ap (λ m. is_set_bit m k) c.lanes_equal_to-2.ensures
    ∙ mask_bit_is_equality_of_byte 37 bs (i - 2) k (omega (arith, room)) h) n few clear
