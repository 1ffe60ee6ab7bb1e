use Rattle.uri_pct.proofs.Common.{◌≡◌, ◌+◌, ◌/◌, ◌^◌, ◌<◌, ◌≤◌, ℕ, true, false, not, length, subst, sym, ap, ◌∙◌, arith, bit_and, bit_or, w64, get_or, slice_index, is_ascii_hexdigit, or_lt, and_from, and_parts, or_from, eq-eqb, eqb-true, bit_at, bit_not, HEXDIG_LOW, HEXDIG_HIGH, has_hex_digits_after, has_bit}
use Rattle.uri_pct.proofs.LaneScans.LaneRuns.{load_mask_marks_failing_lanes, MarksFailingLanes}
use Rattle.uri_pct.proofs.LaneScans.LaneBits.{mask_bit_is_equality_of_byte, equality_mask_is_below_2_16, is_set_bit, bit_of_right_shift, low_bit_of_left_shift_is_clear, mask_bit_is_test_of_byte}
use Rattle.uri_pct.proofs.LaneScans.OctetLanes.{octet_begins_at_set_lane}
use Rattle.uri_pct.proofs.TableSets.Constants.{hexdig_masks_are_hexdig_set}
use Rattle.uri_pct.proofs.TableSets.Masks.{bit_of_bit_or, bit_of_bit_and_not}
use Rattle.uri_pct.proofs.lanes.octet_starts.Goals as goal

pub returns-clause-starts : goal.returns-clause-starts
returns-clause-starts c k =
    let bs = c.args.bytes.now in
    let i = c.args.at in
    let others = c.args.no_digits in
    let room : i + 16 ≤ length bs = c.requires.room in
    subst (λ m. bit_at (bit_and m
    (bit_not w64 (bit_or (bit_or others 196608 / 2) (bit_or others 196608 / 4)))) k ≡ 1
    → (k + 3 ≤ 16) × (slice_index bs (i + k) ≡ 37) × (has_hex_digits_after bs (i + k) ≡ true))
    (sym c.lanes_equal_to-percents.ensures)
    (octet_begins_at_set_lane bs i _ others (λ j h. mask_bit_is_equality_of_byte 37 bs i j room h)
    (equality_mask_is_below_2_16 37 bs i room)
    (subst (MarksFailingLanes (has_bit HEXDIG_LOW HEXDIG_HIGH) bs i 16)
    (sym c.requires.no_digits) (load_mask_marks_failing_lanes _ bs i 16 room)) k)

-- a lane is set whose byte is a `%` before two hexadecimal digits
set_lane : (percents others k : ℕ) → others < 2 ^ 16 → k + 3 ≤ 16 → is_set_bit percents k ≡ true
    → is_set_bit others (1 + k) ≡ false → is_set_bit others (2 + k) ≡ false
    → is_set_bit (bit_and percents (bit_not w64
    (bit_or (bit_or others 196608 / 2) (bit_or others 196608 / 4)))) k ≡ true
set_lane percents others k below room percent first second =
    let all = bit_or others 196608 in
    let wide : all < 2 ^ 64 = or_lt 64 others 196608 (omega (arith, below)) (omega arith) in
    let clear : (s : ℕ) → s + k < 16 → is_set_bit others (s + k) ≡ false → is_set_bit (all
    / 2 ^ s) k ≡ false = λ s h e. bit_of_right_shift all s k ∙ bit_of_bit_or others 196608 (s + k)
    ∙ or_from _ _ e (low_bit_of_left_shift_is_clear 3 16 (s + k) (omega arith) h) in
    bit_of_bit_and_not percents (bit_or (all / 2) (all / 4)) k
    (or_lt 64 (all / 2) (all / 4) (omega arith) (omega arith)) (omega arith)
    ∙ and_from _ _ percent (ap not (bit_of_bit_or (all / 2) (all / 4) k
    ∙ or_from _ _ (clear 1 (omega arith) first) (clear 2 (omega arith) second)))

pub returns-clause-all : goal.returns-clause-all
unfolding has_hex_digits_after
returns-clause-all c k h percent digits =
    let bs = c.args.bytes.now in
    let i = c.args.at in
    let others = c.args.no_digits in
    let room : i + 16 ≤ length bs = c.requires.room in
    let marks = subst (MarksFailingLanes (has_bit HEXDIG_LOW HEXDIG_HIGH) bs i 16)
    (sym c.requires.no_digits) (load_mask_marks_failing_lanes _ bs i 16 room) in
    let digit : (j : ℕ) → j < 16 → is_ascii_hexdigit (get_or bs (i + j) 0) ≡ true → is_set_bit
    others j ≡ false = grind (arith, mask_bit_is_test_of_byte, hexdig_masks_are_hexdig_set) in
    let both = and_parts _ _ digits in
    eqb-true _ _ (set_lane c.lanes_equal_to-percents.result others k marks.below h
    (ap (λ m. is_set_bit m k) c.lanes_equal_to-percents.ensures
    ∙ mask_bit_is_equality_of_byte 37 bs i k room (omega arith) ∙ eq-eqb _ _ percent) (digit (1 + k)
    (omega arith) (ap (λ m. is_ascii_hexdigit (get_or bs m 0)) (omega arith) ∙ both.0)) (digit (2
    + k) (omega arith) (ap (λ m. is_ascii_hexdigit (get_or bs m 0)) (omega arith) ∙ both.1)))
