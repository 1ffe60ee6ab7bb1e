use Rattle.uri_pct.proofs.Common.{arith, ◌∙◌, and_le_l}
use Rattle.uri_pct.proofs.TableSets.Constants.{hexdig_masks_are_hexdig_set}
use Rattle.uri_pct.proofs.TableSets.Masks.{bit_of_bit_and_not, has_bit_of_words_with_all_bits}
use Rattle.uri_pct.proofs.LaneScans.OctetLanes.{uncovered_lane_is_miss_outside_octets, miss_outside_digits_is_in_octet_that_begins_there}
use Rattle.uri_pct.proofs.lanes.lanes_outside_octets.Goals as goal

-- the set has all hexadecimal digits
pub returns-then-high-eq-HEXDIG_HIGH-clause-lane : goal.returns-then-high-eq-HEXDIG_HIGH-clause-lane
returns-then-high-eq-HEXDIG_HIGH-clause-lane c k h =
    bit_of_bit_and_not c.args.mask c.args.starts k c.ranges.starts.fits (omega (arith, h))
    ∙ miss_outside_digits_is_in_octet_that_begins_there c.args.mask c.args.starts k
    (grind (arith, has_bit_of_words_with_all_bits, hexdig_masks_are_hexdig_set))

pub returns-clause-lane : goal.returns-clause-lane
returns-clause-lane c k h = grind (arith, uncovered_lane_is_miss_outside_octets, and_le_l)
