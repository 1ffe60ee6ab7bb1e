use Rattle.uri_pct.proofs.Common.{arith, refl, rules, has_bit}
use Rattle.uri_pct.proofs.LaneScans.LaneMasks.{index_of_mask_byte_is_small}
use Rattle.uri_pct.proofs.LaneScans.LaneBits.{trailing_zeros_is_first_set_lane}
use Rattle.uri_pct.proofs.LaneScans.BlockOctets.{MarksFailingLanesFrom, run_goes_on_to_end, run_ends_at_first_marked_byte, passing_bytes_are_characters, first_of_lower_lanes, first_of_last_lanes, no_lane_of_both_parts, digits_of_octet_are_unmarked, start_is_within_block, block_without_left_lanes, first_left_lane_fails, bytes_before_left_lanes, left_percent_is_stray}
use Rattle.uri_pct.proofs.lanes.first_run_end.Goals as goal
use Rattle.uri_pct.proofs.lanes.first_run_end.Goals.{Else-mask-eq0}

marks : (c : Else-mask-eq0) → MarksFailingLanesFrom (has_bit c.args.low c.args.high)
    c.args.bytes.now c.args.start c.first_block_outside-block.result.0
    c.first_block_outside-block.result.1
marks c = grind arith

-- no byte is outside the set
pub returns-then-mask-eq0 : goal.returns-then-mask-eq0
returns-then-mask-eq0 c =
    let b = c.first_block_outside-block.ensures in
    let run = run_goes_on_to_end _ _ _ _ _
    (record { below = b.below; lane = b.lane; before = b.before })
    c.if-mask-eq0.true (b.last c.if-mask-eq0.true) c.requires.within in
    record {
      from = run.from;
      within = run.within;
      allowed = passing_bytes_are_characters _ _ _ _ run;
      ends = λ _. refl;
      plain = λ _. run;
      outside = λ _ h. absurd (omega arith);
      stray = λ _ _ h _. absurd (omega arith);
    }

-- the first byte outside the set
pub bounds-bytes-first : goal.bounds-bytes-first
bounds-bytes-first c = grind (arith, trailing_zeros_is_first_set_lane)

pub returns-then-bytes-first-ne37 : goal.returns-then-bytes-first-ne37
returns-then-bytes-first-ne37 c =
    let m = marks (goal.at.returns-then-bytes-first-ne37 c).Else-mask-eq0 in
    let run = run_ends_at_first_marked_byte _ _ _ _ _ m c.if-mask-eq0.false
    c.first_block_outside-block.ensures.room in
    grind (arith, passing_bytes_are_characters)

-- the keys of the block are those of its bytes
pub outside_by_keys-no_digits-requires : goal.outside_by_keys-no_digits-requires
outside_by_keys-no_digits-requires c k h = grind (arith, index_of_mask_byte_is_small)

-- an octet's digits are not among the bytes outside a set that has all digits
pub lanes_outside_octets-open-requires-clause-digits
    : goal.lanes_outside_octets-open-requires-clause-digits
lanes_outside_octets-open-requires-clause-digits c = λ all k octet.
    let at = goal.at.lanes_outside_octets-open-requires-clause-digits c in
    let starts = c.octet_starts.ensures.starts k octet in
    digits_of_octet_are_unmarked _ _ _ _ _ (marks at.Else-mask-eq0) all k starts.0 starts.2

-- the first lane outside the set and octets is before the last two lanes
pub returns-then-certain-ne0 : goal.returns-then-certain-ne0
returns-then-certain-ne0 c =
    let m = marks (goal.at.returns-then-certain-ne0 c).Else-mask-eq0 in
    let s = c.octet_starts in
    let o = c.lanes_outside_octets-open in
    let first = first_of_lower_lanes o.result o.ensures.below c.if-certain-ne0.true in
    let fails = first_left_lane_fails _ _ _ _ _ m s.result o.result c.if-mask-eq0.false
    s.ensures.starts s.ensures.all o.ensures.lane _ first.1 in
    record {
      from = fails.0;
      within = omega (arith, c.first_block_outside-block.ensures.room, first.0);
      allowed = bytes_before_left_lanes _ _ _ _ _ m s.result o.result c.if-mask-eq0.false
          s.ensures.starts s.ensures.all o.ensures.lane _ first.1;
      ends = λ _. refl;
      plain = search rules;
      outside = λ _ _. fails.1;
      stray = λ _ _ _. left_percent_is_stray _ _ _ _ _ m s.result o.result c.if-mask-eq0.false
          s.ensures.starts s.ensures.all o.ensures.lane _ first.1 first.0;
    }

-- there is none
pub returns-then-last-eq0 : goal.returns-then-last-eq0
returns-then-last-eq0 c =
    let m = marks (goal.at.returns-then-last-eq0 c).Else-mask-eq0 in
    let s = c.octet_starts in
    let o = c.lanes_outside_octets-open in
    record {
      from = start_is_within_block _ _ _ _ _ m s.result o.result c.if-mask-eq0.false
          s.ensures.starts s.ensures.all o.ensures.lane;
      within = search rules;
      allowed = block_without_left_lanes _ _ _ _ _ m s.result o.result c.if-mask-eq0.false
          s.ensures.starts s.ensures.all o.ensures.lane
          (no_lane_of_both_parts o.result c.if-certain-ne0.false c.if-last-eq0.true);
      ends = search rules;
      plain = search rules;
      outside = search rules;
      stray = search rules;
    }

-- it is one of the last two lanes
pub bounds-bytes-end : goal.bounds-bytes-end
bounds-bytes-end c = grind (arith, first_of_last_lanes)

pub returns : goal.returns
returns c =
    let m = marks (goal.at.returns c).Else-mask-eq0 in
    let s = c.octet_starts in
    let o = c.lanes_outside_octets-open in
    let first = first_of_last_lanes o.result o.ensures.below c.if-certain-ne0.false
    c.if-last-eq0.false in
    let fails = first_left_lane_fails _ _ _ _ _ m s.result o.result c.if-mask-eq0.false
    s.ensures.starts s.ensures.all o.ensures.lane _ first in
    record {
      from = fails.0;
      within = omega (arith, c.first_block_outside-block.ensures.room, first.within);
      allowed = bytes_before_left_lanes _ _ _ _ _ m s.result o.result c.if-mask-eq0.false
          s.ensures.starts s.ensures.all o.ensures.lane _ first;
      ends = search rules;
      plain = search rules;
      outside = λ _ _. fails.1;
      stray = search rules;
    }
