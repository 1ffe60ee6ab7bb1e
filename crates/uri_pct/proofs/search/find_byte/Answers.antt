use Rattle.uri_pct.proofs.Common.{◌≡◌, ◌≤◌, ◌+◌, ◌==◌, ℕ, List, length, map, not, arith, sym, ap, subst, ◌∙◌, mask_l, chunk}
use Rattle.uri_pct.proofs.General.{twice_negated_is_the_same}
use Rattle.uri_pct.proofs.LaneScans.LaneRuns.{MarksFailingLanes, load_mask_marks_failing_lanes, run_goes_on_past_unmarked_lanes, run_ends_at_first_marked_lane}
use Rattle.uri_pct.proofs.search.find_byte.Goals as goal

-- what the mask of sixteen bytes says
block : (byte : ℕ) (bs : List ℕ) (i mask : ℕ) → i + 16 ≤ length bs
    → mask ≡ mask_l (map (λ b. b == byte) (chunk i 16 bs))
    → MarksFailingLanes (λ b. not (b == byte)) bs i 16 mask
block byte bs i mask room e =
    let same = ap (λ f. mask_l (map f (chunk i 16 bs)))
    (λ i b. twice_negated_is_the_same (b == byte) i) in
    subst (MarksFailingLanes (λ b. not (b == byte)) bs i 16) (sym (e ∙ same))
    (load_mask_marks_failing_lanes (λ b. not (b == byte)) bs i 16 room)

pub returns-then-mask-ne0 : goal.returns-then-mask-ne0
returns-then-mask-ne0 c =
    let bs = c.args.bytes.now in
    let i = c.loop-i.i in
    let room : i + 16 ≤ length bs = omega (arith, c.loop-i.invariant.within, c.loop-i-test.true) in
    let marks = block c.args.byte bs i _ room c.lanes_equal_to-mask.ensures in
    run_ends_at_first_marked_lane _ bs c.args.start i 16 _ marks c.loop-i.invariant.pass
    (omega (arith, c.if-mask-ne0.true)) (omega arith) c.loop-i.invariant.from room

pub loop-i-preserved : goal.loop-i-preserved
loop-i-preserved c =
    let bs = c.args.bytes.now in
    let i = c.loop-i.i in
    let room : i + 16 ≤ length bs = omega (arith, c.loop-i.invariant.within, c.loop-i-test.true) in
    let marks = block c.args.byte bs i _ room c.lanes_equal_to-mask.ensures in
    record {
      from = omega (arith, c.loop-i.invariant.from);
      within = room;
      pass = run_goes_on_past_unmarked_lanes _ bs c.args.start i 16 _ marks c.loop-i.invariant.pass
          (omega (arith, c.if-mask-ne0.false));
    }
