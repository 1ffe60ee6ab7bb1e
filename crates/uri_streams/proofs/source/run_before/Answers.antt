use Rattle.std.proofs.Common.{◌≡◌, ◌+◌, ◌-◌, ◌≤◌, ◌<◌, not, List, ℕ, length, get_or, arith, ◌^◌}
use Rattle.uri_streams.proofs.source.run_before.Invariants.{is_inside}
use Rattle.uri_pct.proofs.Offered.{bit_is_failing_test, MarksFailingLanes, last_load_marks_failing_lanes, run_goes_on_past_unmarked_lanes, run_ends_at_first_marked_lane, is_set_bit}
use Rattle.uri_streams.proofs.source.run_before.Goals as goal

-- what a block's mask says
block : (end : ℕ) (bs : List ℕ) (i mask : ℕ) → mask < 2 ^ 16
    → ((k : ℕ) → k < 16 → is_set_bit mask k ≡ not (is_inside end (get_or bs (i + k) 0)))
    → MarksFailingLanes (is_inside end) bs i 16 mask
block end bs i mask below lane = grind (arith, bit_is_failing_test)

pub returns-then-mask-ne0 : goal.returns-then-mask-ne0
returns-then-mask-ne0 c =
    let bs = c.args.bytes.now in
    let i = c.loop-i.i in
    let room : i + 16 ≤ length bs = omega (arith, c.loop-i.invariant.within, c.loop-i-test.true) in
    let lanes = c.lanes_outside-mask.ensures in
    run_ends_at_first_marked_lane _ bs 0 i 16 _
    (block c.args.end bs i _ lanes.below lanes.lane) c.loop-i.invariant.pass
    (omega (arith, c.if-mask-ne0.true)) (omega arith) c.loop-i.invariant.from room

pub loop-i-preserved : goal.loop-i-preserved
loop-i-preserved c =
    let bs = c.args.bytes.now in
    let i = c.loop-i.i in
    let lanes = c.lanes_outside-mask.ensures in
    record {
      from = omega (arith, c.loop-i.invariant.from);
      within = omega (arith, c.loop-i.invariant.within, c.loop-i-test.true);
      pass = run_goes_on_past_unmarked_lanes _ bs 0 i 16 _
          (block c.args.end bs i _ lanes.below lanes.lane) c.loop-i.invariant.pass
          (omega (arith, c.if-mask-ne0.false));
    }

pub returns-then-mask-eq0 : goal.returns-then-mask-eq0
returns-then-mask-eq0 c =
    let bs = c.args.bytes.now in
    let i = c.loop-i.i in
    let lanes = c.lanes_outside-tail.ensures in
    let m = last_load_marks_failing_lanes _ bs i c.lanes_outside-tail.result (omega arith)
    c.loop-i.invariant.within (omega (arith, c.loop-i.invariant.within, c.loop-i-test.false))
    (block c.args.end bs (length bs - 16) _ lanes.below lanes.lane) in
    record {
      from = omega arith;
      within = omega arith;
      pass = λ k from to. run_goes_on_past_unmarked_lanes _ bs 0 i
          (length bs - i) _ m c.loop-i.invariant.pass
          c.if-mask-eq0.true k from (omega (arith, c.loop-i.invariant.within));
      stop = λ h. absurd (omega arith);
    }

pub returns : goal.returns
returns c =
    let bs = c.args.bytes.now in
    let i = c.loop-i.i in
    let lanes = c.lanes_outside-tail.ensures in
    let m = last_load_marks_failing_lanes _ bs i c.lanes_outside-tail.result (omega arith)
    c.loop-i.invariant.within (omega (arith, c.loop-i.invariant.within, c.loop-i-test.false))
    (block c.args.end bs (length bs - 16) _ lanes.below lanes.lane) in
    run_ends_at_first_marked_lane _ bs 0 i (length bs - i) _ m c.loop-i.invariant.pass
    (omega (arith, c.if-mask-eq0.false)) (omega (arith, c.loop-i-test.false))
    c.loop-i.invariant.from (omega (arith, c.loop-i.invariant.within))
