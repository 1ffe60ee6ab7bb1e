use Rattle.uri_ops.proofs.Common.{◌≡◌, ◌≤◌, ◌<◌, ◌+◌, ◌-◌, ◌^◌, drop, inr, length, ap, subst, sym, ◌∙◌, arith, equality_mask_is_below_2_16, has_slash}
use Rattle.uri_ops.proofs.Paths.LastSlashes.{prefix-to-last-slash}
use Rattle.uri_ops.proofs.Paths.SlashBlocks.{last-lane-of-block-is-last-slash, zero-mask-block-extends-slashless-suffix}
use Rattle.uri_ops.proofs.path.dot_segments.last_slash.Goals as goal

pub last_lane-requires-clause-below : goal.last_lane-requires-clause-below
last_lane-requires-clause-below c =
    let block = c.loop-left.left - 16 in
    let room : block + 16 ≤ length c.args.bytes.now =
    omega (arith, c.loop-left-test.true, c.loop-left.invariant.within) in
    subst (λ m. m < 2 ^ 16) (sym c.lanes_equal_to-mask.ensures)
    (equality_mask_is_below_2_16 47 c.args.bytes.now block room)

pub returns-then-mask-ne0 : goal.returns-then-mask-ne0
returns-then-mask-ne0 c =
    let bytes = c.args.bytes.now in
    let block = c.loop-left.left - 16 in
    let lane = c.last_lane.result in
    let all : block + 16 ≡ c.loop-left.left = omega (arith, c.loop-left-test.true) in
    let room : block + 16 ≤ length bytes = omega (arith, all, c.loop-left.invariant.within) in
    let found = last-lane-of-block-is-last-slash bytes block c.lanes_equal_to-mask.result lane room
    c.lanes_equal_to-mask.ensures c.last_lane.ensures.within c.last_lane.ensures.lane
    c.last_lane.ensures.above
    (ap (λ n. has_slash (drop n bytes)) all ∙ c.loop-left.invariant.none) in
    let from : c.args.start ≤ block + lane = omega (arith, c.loop-left-test.true) in
    let within : block + lane < length bytes = omega (arith, room, c.last_lane.ensures.within) in
    record {
      prefix = prefix-to-last-slash bytes c.args.start (block + lane) from within found.0 found.1;
      last = found.1;
      place = (from, inr (within, found.0));
    }

pub loop-left-preserved : goal.loop-left-preserved
loop-left-preserved c = grind (arith, zero-mask-block-extends-slashless-suffix)
