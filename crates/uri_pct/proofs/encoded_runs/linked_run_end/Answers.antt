use Rattle.uri_pct.proofs.Common.{◌+◌, ◌-◌, ℕ, length, arith, IsByteOfEncodedText, set_of}
use Rattle.uri_pct.proofs.LaneScans.ShiftedLanes as ShiftedLanes
use Rattle.uri_pct.proofs.encoded_runs.linked_run_end.Goals as goal

-- in the first block that has one, the run ends at the first byte that is in no encoded text
pub returns-then-mask-ne0 : goal.returns-then-mask-ne0
returns-then-mask-ne0 c =
    let i = c.loop-i.i in
    let o = c.outside_encoded_block-mask in
    let linked = IsByteOfEncodedText (set_of c.args.table.now).ascii c.args.bytes.now in
    let first = ShiftedLanes.first_set_lane linked i o.result o.ensures.below o.ensures.lane
    c.if-mask-ne0.true in
    record {
      from = omega (arith, c.loop-i.invariant.from);
      within = omega (arith, c.loop-i.invariant.within, c.loop-i-test.true, first.0);
      linked = ShiftedLanes.adjacent_ranges_join linked c.args.start i _ c.loop-i.invariant.linked
          first.1;
    }

pub loop-i-preserved : goal.loop-i-preserved
loop-i-preserved c =
    let i = c.loop-i.i in
    let o = c.outside_encoded_block-mask in
    let linked = IsByteOfEncodedText (set_of c.args.table.now).ascii c.args.bytes.now in
    record {
      from = omega (arith, c.loop-i.invariant.from);
      within = omega (arith, c.loop-i.invariant.within, c.loop-i-test.true);
      linked = ShiftedLanes.adjacent_ranges_join linked c.args.start i
          (i + 16) c.loop-i.invariant.linked (ShiftedLanes.empty_mask_holds linked
          i o.result o.ensures.below o.ensures.lane (omega (arith, c.if-mask-ne0.false)));
    }

-- the last block has none
pub returns-then-mask-eq0 : goal.returns-then-mask-eq0
returns-then-mask-eq0 c =
    let i = c.loop-i.i in
    let last : ℕ = length c.args.bytes.now - 16 in
    let o = c.outside_encoded_block-tail in
    let linked = IsByteOfEncodedText (set_of c.args.table.now).ascii c.args.bytes.now in
    record {
      from = omega (arith, c.requires.within);
      within = omega arith;
      linked = ShiftedLanes.adjacent_ranges_join linked c.args.start i _ c.loop-i.invariant.linked
          (λ x from to. ShiftedLanes.empty_shifted_mask_holds linked last (i - last) o.result
          (omega (arith, c.loop-i.invariant.within)) o.ensures.below o.ensures.lane
          c.if-mask-eq0.true x
          (omega (arith, from, c.loop-i-test.false)) (omega (arith, to, c.requires.long)));
    }

-- the last block has one
pub returns : goal.returns
returns c =
    let i = c.loop-i.i in
    let last : ℕ = length c.args.bytes.now - 16 in
    let o = c.outside_encoded_block-tail in
    let linked = IsByteOfEncodedText (set_of c.args.table.now).ascii c.args.bytes.now in
    let first = ShiftedLanes.first_set_shifted_lane linked last (i - last) o.result
    (omega (arith, c.loop-i.invariant.within)) o.ensures.below o.ensures.lane c.if-mask-eq0.false in
    record {
      from = omega (arith, c.loop-i.invariant.from);
      within = omega (arith, first.0, c.requires.long, c.loop-i-test.false);
      linked = ShiftedLanes.adjacent_ranges_join linked c.args.start i _ c.loop-i.invariant.linked
          (λ x from to. first.1 x (omega (arith, from, c.loop-i-test.false))
          (omega (arith, to, c.loop-i-test.false)));
    }
