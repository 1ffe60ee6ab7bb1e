use Rattle.uri_ops.proofs.Common.{◌≡◌, ◌+◌, ◌-◌, ◌≤◌, ◌<◌, ◌^◌, not, true, List, ℕ, length, arith, w64, trailing_zeros, is_set_bit, IsLiteralRun, is_literal_at}
use Rattle.uri_ops.proofs.Normal.LiteralBlocks.{MarksIndices, first-bit-is-of-block, indices-before-first-bit-pass, indices-pass-where-mask-is-zero, shifted-mask-marks-later-indices}
use Rattle.uri_ops.proofs.normalize.unchanged_octets.literal_end.Goals as goal

-- what a block's mask says
block : (bs : List ℕ) (i mask : ℕ) → mask < 2 ^ 16 → ((k : ℕ) → k < 16 → is_set_bit mask k
    ≡ not (is_literal_at bs (i + k))) → MarksIndices (is_literal_at bs) i 16 mask
block bs i mask below lane = record { lane = lane; below = below }

pub loop-i-preserved : goal.loop-i-preserved
loop-i-preserved c =
    let bs = c.args.bytes.now in
    let i = c.loop-i.i in
    let lanes = c.lanes_of_special_bytes-mask.ensures in
    record {
      from = omega (arith, c.loop-i.invariant.from);
      within = omega (arith, c.loop-i.invariant.within, c.loop-i-test.true);
      pass = indices-pass-where-mask-is-zero _ c.args.start i 16 _
          (block bs i _ lanes.below lanes.lane) c.loop-i.invariant.pass
          (omega (arith, c.if-mask-ne0.false));
    }

pub returns-then-mask-eq0-clause-none : goal.returns-then-mask-eq0-clause-none
returns-then-mask-eq0-clause-none c = λ _ k from to.
    let bs = c.args.bytes.now in
    let i = c.loop-i.i in
    let lanes = c.lanes_of_special_bytes-tail.ensures in
    let within = c.loop-i.invariant.within in
    indices-pass-where-mask-is-zero _ c.args.start i _ _ (shifted-mask-marks-later-indices _
    (length bs - 16) i _ (omega (arith, within, c.loop-i-test.false))
    (omega (arith, within)) (block bs (length bs - 16) _ lanes.below lanes.lane))
    c.loop-i.invariant.pass c.if-mask-eq0.true k from (omega (arith, to, within))

module _ (bs : List ℕ) (start i w mask : ℕ) (m : MarksIndices (is_literal_at bs) i w mask)
    (pass : (k : ℕ) → start ≤ k → k < i → is_literal_at bs k ≡ true) (from : start ≤ i)
    (room : i + w ≤ length bs) (some : 0 < mask) (small : w ≤ 16) where
  -- the run ends at the first index of a block that its mask marks
  run-ends-at-first-bit : IsLiteralRun bs start (i + trailing_zeros w64 mask)
  run-ends-at-first-bit =
      let first = first-bit-is-of-block _ start i w mask m pass some small in
      record {
        from = omega (arith, from);
        within = omega (arith, first, room);
        pass = indices-before-first-bit-pass _ start i w mask m pass some small;
      }

pub returns-then-mask-ne0-clause-some : goal.returns-then-mask-ne0-clause-some
returns-then-mask-ne0-clause-some c =
    let bs = c.args.bytes.now in
    let i = c.loop-i.i in
    let lanes = c.lanes_of_special_bytes-mask.ensures in
    let some : 0 < c.lanes_of_special_bytes-mask.result = omega (arith, c.if-mask-ne0.true) in
    let room : i + 16 ≤ length bs = omega (arith, c.loop-i.invariant.within, c.loop-i-test.true) in
    let small : 16 ≤ 16 = omega arith in
    run-ends-at-first-bit bs c.args.start i 16 _ (block bs i _ lanes.below lanes.lane)
    c.loop-i.invariant.pass c.loop-i.invariant.from room some small

pub returns-clause-some : goal.returns-clause-some
returns-clause-some c =
    let bs = c.args.bytes.now in
    let i = c.loop-i.i in
    let lanes = c.lanes_of_special_bytes-tail.ensures in
    let within = c.loop-i.invariant.within in
    let later : length bs - 16 ≤ i = omega (arith, within, c.loop-i-test.false) in
    let near : i ≤ length bs - 16 + 16 = omega (arith, within) in
    let w : ℕ = length bs - 16 + 16 - i in
    let room : i + w ≤ length bs = omega (arith, within) in
    let small : w ≤ 16 = omega (arith, within, later) in
    run-ends-at-first-bit bs c.args.start i w _ (shifted-mask-marks-later-indices _
    (length bs - 16) i _ later near (block bs (length bs - 16) _ lanes.below lanes.lane))
    c.loop-i.invariant.pass c.loop-i.invariant.from room (omega (arith, c.if-mask-eq0.false)) small
