use Rattle.uri_pct.proofs.LaneScans.BlockOctets.{run_goes_on_to_end, run_ends_at_first_marked_byte}
use Rattle.uri_pct.proofs.Common.{arith}
use Rattle.uri_pct.proofs.lanes.run_end.Goals as goal

pub returns-then-mask-eq0 : goal.returns-then-mask-eq0
returns-then-mask-eq0 c =
    let block = c.first_block_outside-block in
    run_goes_on_to_end _ _ c.args.start block.result.0 block.result.1
    (grind arith) c.if-mask-eq0.true (block.ensures.last c.if-mask-eq0.true) c.requires.within

pub returns : goal.returns
returns c =
    let block = c.first_block_outside-block in
    run_ends_at_first_marked_byte _ _ c.args.start block.result.0 block.result.1
    (grind arith) c.if-mask-eq0.false block.ensures.room
