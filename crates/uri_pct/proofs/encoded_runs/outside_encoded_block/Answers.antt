use Rattle.uri_pct.proofs.Common.{◌+◌, ◌∙◌, ap, arith, get_or, sym, set_of}
use Rattle.uri_pct.proofs.LaneScans.LaneRuns.{run_goes_on_past_unmarked_lanes, set_mask_marks_lanes_outside}
use Rattle.uri_pct.proofs.LaneScans.LinkedLanes.{byte_of_plain_block_is_of_encoded_text}
use Rattle.uri_pct.proofs.TableSets.Percent.{lacks_percent}
use Rattle.uri_pct.proofs.encoded_runs.outside_encoded_block.Goals as goal

pub returns-then-bytes-at-ne37-2-clause-lane : goal.returns-then-bytes-at-ne37-2-clause-lane
returns-then-bytes-at-ne37-2-clause-lane c k h _ =
    let bs = c.args.bytes.now in
    let i = c.args.at in
    let t = c.args.table.now in
    byte_of_plain_block_is_of_encoded_text (set_of t).ascii bs i c.requires.before
    (lacks_percent t) (λ j few. ap (λ test. test (get_or bs (i + j) 0)) (sym c.masks-low.ensures)
    ∙ run_goes_on_past_unmarked_lanes _ bs i i 16 _
    (set_mask_marks_lanes_outside c.masks-low.result.0 c.masks-low.result.1 bs i c.outside.result
    c.requires.within c.outside.ensures) (λ x from to. absurd (omega arith)) c.if-outside-eq0.true
    (i + j) (omega arith) (omega arith)) c.if-bytes-at-ne37.true c.if-bytes-at-ne37-2.true k h
