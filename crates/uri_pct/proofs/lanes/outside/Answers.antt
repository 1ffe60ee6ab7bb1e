use Rattle.uri_pct.proofs.Common.{chunk}
use Rattle.uri_pct.proofs.LaneScans.LaneMasks.{index_of_mask_byte_is_small}
use Rattle.uri_pct.proofs.lanes.outside.Goals as goal

pub outside_by_keys-requires : goal.outside_by_keys-requires
outside_by_keys-requires c k h = index_of_mask_byte_is_small
    (chunk c.args.at 16 c.args.bytes.now) c.lane_keys.result.0 c.lane_keys.ensures.indices k

pub returns : goal.returns
returns c = c.outside_by_keys.ensures (chunk c.args.at 16 c.args.bytes.now)
    c.lane_keys.ensures.indices c.lane_keys.ensures.bits
