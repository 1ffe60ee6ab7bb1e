use Rattle.uri_pct.proofs.Common.{arith, w8, nat_le, chunk, bitmask_splat, length-chunk}
use Rattle.uri_pct.proofs.lanes.lanes_at_most.Goals as goal

pub returns : goal.returns
returns c = bitmask_splat w8 nat_le (chunk c.args.at 16 c.args.bytes.now) 16 c.args.byte
    (length-chunk c.args.at 16 c.args.bytes.now c.requires) (omega arith)
