use Rattle.uri_pct.proofs.Common.{w8, eqb, arith, chunk, bitmask_splat, length-chunk}
use Rattle.uri_pct.proofs.lanes.lanes_equal_to.Goals as goal

pub returns : goal.returns
returns c =
    let bs = c.args.bytes.now in
    let i = c.args.at in
    bitmask_splat w8 eqb (chunk i 16 bs) 16 c.args.byte (length-chunk i 16 bs c.requires)
    (omega arith)
