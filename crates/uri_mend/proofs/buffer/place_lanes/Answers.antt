use Rattle.uri_mend.proofs.Common.{◌++◌, take, drop, ap, ◌∙◌, arith, chunk, take-take, length-chunk}
use Rattle.uri_mend.proofs.Buffers.{prefix-of-placed-block}
use Rattle.uri_mend.proofs.buffer.place_lanes.Goals as goal

pub returns-clause-text : goal.returns-clause-text
returns-clause-text c =
    let bytes = c.args.bytes.now in
    let long = length-chunk c.args.start 16 bytes c.requires.inside in
    prefix-of-placed-block c.args.at c.args.len c.args.out.now (chunk c.args.start 16 bytes)
    (omega (arith, c.requires.room, long)) (omega (arith, c.requires.few, long))
    ∙ ap (λ t. take c.args.at c.args.out.now ++ t)
    (take-take c.args.len 16 (drop c.args.start bytes) c.requires.few)
