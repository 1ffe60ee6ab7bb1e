use Rattle.uri_ops.proofs.Common.{arith}
use Rattle.uri_ops.proofs.Normal.LiteralBlocks.{special-lanes-are-not-literal, special-mask-is-below}
use Rattle.uri_ops.proofs.normalize.unchanged_octets.lanes_of_special_bytes.Goals as goal

pub returns-clause-below : goal.returns-clause-below
returns-clause-below c = special-mask-is-below c.args.bytes.now c.args.at
    c.lanes_equal_to-3.result c.lanes_equal_to-4.result c.lanes_equal_to.result
    c.lanes_equal_to-2.result c.requires.later c.requires.room c.lanes_equal_to-3.ensures
    c.lanes_equal_to-4.ensures c.lanes_equal_to.ensures c.lanes_equal_to-2.ensures

pub returns-clause-lane : goal.returns-clause-lane
returns-clause-lane c = grind (arith, special-lanes-are-not-literal)
