use Rattle.uri_ops.proofs.Common.{arith, length-drop}
use Rattle.uri_ops.proofs.FromEnd.Blocks.{bytes_at_end_are_last_block}
use Rattle.uri_ops.proofs.read_back.take_last_block.Goals as goal

pub returns-clause-block : goal.returns-clause-block
returns-clause-block g c =
    bytes_at_end_are_last_block 1024 c.read_back.result (g.A.ReadBack.unread c.args.text.now)
    (g.A.ReadBack.unread c.read_back.new.self) c.args.block.now c.read_back.new.block (omega arith)
    (omega arith) (omega arith) c.read_back.ensures.text c.read_back.ensures.end

pub returns-clause-length : goal.returns-clause-length
returns-clause-length g c = omega (arith, length-drop c.read_back.result c.read_back.new.block)
