use Rattle.uri_ops.proofs.Common.{◌-◌, length}
use Rattle.uri_ops.proofs.FromEnd.Blocks.{literal_is_read}
use Rattle.uri_ops.proofs.read_back.literal_back.LiteralBackReadBack.read_back.Goals as goal

pub returns-clause-text : goal.returns-clause-text
returns-clause-text c = literal_is_read c.args.self.now.lowers (length c.args.self.now.text.now
    - c.min-count.result) c.args.self.now.text.now _ _ c.put_back.ensures.text
