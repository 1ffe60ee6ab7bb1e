use Rattle.std.proofs.Common.{lit≤}
use Rattle.fluent_uri_c.proofs.AsciiBlocks.{block_is_ascii}
use Rattle.fluent_uri_c.proofs.ascii.is_ascii_block.Goals as goal

pub returns : goal.returns
returns c = block_is_ascii 32 (lit≤ tt) c.args.bytes.now c.args.at c.requires
