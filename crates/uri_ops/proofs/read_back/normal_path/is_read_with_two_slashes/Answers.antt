-- The first two bytes of a full block stay, and 1,022 more are read, or all that are left.
use Rattle.uri_ops.proofs.Common.{◌∙◌, ap, arith, has_authority}
use Rattle.uri_ops.proofs.FromEnd.Blocks.{first_two_bytes_are_fewer, first_two_bytes_of_block_decide}
use Rattle.uri_ops.proofs.read_back.normal_path.is_read_with_two_slashes.Goals as goal

pub loop-start-smaller : goal.loop-start-smaller
loop-start-smaller g c = first_two_bytes_are_fewer 1022 c.loop-start.start _ c.loop-start.block
    c.copy_within.new.self _ (omega arith) (omega arith) (omega arith)
    c.read_back-start-in-loop-start.ensures.text

pub loop-start-preserved : goal.loop-start-preserved
loop-start-preserved g c = record {
  within = omega arith;
  same = c.loop-start.invariant.same
      ∙ first_two_bytes_of_block_decide 1022 c.loop-start.start
      (g.A.ReadBack.unread c.loop-start.text) c.loop-start.block _ (omega arith) (omega arith)
      c.copy_within.ensures.after
      ∙ ap has_authority c.read_back-start-in-loop-start.ensures.text;
  last = c.read_back-start-in-loop-start.ensures.end;
}
