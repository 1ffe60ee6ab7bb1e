-- What is left and the block begin with `//` exactly if the text does. Nothing is left unless the
-- block is full.
use Rattle.uri_ops.proofs.Common.{◌≡◌, ◌≤◌, ◌<◌, ◌++◌, [], length, drop, has_authority}
use Rattle.uri_ops.proofs.read_back.normal_path.is_read_with_two_slashes.Given as goal

abbrev pub invariant-loop-start : goal.invariant-loop-start
invariant-loop-start g l = record {
  within : l.start ≤ 1024;
  same : has_authority (g.A.ReadBack.unread l.fn.text)
      ≡ has_authority (g.A.ReadBack.unread l.text ++ drop l.start l.block);
  last : 0 < l.start → g.A.ReadBack.unread l.text ≡ [];
}

abbrev pub decreases-loop-start : goal.decreases-loop-start
decreases-loop-start g l =
    length (g.A.ReadBack.unread l.text ++ drop l.start l.block)
