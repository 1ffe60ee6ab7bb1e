-- The bytes that were taken are in the block from `end` on. Nothing is left of the segment unless
-- the block is full.
use Rattle.uri_ops.proofs.Common.{◌≡◌, ◌≤◌, ◌<◌, ◌++◌, [], length, drop, octets_unread}
use Rattle.uri_ops.specs.FromEnd.PathBack.{path_unread}
use Rattle.uri_ops.proofs.read_back.path_back.PathBackReadBack.read_back.Given as goal

abbrev pub invariant-loop-end : goal.invariant-loop-end
invariant-loop-end l = record {
  size : length l.block ≡ 1024;
  within : l.end ≤ l.fn.end;
  text : path_unread l.fn.self ++ drop l.fn.end l.fn.block
      ≡ path_unread l.self ++ drop l.end l.block;
  segment : 0 < l.end → octets_unread l.self.segment ≡ [];
}

abbrev pub decreases-loop-end : goal.decreases-loop-end
decreases-loop-end l = l.end
