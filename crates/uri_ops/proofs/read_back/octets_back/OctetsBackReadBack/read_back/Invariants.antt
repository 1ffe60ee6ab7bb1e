-- The bytes that were taken are in the block from `start` on, and what was held is among them if
-- the block is not full.
use Rattle.uri_ops.proofs.Common.{◌≡◌, ◌≤◌, ◌<◌, ◌++◌, [], length, drop, held_text, octets_unread}
use Rattle.uri_ops.proofs.read_back.octets_back.OctetsBackReadBack.read_back.Given as goal

abbrev pub invariant-loop-start : goal.invariant-loop-start
invariant-loop-start l = record {
  size : length l.block ≡ 1024;
  within : l.start ≤ l.fn.end;
  text : octets_unread l.fn.self ++ drop l.fn.end l.fn.block
      ≡ octets_unread l.self ++ drop l.start l.block;
  held : 0 < l.start → held_text l.self.held ≡ [];
}

abbrev pub decreases-loop-start : goal.decreases-loop-start
decreases-loop-start l = l.start
