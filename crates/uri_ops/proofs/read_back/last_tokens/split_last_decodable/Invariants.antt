-- The bytes from `start` on are the values of the octets that are passed, and no decodable
-- character ends with them.
use Rattle.uri_ops.proofs.Common.{◌≡◌, ◌≤◌, length, drop, map, IsUtf8, set_of, Octet, EndInNoDecodable}
use Rattle.uri_ops.specs.FromEnd.LastTokens.{EndsIn}
use Rattle.uri_ops.proofs.read_back.last_tokens.split_last_decodable.Given as goal

abbrev pub invariant-loop-start : goal.invariant-loop-start
invariant-loop-start l = record {
  within : l.start ≤ 4;
  size : length l.bytes ≡ 4;
  utf8 : IsUtf8 l.before;
  ends : EndsIn l.text l.before (map Octet (drop l.start l.bytes));
  none : EndInNoDecodable (set_of l.table) (drop l.start l.bytes);
}

abbrev pub decreases-loop-start : goal.decreases-loop-start
decreases-loop-start l = l.start
