use Rattle.uri_pct.proofs.Common.{length, map, ArePastAscii, Decoded, utf8_pieces}
use Rattle.uri_pct.proofs.utf8_runs.take_lone_bytes.Given as goal

abbrev pub invariant-loop-left : goal.invariant-loop-left
invariant-loop-left g l = record {
  past_ascii : ArePastAscii l.left;
  taken : (u : _) → g.T.TakeParts.took l.taker (map Decoded (utf8_pieces l.left)) u
      → g.T.TakeParts.took l.fn.taker (map Decoded (utf8_pieces l.run)) u;
}

abbrev pub decreases-loop-left : goal.decreases-loop-left
decreases-loop-left g l = length l.left
