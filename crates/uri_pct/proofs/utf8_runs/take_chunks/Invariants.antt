use Rattle.uri_pct.proofs.Common.{map, utf8_chunks_rest, ArePastAscii, Decoded, utf8_pieces}
use Rattle.uri_pct.proofs.utf8_runs.take_chunks.Given as goal

abbrev pub invariant-loop-chunk : goal.invariant-loop-chunk
invariant-loop-chunk g l = record {
  past_ascii : ArePastAscii (utf8_chunks_rest l.chunk-iterator);
  taken : (u : _) → g.T.TakeParts.took l.taker (map Decoded (utf8_pieces (utf8_chunks_rest
      l.chunk-iterator))) u → g.T.TakeParts.took l.fn.taker (map Decoded (utf8_pieces l.run)) u;
}
