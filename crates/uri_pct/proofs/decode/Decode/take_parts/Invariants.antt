use Rattle.uri_pct.proofs.Common.{chunks_left, undecoded, window_bytes, parts, parts_from}
use Rattle.uri_pct.proofs.decode.Decode.take_parts.Given as goal

abbrev pub invariant-loop-chunk : goal.invariant-loop-chunk
invariant-loop-chunk g l = (u : _) → g.T.TakeParts.took l.taker (parts_from (window_bytes l.window)
    (chunks_left l.chunk-iterator)) u
    → g.T.TakeParts.took l.fn.taker (parts (undecoded l.fn.self)) u
