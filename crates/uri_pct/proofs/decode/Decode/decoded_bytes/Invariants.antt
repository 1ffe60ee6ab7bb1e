use Rattle.uri_pct.proofs.Common.{◌≡◌, ◌++◌, flat_map, chunk_bytes, chunks_left, decoded}
use Rattle.uri_pct.proofs.decode.Decode.decoded_bytes.Given as goal

abbrev pub invariant-loop-chunk : goal.invariant-loop-chunk
invariant-loop-chunk l = l.bytes.items ++ flat_map chunk_bytes (chunks_left l.chunk-iterator)
    ≡ decoded l.fn.self
