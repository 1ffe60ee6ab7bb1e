use Rattle.uri_pct.proofs.Common.{◌≡◌, ◌++◌, length, take, string_bytes, utf8_chunks_rest, encode_bytes, set_of, print}
use Rattle.uri_pct.proofs.encode.push_bytes.Given as goal

abbrev pub invariant-loop-chunk : goal.invariant-loop-chunk
invariant-loop-chunk l = record {
  total : string_bytes l.out
      ++ print (encode_bytes (set_of l.table) (utf8_chunks_rest l.chunk-iterator))
      ≡ string_bytes l.fn.out ++ print (encode_bytes (set_of l.table) l.bytes);
  keeps : take (length (string_bytes l.fn.out)) (string_bytes l.out) ≡ string_bytes l.fn.out;
}
