use Rattle.uri_pct.proofs.Common.{◌≡◌, ◌++◌, map, string_bytes, subst, arith, IsUtf8, utf8_chunks_rest, utf8_chunk_valid, utf8_chunk_invalid, encode_text, set_of, Octet, print}
use Rattle.uri_pct.proofs.EncodedTexts.Encodings.{unchanged_prefix-transitive, encoded_bytes_after_chunk, encoded_bytes_at_end}
use Rattle.uri_pct.proofs.Unicode.Runs.{utf8_pieces-of-std-chunk}
use Rattle.uri_pct.proofs.encode.push_bytes.Goals as goal

pub loop-chunk-preserved : goal.loop-chunk-preserved
loop-chunk-preserved c =
    let set = set_of c.args.table.now in
    let text = utf8_chunk_valid c.in-Some.chunk in
    let fault = utf8_chunk_invalid c.in-Some.chunk in
    let rest = utf8_chunks_rest c.next.new.self in
    let steps = c.in-Some.ensures.steps in
    let old = string_bytes c.args.out.now in
    let out = string_bytes c.loop-chunk.out in
    let mid = string_bytes c.push_text.new.out in
    let new = string_bytes c.push_octets.new.out in
    let first : mid ≡ out ++ print (encode_text set text) = grind arith in
    let then : new ≡ mid ++ print (map Octet fault) = grind arith in
    let pieces = utf8_pieces-of-std-chunk (utf8_chunks_rest c.loop-chunk.chunk-iterator) text fault
    rest steps.0 steps.3.0 steps.3.1 steps.2 in
    record {
      total = encoded_bytes_after_chunk set out mid new _ text fault rest _ (subst
          IsUtf8 c.valid.ensures c.valid.utf8) pieces first then c.loop-chunk.invariant.total;
      keeps = grind (arith, unchanged_prefix-transitive);
    }

pub returns-clause-ok : goal.returns-clause-ok
returns-clause-ok c = encoded_bytes_at_end (set_of c.args.table.now) (string_bytes c.loop-chunk.out)
    (utf8_chunks_rest c.loop-chunk.chunk-iterator) _ c.in-None.ensures.steps.0
    c.loop-chunk.invariant.total
