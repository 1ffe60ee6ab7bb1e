use Rattle.uri_pct.proofs.Common.{◌≡◌, ◌++◌, [], map, refl, sym, subst, arith, utf8_chunks_rest, utf8_chunk_valid, utf8_chunk_invalid, map-append, nil_from_length, Decoded, ill_formed_piece_if_any, utf8_pieces}
use Rattle.uri_pct.proofs.Unicode.AsciiOctets.{prefix_of_past_ascii_is_past_ascii, suffix_of_past_ascii_is_past_ascii}
use Rattle.uri_pct.proofs.Unicode.Runs.{utf8_pieces-of-std-chunk, no_bytes_have_no_pieces}
use Rattle.uri_pct.proofs.utf8_runs.take_chunks.Goals as goal

pub take_chunk-requires : goal.take_chunk-requires
take_chunk-requires g c =
    let text = utf8_chunk_valid c.in-Some.chunk in
    rw c.valid.ensures (prefix_of_past_ascii_is_past_ascii text _ _ c.in-Some.ensures.steps.0
    c.loop-chunk.invariant.past_ascii)

pub loop-chunk-preserved : goal.loop-chunk-preserved
loop-chunk-preserved g c =
    let text = utf8_chunk_valid c.in-Some.chunk in
    let fault = utf8_chunk_invalid c.in-Some.chunk in
    let suffix = utf8_chunks_rest c.next.new.self in
    let steps = c.in-Some.ensures.steps in
    let pieces : utf8_pieces (utf8_chunks_rest c.loop-chunk.chunk-iterator)
    ≡ (utf8_pieces text ++ ill_formed_piece_if_any fault) ++ utf8_pieces suffix =
    utf8_pieces-of-std-chunk _ text fault suffix steps.0 steps.3.0 steps.3.1 steps.2 in
    let handed : map Decoded (utf8_pieces c.valid.result.now
    ++ ill_formed_piece_if_any c.invalid.result.now) ++ map Decoded (utf8_pieces suffix)
    ≡ map Decoded (utf8_pieces (utf8_chunks_rest c.loop-chunk.chunk-iterator))
    = rw (c.valid.ensures, c.invalid.ensures) (grind (arith, map-append)) in
    record {
      past_ascii = suffix_of_past_ascii_is_past_ascii fault suffix _ refl
          (suffix_of_past_ascii_is_past_ascii text (fault ++ suffix) _ steps.0
          c.loop-chunk.invariant.past_ascii);
      taken = λ u h. c.loop-chunk.invariant.taken u
          (subst (λ ps. g.T.TakeParts.took c.loop-chunk.taker ps u) handed
          (g.met.T.TakeParts.takes_appended_parts c.loop-chunk.taker c.take_chunk.new.taker u _ _
          c.in_ok-take_chunk.ensures h));
    }

pub returns : goal.returns
returns g c =
    let none : utf8_pieces (utf8_chunks_rest c.loop-chunk.chunk-iterator) ≡ [] =
    grind (arith, nil_from_length, no_bytes_have_no_pieces) in
    c.loop-chunk.invariant.taken c.loop-chunk.taker
    (subst (λ ps. g.T.TakeParts.took c.loop-chunk.taker (map Decoded ps) c.loop-chunk.taker)
    (sym none) (g.met.T.TakeParts.takes_no_parts c.loop-chunk.taker))
