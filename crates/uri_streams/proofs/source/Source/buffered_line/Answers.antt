use Rattle.uri_streams.proofs.Common.{arith, eqb-true, subst, and_parts, both_ways, not-true, end_byte, IsBufferedLine}
use Rattle.uri_streams.proofs.Parts.{IsBufferedLine-up-to, ends_with_byte-up-to}
use Rattle.uri_streams.proofs.source.Source.buffered_line.Goals as goal

pub ended-requires-clause-ended : goal.ended-requires-clause-ended
ended-requires-clause-ended g c = grind (arith, ends_with_byte-up-to)

pub ended-requires-in-Some-clause-ended : goal.ended-requires-in-Some-clause-ended
ended-requires-in-Some-clause-ended g c = grind (arith, ends_with_byte-up-to)

pub returns-then-bytes-index-clause-line : goal.returns-then-bytes-index-clause-line
returns-then-bytes-index-clause-line g c =
    let run = c.run_before-index.ensures in
    subst (λ b. IsBufferedLine (end_byte c.args.is_null) b c.ended.result.bytes.now)
    c.buffer-bytes.ensures
    (IsBufferedLine-up-to _ c.line_ending-end.result c.run_before-index.result _ _
    c.line_ending-end.ensures c.ended.ensures.bytes c.if-index-bytes.true c.if-bytes-index.true
    (λ k to is. both_ways _ (not-true _ (and_parts _ _ (run.pass k (omega arith) to)).1) is))

pub returns-in-Some-clause-line : goal.returns-in-Some-clause-line
returns-in-Some-clause-line g c =
    let first = c.in-Some.ensures.0 in
    subst (λ b. IsBufferedLine (end_byte c.args.is_null) b c.ended-in-Some.result.bytes.now)
    c.buffer-bytes.ensures (IsBufferedLine-up-to _ c.line_ending-end.result c.in-Some.index _ _
    c.line_ending-end.ensures c.ended-in-Some.ensures.bytes first.high
    (eqb-true _ _ c.in-Some.ensures.1) (λ k to is. first.before k (omega arith) to is))
