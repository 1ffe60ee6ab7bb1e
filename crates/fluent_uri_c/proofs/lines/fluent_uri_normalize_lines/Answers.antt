use Rattle.fluent_uri_c.proofs.Common.{◌≡◌, ◌+◌, ◌<◌, ◌∙◌, ◌++◌, ◌∷◌, [], ap, sym, arith, suc, length, rules, refl, inl, inr, length-append, is_some, outcome_of_batch, bytes_of, joined_results, line_buffers, newline, error_number_at, written_at}
use Rattle.fluent_uri_c.specs.Full.{as_size}
use Rattle.fluent_uri_c.proofs.Batches.{buffer-of-one-more-result, end-of-one-more-result, holds-up-to-set-item, later-items-unchanged}
use Rattle.fluent_uri_c.proofs.LinesOf.{IsLine-from-position}
use Rattle.fluent_uri_c.proofs.WrittenLines.{leaves_lines, error_number_at-of-line, consumed-after-last-line, consumed-before-line, written_at-of-line}
use Rattle.fluent_uri_c.proofs.lines.fluent_uri_normalize_lines.Goals as goal

pub returns-in_default : goal.returns-in_default
returns-in_default c =
    let before = c.loop-index.invariant in
    let line = IsLine-from-position c.args.lines.now c.loop-index.index c.loop-index.start
    c.line_end-end.result before.0 before.1 c.line_end-end.ensures.end in
    leaves_lines c.args.kind c.args.options c.args.lines.now
    (line_buffers c.args.out.now c.args.errors.now) (line_buffers _ _) _ 8 0 0 c.loop-index.index
    c.loop-index.at c.loop-index.start _ (omega arith) (search rules) (search rules)
    c.report_lines.ensures.number c.report_lines.ensures.outcome (λ _. (refl, refl)) before.2
    before.3 before.5 before.6
    (inr (inl (refl, line.more, ap is_some line.here, rw line.here c.in_default.ensures.memory)))
    (consumed-before-line _ _ _ line.more before.0 before.1)

pub returns-in-Err : goal.returns-in-Err
returns-in-Err c =
    let n = c.loop-index.index in
    let at = written_at c.args.kind c.args.options c.args.lines.now in
    let before = c.loop-index.invariant in
    let line = IsLine-from-position c.args.lines.now n c.loop-index.start c.line_end-end.result
    before.0 before.1 c.line_end-end.ensures.end in
    let bytes = written_at-of-line c.args.kind c.args.options c.args.lines.now _
    c.bytes_of.result.now n (c.bytes_of.ensures ∙ ap bytes_of c.in-Ok.ensures.text) line.here in
    let long : length (joined_results at (suc n)) ≡ c.loop-index.at + length
    (c.bytes_of.result.now ++ newline ∷ []) = length-append (joined_results at n) (bytes_of (at n))
    ∙ ap (λ k. k + length (bytes_of (at n))) (sym before.3)
    ∙ ap (λ l. c.loop-index.at + length l) (sym bytes) in
    let full : length c.args.out.now < length (joined_results at (suc n)) =
    omega (arith, long, c.in-Err.ensures.full, c.loop-index.auto.out) in
    leaves_lines c.args.kind c.args.options c.args.lines.now
    (line_buffers c.args.out.now c.args.errors.now)
    (line_buffers _ _) _ 10 0 c.in-Err.needed n c.loop-index.at c.loop-index.start _
    (omega arith) (search rules) (search rules) c.report_lines-in-Err.ensures.number
    c.report_lines-in-Err.ensures.outcome (λ ne. absurd (ne refl))
    (c.in-Err.ensures.kept ∙ before.2) before.3 before.5 before.6
    (inr (inr (inr (
      refl,
      line.more,
      ap is_some line.here,
      inl (refl, full, c.in-Err.ensures.needed ∙ ap as_size (sym long)),
    )))) (consumed-before-line _ _ _ line.more before.0 before.1)

pub returns-then-end-lines : goal.returns-then-end-lines
returns-then-end-lines c =
    let n = c.loop-index.index in
    let at = written_at c.args.kind c.args.options c.args.lines.now in
    let before = c.loop-index.invariant in
    let line = IsLine-from-position c.args.lines.now n c.loop-index.start c.line_end-end.result
    before.0 before.1 c.line_end-end.ensures.end in
    let bytes = written_at-of-line c.args.kind c.args.options c.args.lines.now _
    c.bytes_of.result.now n (c.bytes_of.ensures ∙ ap bytes_of c.in-Ok.ensures.text) line.here in
    let number = error_number_at-of-line c.args.kind c.args.options c.args.lines.now _ n
    c.in-Ok.line.number c.in-Ok.ensures.number line.here in
    let inside : n < length c.loop-index.errors = search rules in
    leaves_lines c.args.kind c.args.options c.args.lines.now
    (line_buffers c.args.out.now c.args.errors.now)
    (line_buffers _ _) _ 0 0 0 (n + 1) c.in-Ok-push_line.next c.line_end-end.result _
    (omega arith) (search rules) (search rules) c.report_lines-then-end-lines.ensures.number
    c.report_lines-then-end-lines.ensures.outcome (λ _. (refl, refl))
    (buffer-of-one-more-result at n _ _ before.3 bytes _ _ _ before.2
    c.in-Ok-push_line.ensures.written)
    (end-of-one-more-result at n _ _ before.3 bytes _ c.in-Ok-push_line.ensures.end)
    (holds-up-to-set-item
    (λ i o. o ≡ error_number_at c.args.kind c.args.options c.args.lines.now i) c.loop-index.errors n
    c.in-Ok.line.number inside number before.5)
    (later-items-unchanged c.args.errors.now c.loop-index.errors n c.in-Ok.line.number before.6)
    (inl (refl, sym (line.last (omega arith))))
    (consumed-after-last-line _ _ _ (line.last (omega arith)) (omega (arith, line.inside)))

pub loop-index-preserved : goal.loop-index-preserved
loop-index-preserved c =
    let n = c.loop-index.index in
    let at = written_at c.args.kind c.args.options c.args.lines.now in
    let before = c.loop-index.invariant in
    let line = IsLine-from-position c.args.lines.now n c.loop-index.start c.line_end-end.result
    before.0 before.1 c.line_end-end.ensures.end in
    let bytes = written_at-of-line c.args.kind c.args.options c.args.lines.now _
    c.bytes_of.result.now n (c.bytes_of.ensures ∙ ap bytes_of c.in-Ok.ensures.text) line.here in
    let number = error_number_at-of-line c.args.kind c.args.options c.args.lines.now _ n
    c.in-Ok.line.number c.in-Ok.ensures.number line.here in
    let inside : n < length c.loop-index.errors = search rules in
    let below : c.line_end-end.result < length c.args.lines.now =
    omega (arith, line.inside, c.if-end-lines.false) in (
      omega (arith, below),
      line.next below,
      buffer-of-one-more-result at n _ _ before.3 bytes _ _ _ before.2
          c.in-Ok-push_line.ensures.written,
      end-of-one-more-result at n _ _ before.3 bytes _ c.in-Ok-push_line.ensures.end,
      c.in-Ok-push_line.ensures.inside,
      holds-up-to-set-item
          (λ i o. o ≡ error_number_at c.args.kind c.args.options c.args.lines.now i)
          c.loop-index.errors n c.in-Ok.line.number inside number before.5,
      later-items-unchanged c.args.errors.now c.loop-index.errors n c.in-Ok.line.number before.6,
    )

pub returns : goal.returns
returns c =
    let before = c.loop-index.invariant in
    let line = IsLine-from-position c.args.lines.now c.loop-index.index c.loop-index.start _
    before.0 before.1 refl in
    let same : c.loop-index.index ≡ length c.loop-index.errors = omega arith in
    let outcome = c.report_lines-2.ensures.outcome ∙ ap
    (λ n. outcome_of_batch 10 4 n (length c.loop-index.errors) c.loop-index.at c.loop-index.start)
    c.saturating_add.ensures ∙ ap (λ k. outcome_of_batch 10 4
    (as_size (length c.loop-index.errors + 1)) k c.loop-index.at c.loop-index.start) (sym same) in
    leaves_lines c.args.kind c.args.options c.args.lines.now
    (line_buffers c.args.out.now c.args.errors.now) (line_buffers _ _) _ 10 4
    (as_size (length c.loop-index.errors + 1)) c.loop-index.index c.loop-index.at c.loop-index.start
    _ (omega arith) (search rules) (search rules) c.report_lines-2.ensures.number outcome
    (λ ne. absurd (ne refl)) before.2 before.3 before.5 before.6 (inr (inr (inr (
      refl,
      line.more,
      ap is_some line.here,
      inr (refl, omega arith, ap (λ k. as_size (k + 1)) (sym same)),
    )))) (consumed-before-line _ _ _ line.more before.0 before.1)
