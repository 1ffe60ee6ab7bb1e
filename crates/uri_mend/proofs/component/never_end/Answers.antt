use Rattle.uri_mend.proofs.Common.{◌-◌, get_or, ap, sym, ◌∙◌, arith, has_bit, has_bit-only-ascii, is_never, NEVER_HIGH, NEVER_LOW}
use Rattle.uri_mend.proofs.EncodedRuns.{ascii-run-ends-at-boundary, byte-of-run-is-never}
use Rattle.uri_mend.proofs.component.never_end.Goals as goal

pub returns-then-not-allows_some_past_ascii-clause-never
    : goal.returns-then-not-allows_some_past_ascii-clause-never
returns-then-not-allows_some_past_ascii-clause-never c k from l =
    ap (λ t. is_never (get_or t k 0)) (sym c.as_bytes-bytes.ensures.value) ∙ byte-of-run-is-never
    (get_or c.as_bytes-bytes.result.now k 0) (c.chars_end.ensures.pass k from l)

pub returns-clause-boundary : goal.returns-clause-boundary
returns-clause-boundary c =
    let run = c.run_end.ensures in
    let end = c.run_end.result in
    ascii-run-ends-at-boundary c.args.text.now c.args.start end c.utf8.text c.requires run.from
    (omega (arith, run.within, c.as_bytes-bytes.ensures.len))
    (λ some. has_bit-only-ascii NEVER_LOW NEVER_HIGH _ (ap
    (λ t. has_bit NEVER_LOW NEVER_HIGH (get_or t (end - 1) 0)) (sym c.as_bytes-bytes.ensures.value)
    ∙ run.pass (end - 1) (omega (arith, some)) (omega (arith, some))))

pub returns-clause-never : goal.returns-clause-never
returns-clause-never c k from l = grind arith

pub returns-clause-past : goal.returns-clause-past
returns-clause-past c k from l past = grind (arith, has_bit-only-ascii)
