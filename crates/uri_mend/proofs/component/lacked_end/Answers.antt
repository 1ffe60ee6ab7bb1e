use Rattle.uri_mend.proofs.Common.{◌-◌, get_or, ap, sym, ◌∙◌, arith, set_of, has_bit_past_ascii_is_false, lacks_percent}
use Rattle.uri_mend.proofs.EncodedRuns.{empty-run-is-lacked, run-before-percent-is-lacked, run-is-lacked}
use Rattle.uri_mend.proofs.component.lacked_end.Goals as goal

pub returns-then-not-lacks_byte : goal.returns-then-not-lacks_byte
returns-then-not-lacks_byte c = empty-run-is-lacked (set_of c.args.table.now) c.args.text.now
    c.args.start c.requires.boundary

pub returns-then-end-start : goal.returns-then-end-start
returns-then-end-start c =
    empty-run-is-lacked (set_of c.args.table.now) c.args.text.now c.args.start c.requires.boundary

pub returns-then-bytes-end-eq37 : goal.returns-then-bytes-end-eq37
returns-then-bytes-end-eq37 c =
    let run = c.never_end-end.ensures in
    let text = c.args.text.now in
    let end = c.never_end-end.result in
    run-before-percent-is-lacked (set_of c.args.table.now) (lacks_percent c.args.table.now)
    (has_bit_past_ascii_is_false _ _) c.requires.never text c.args.start end run.boundary.0
    run.never run.past (omega (arith, run.from, c.if-end-start.false))
    (ap (λ t. get_or t (end - 1) 0) (sym c.as_bytes-bytes.ensures.value) ∙ c.if-bytes-end-eq37.true)

pub returns : goal.returns
returns c =
    let run = c.never_end-end.ensures in
    let text = c.args.text.now in
    let end = c.never_end-end.result in
    run-is-lacked (set_of c.args.table.now) (lacks_percent c.args.table.now)
    (has_bit_past_ascii_is_false _ _) c.requires.never text c.args.start end run.boundary.0
    run.never run.past run.from run.boundary
    (λ p. c.if-bytes-end-eq37.false
    (ap (λ t. get_or t (end - 1) 0) c.as_bytes-bytes.ensures.value ∙ p))
