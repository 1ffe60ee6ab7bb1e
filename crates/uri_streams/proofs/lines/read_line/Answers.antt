use Rattle.uri_streams.proofs.Common.{common_steps, ◌≢◌, ◌++◌, length-append, sym, ap, ◌∙◌, rules, arith, true≢false, ◌&&◌, nat_lt, Consumes-kept, Consumes-trans, Keeps-trans, Consumes_through, All-append, return_after}
use Rattle.uri_streams.proofs.Parts.{Keeps-at-end, ReadsFirstLine-of-parts, OnErr-of-any, take-of-appended-part}
use Rattle.uri_streams.proofs.Returns.{return_after-inner-part, return_after-last-part}
use Rattle.uri_streams.proofs.lines.read_line.Goals as goal

pub loop-reads-init : goal.loop-reads-init
loop-reads-init g c = grind (arith, common_steps)

pub loop-reads-preserved : goal.loop-reads-preserved
loop-reads-preserved g c =
    let (done, kept, none, read, counted, held, was, reading, writing) = c.loop-reads.invariant in
    let (bs, long, more, stops, read', none', ends, end, is) = c.in_ok-part.ensures.taken in
    let lacks = none' (λ e. true≢false (sym e ∙ c.if-part.false)) in (
      done ++ bs,
      take-of-appended-part c.args.limit done bs c.loop-reads.line.items c.take_part.new.line.items
          kept more,
      All-append (λ x. x ≢ c.args.end) done bs none lacks,
      Consumes-trans _ _ _ _ _ read read',
      omega (arith, length-append done bs, c.saturating_add-count.ensures, long),
      Keeps-trans _ _ _ held c.in_ok-flush_before_read.ensures.keeps,
      is ∙ return_after-inner-part c.args.end c.loop-reads.is_return done bs was lacks,
      search rules,
      search rules,
    )

pub returns-in_err-flush_before_read-clause-stopped :
    goal.returns-in_err-flush_before_read-clause-stopped
returns-in_err-flush_before_read-clause-stopped g c = grind (arith, OnErr-of-any)

pub returns-in_err-part-clause-stopped : goal.returns-in_err-part-clause-stopped
returns-in_err-part-clause-stopped g c =
    let (done, kept, none, read, counted, held, was, reading, writing) = c.loop-reads.invariant in
    OnErr-of-any c.from_residual-in_err-part.result _
    (done, Consumes-kept _ _ _ done read c.in_err-part.ensures.kept, none)

pub returns-then-count-eq0-clause-end : goal.returns-then-count-eq0-clause-end
returns-then-count-eq0-clause-end g c = grind (arith, common_steps)

pub returns-then-count-eq0-clause-ended : goal.returns-then-count-eq0-clause-ended
returns-then-count-eq0-clause-ended g c =
    grind (arith, Keeps-at-end, returns-then-count-eq0-clause-end)

pub returns-then-is_return-clause-line : goal.returns-then-is_return-clause-line
returns-then-is_return-clause-line g c =
    let (done, kept, none, read, counted, held, was, reading, writing) = c.loop-reads.invariant in
    let (bs, long, more, stops, read', none', ends, end, is) = c.in_ok-part.ensures.taken in
    let all = Consumes_through c.args.end _ _ _ done bs read none read' stops (ends
    c.if-part.true) (end c.if-part.true) in
    let line = take-of-appended-part c.args.limit done bs c.loop-reads.line.items
    c.take_part.new.line.items kept more in
    ReadsFirstLine-of-parts c.args.end c.args.limit _ _ (done ++ bs) _ _ all.0 all.1 (omega (
      arith,
      length-append done bs,
      c.saturating_add-count.ensures,
      c.if-count-eq0.false,
      long,
      counted,
    )) line
    (ap (λ b. b && nat_lt 0 c.in_ok-part.part.count) (sym c.if-is_return.true)
    ∙ ap (λ b. b && nat_lt 0 c.in_ok-part.part.count) is
    ∙ ap (λ n. return_after c.args.end c.loop-reads.is_return bs && nat_lt 0 n) (sym long)
    ∙ return_after-last-part c.args.end c.loop-reads.is_return done bs was none (ends c.if-part.true))

pub returns-then-is_return-clause-keeps : goal.returns-then-is_return-clause-keeps
returns-then-is_return-clause-keeps g c =
    Keeps-trans _ _ _ c.loop-reads.invariant.5 c.in_ok-flush_before_read.ensures.keeps

pub returns-else-is_return-clause-line : goal.returns-else-is_return-clause-line
returns-else-is_return-clause-line g c =
    let (done, kept, none, read, counted, held, was, reading, writing) = c.loop-reads.invariant in
    let (bs, long, more, stops, read', none', ends, end, is) = c.in_ok-part.ensures.taken in
    let all = Consumes_through c.args.end _ _ _ done bs read none read' stops (ends
    c.if-part.true) (end c.if-part.true) in
    let line = take-of-appended-part c.args.limit done bs c.loop-reads.line.items
    c.take_part.new.line.items kept more in
    ReadsFirstLine-of-parts c.args.end c.args.limit _ _ (done ++ bs) _ _ all.0 all.1 (omega (
      arith,
      length-append done bs,
      c.saturating_add-count.ensures,
      c.if-count-eq0.false,
      long,
      counted,
    )) line
    (c.if-is_return.false
    ∙ ap (λ b. b && nat_lt 0 c.in_ok-part.part.count) (sym c.if-is_return.false)
    ∙ ap (λ b. b && nat_lt 0 c.in_ok-part.part.count) is
    ∙ ap (λ n. return_after c.args.end c.loop-reads.is_return bs && nat_lt 0 n) (sym long)
    ∙ return_after-last-part c.args.end c.loop-reads.is_return done bs was none (ends c.if-part.true))

pub returns-else-is_return-clause-keeps : goal.returns-else-is_return-clause-keeps
returns-else-is_return-clause-keeps g c =
    Keeps-trans _ _ _ c.loop-reads.invariant.5 c.in_ok-flush_before_read.ensures.keeps
