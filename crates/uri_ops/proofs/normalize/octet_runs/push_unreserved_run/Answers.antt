use Rattle.uri_ops.proofs.Common.{◌+◌, ◌*◌, ◌++◌, inr, false, drop, sym, arith, ◌∙◌, string_bytes, digit_value, true≢false, IfOk-weaker, decoded_text}
use Rattle.uri_ops.proofs.Meanings.DecodedPrefixes.{decoded-octet-is-pushed}
use Rattle.uri_ops.proofs.normalize.octet_runs.push_unreserved_run.Goals as goal

pub loop-end-init : goal.loop-end-init
loop-end-init c = grind arith

pub returns-then-left-eq0-clause-text : goal.returns-then-left-eq0-clause-text
returns-then-left-eq0-clause-text c = λ set. IfOk-weaker c.push_blocks.result _ _
    (λ end pushed. pushed ∙ c.loop-end.invariant.total set) (c.push_blocks.ensures.text set)

pub loop-end-preserved : goal.loop-end-preserved
loop-end-preserved c =
    let lowers = c.args.lowers in
    let holds = c.loop-end.invariant in
    let at = c.octet_digits-high.ensures in
    let value = 16 * digit_value c.octet_digits-high.result.0
    + digit_value c.octet_digits-high.result.1 in
    record {
      from = omega (arith, holds.from);
      boundary = at.boundary;
      valid = at.valid;
      total = λ set. decoded-octet-is-pushed at lowers set (string_bytes c.loop-end.out)
          (string_bytes c.push_unreserved.new.out) (string_bytes c.args.out.now
          ++ decoded_text lowers set (drop c.args.start c.args.text.now)) false
          (λ never. absurd (true≢false (sym never))) (inr c.in-Some.ensures.2)
          (c.in_ok-push_unreserved.ensures lowers value c.in-Some.ensures.1 c.in-Some.ensures.0)
          (holds.total set);
    }
