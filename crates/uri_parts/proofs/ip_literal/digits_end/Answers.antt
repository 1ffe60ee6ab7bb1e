use Rattle.uri_parts.proofs.Common.{◌<◌, arith, ap, sym, ◌∙◌, is_digit, IsCharBoundary-after_ascii}
use Rattle.uri_parts.proofs.Refusals.Digits.{digits_end-passes-digit}
use Rattle.uri_parts.proofs.HostForms.LiteralTexts.{digit-is-ascii}
use Rattle.uri_parts.proofs.ip_literal.digits_end.Goals as goal

pub loop-end-preserved : goal.loop-end-preserved
loop-end-preserved c =
    let bs = c.as_bytes-bytes.result.now in
    let below : c.from.result < 128 = grind (arith, digit-is-ascii) in
    record {
      boundary = IsCharBoundary-after_ascii bs c.loop-end.end c.as_bytes-bytes.ensures.utf8
          (omega arith) (omega arith);
      start = omega arith;
      left = digits_end-passes-digit bs c.args.radix c.loop-end.end _ _ c.loop-end-test.true
          (ap (λ b. is_digit b c.args.radix) (sym c.from.ensures) ∙ sym c.is_digit.ensures.value
          ∙ c.if-is_digit.true) (omega arith) ∙ c.loop-end.invariant.left;
    }
