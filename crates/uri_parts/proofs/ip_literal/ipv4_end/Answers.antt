use Rattle.uri_parts.proofs.Common.{◌≡◌, ◌+◌, ◌-◌, sym, ap, ◌∙◌, arith, rules, option_and_then, octets_end}
use Rattle.uri_parts.proofs.Refusals.Digits.{octets_end-goes-on-after-dot, octets_end-fails-without-dot}
use Rattle.uri_parts.proofs.ip_literal.ipv4_end.Goals as goal

pub returns-then-not-next_is-clause-exact : goal.returns-then-not-next_is-clause-exact
returns-then-not-next_is-clause-exact c =
    let n : 3 - c.loop-dots.dots ≡ (3 - (c.loop-dots.dots + 1)) + 1 =
    omega (arith, c.loop-dots-test.true) in
    sym (c.loop-dots.invariant.left ∙ octets_end-fails-without-dot _ _ _ _ n
    (sym c.next_is.ensures.value ∙ c.if-not-next_is.true))

pub returns-in_err-end-2-clause-exact : goal.returns-in_err-end-2-clause-exact
returns-in_err-end-2-clause-exact c =
    let n : 3 - c.loop-dots.dots ≡ (3 - (c.loop-dots.dots + 1)) + 1 =
    omega (arith, c.loop-dots-test.true) in
    let step = c.loop-dots.invariant.left ∙ octets_end-goes-on-after-dot _ _ _ _ n
    (sym c.next_is.ensures.value ∙ c.if-not-next_is.false)
    ∙ ap (option_and_then (octets_end c.args.text.now (3 - (c.loop-dots.dots + 1))))
    (sym c.octet_end-in-loop-dots.ensures.exact ∙ c.in_err-end-2.was) in
    c.from_residual-in_err-end-2.ensures ∙ sym step

pub loop-dots-preserved : goal.loop-dots-preserved
loop-dots-preserved c =
    let n : 3 - c.loop-dots.dots ≡ (3 - (c.loop-dots.dots + 1)) + 1 =
    omega (arith, c.loop-dots-test.true) in
    let step = c.loop-dots.invariant.left ∙ octets_end-goes-on-after-dot _ _ _ _ n
    (sym c.next_is.ensures.value ∙ c.if-not-next_is.false)
    ∙ ap (option_and_then (octets_end c.args.text.now (3 - (c.loop-dots.dots + 1))))
    (sym c.octet_end-in-loop-dots.ensures.exact ∙ c.in_ok-end-2.was) in
    record { boundary = search rules; left = step }
