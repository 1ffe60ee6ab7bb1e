use Rattle.uri_parts.proofs.Common.{◌≡◌, ◌+◌, ◌≤◌, true, length, drop, sym, ap, ◌∙◌, arith, length-drop, option_map, Ok, starts}
use Rattle.uri_parts.proofs.HostForms.Ipv6Literals.{no_ipv6_is_no_literal, unclosed_ipv6_is_no_literal}
use Rattle.uri_parts.proofs.Refusals.Literals.{literal-ends-after-read-ipv6, literal-rejects-unparsed}
use Rattle.uri_parts.proofs.ip_literal.closed_ipv6_end.Goals as goal

pub returns-then-next_is-clause-exact : goal.returns-then-next_is-clause-exact
returns-then-next_is-clause-exact c =
    let text = c.args.text.now in
    let end = c.in_ok-end.end in
    let found = rw (c.in_ok-end.was, c.as_bytes.ensures.value) at c.in_ok-found.ensures in
    let closed : starts 93 (drop end text) ≡ true =
    sym c.next_is.ensures.value ∙ c.if-next_is.true in
    let within : end ≤ length text = found.end in
    literal-ends-after-read-ipv6 text (drop end text) c.args.start (ap (option_map (λ p. p.1))
    found.read) closed ∙ ap (λ n. Ok (n + 1)) (omega (arith, length-drop end text))

pub returns-else-next_is-clause-absent : goal.returns-else-next_is-clause-absent
returns-else-next_is-clause-absent c =
    grind (arith, literal-rejects-unparsed, unclosed_ipv6_is_no_literal)

pub returns-in_err-end-clause-absent : goal.returns-in_err-end-clause-absent
returns-in_err-end-clause-absent c = grind (arith, literal-rejects-unparsed, no_ipv6_is_no_literal)
