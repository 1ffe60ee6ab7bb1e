use Rattle.std.proofs.Common.{◌++◌, ap, string_bytes, ◌∙◌, arith}
use Rattle.uri_relative.proofs.reference.push_reference.Goals as goal

pub returns-in_ok-push_str-in-Some-clause-leads : goal.returns-in_ok-push_str-in-Some-clause-leads
returns-in_ok-push_str-in-Some-clause-leads c =
    let found = c.in-Some.ensures.some in (
      found.0,
      c.in_ok-push_str-in-Some.ensures.bytes ∙ ap (λ t. string_bytes c.args.out.now ++ t) found.1,
      found.2,
      found.3 c.args.prefers_relative,
    )

pub returns-in_ok-push_str-in-Some-clause-text : goal.returns-in_ok-push_str-in-Some-clause-text
returns-in_ok-push_str-in-Some-clause-text c = grind arith
