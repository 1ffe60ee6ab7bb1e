use Rattle.uri_commands.proofs.Common.{arith, rules, ◌≡◌, ◌∷◌, ◌∙◌, ap, map, rules_of_set, uri_ref_text, uri_text, texts}
use Rattle.uri_commands.proofs.LinkLines.{outcome_lines-are-link_lines}
use Rattle.uri_commands.proofs.Refusals.{mapped-parse-error-is-of-text}
use Rattle.uri_commands.proofs.links.noted.Goals as goal

pub returns-in_err-base-clause-refused : goal.returns-in_err-base-clause-refused
returns-in_err-base-clause-refused c = grind (arith, mapped-parse-error-is-of-text)

pub returns-clause-lines : goal.returns-clause-lines
returns-clause-lines c =
    let base : uri_text c.in_ok-base.base ≡ c.args.base.now = search rules in
    let references : map uri_ref_text c.as_slice.result.now
    ≡ c.args.reference.now ∷ texts c.args.others.now = search rules in
    let ruled = c.new-register.ensures.rules ∙ ap rules_of_set c.scheme_rules_with.ensures.rules in
    outcome_lines-are-link_lines c.args.rules _ _ _ _ _ _ _ _ ruled base
    c.new-register.ensures.empty references c.in_ok-outcomes.ensures.noted
