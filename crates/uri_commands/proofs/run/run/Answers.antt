use Rattle.std.proofs.Common.{rules, refl, sym, ◌∙◌}
use Rattle.std.proofs.lemmas.Option.{none-some}
use Rattle.uri_commands.specs.Asked.{contract_command}
use Rattle.uri_commands.proofs.Commands.{same-words-same-output}
use Rattle.uri_commands.proofs.run.run.Goals as goal

pub returns-in-Err-clause-refused : goal.returns-in-Err-clause-refused
returns-in-Err-clause-refused g c =
    λ command is none. (
      refl,
      c.run_command.ensures.keeps
          (same-words-same-output (contract_command c.in-Some.command) command
          (sym c.in-Some.ensures ∙ is) ∙ none),
    )

pub returns-in-Ok-clause-refused : goal.returns-in-Ok-clause-refused
returns-in-Ok-clause-refused g c =
    λ command is none. absurd (none-some _ (
    sym (same-words-same-output (contract_command c.in-Some.command) command
    (sym c.in-Some.ensures ∙ is) ∙ none) ∙ c.in-Ok.ensures.succeeded.1
    ))

pub returns-in-Ok-clause-succeeded : goal.returns-in-Ok-clause-succeeded
returns-in-Ok-clause-succeeded g c = search rules

pub returns-in-Err-clause-shown : goal.returns-in-Err-clause-shown
returns-in-Err-clause-shown g c = search rules

pub returns-in_default-clause-usage : goal.returns-in_default-clause-usage
returns-in_default-clause-usage g c = search rules

pub returns-in_default-clause-shown : goal.returns-in_default-clause-shown
returns-in_default-clause-shown g c = search rules

pub returns-in_default-clause-usage_shown : goal.returns-in_default-clause-usage_shown
returns-in_default-clause-usage_shown g c = search rules
