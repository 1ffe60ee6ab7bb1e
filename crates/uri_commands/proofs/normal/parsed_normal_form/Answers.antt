use Rattle.uri_commands.proofs.Common.{arith}
use Rattle.uri_commands.proofs.Refusals.{parse-error-is-of-text}
use Rattle.uri_commands.proofs.normal.parsed_normal_form.Goals as goal

pub returns-in_err-value-clause-refused : goal.returns-in_err-value-clause-refused
returns-in_err-value-clause-refused g c = grind (arith, parse-error-is-of-text)
