use Rattle.uri_commands.proofs.Common.{arith, rules}
use Rattle.uri_commands.proofs.Outputs.{failed-output-is-error-of-links}
use Rattle.uri_commands.proofs.run.links.Goals as goal

pub returns-clause-refused : goal.returns-clause-refused
returns-clause-refused g c = grind (arith, failed-output-is-error-of-links)

pub returns-in_err-noted-clause-keeps : goal.returns-in_err-noted-clause-keeps
returns-in_err-noted-clause-keeps g c = search rules

pub returns-in_err-noted-clause-kept : goal.returns-in_err-noted-clause-kept
returns-in_err-noted-clause-kept g c = search rules

pub returns-clause-succeeded : goal.returns-clause-succeeded
returns-clause-succeeded g c = search rules
