use Rattle.std.proofs.Common.{arith, rules}
use Rattle.uri_commands.proofs.Outputs.{failed-output-is-error-of-resolve}
use Rattle.uri_commands.proofs.run.resolve.Goals as goal

pub returns-clause-refused : goal.returns-clause-refused
returns-clause-refused g c = grind (arith, failed-output-is-error-of-resolve)

pub returns-in_err-target-clause-keeps : goal.returns-in_err-target-clause-keeps
returns-in_err-target-clause-keeps g c = search rules

pub returns-in_err-target-clause-kept : goal.returns-in_err-target-clause-kept
returns-in_err-target-clause-kept g c = search rules
