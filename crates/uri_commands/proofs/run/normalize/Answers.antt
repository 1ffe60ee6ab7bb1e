use Rattle.std.proofs.Common.{rules}
use Rattle.uri_commands.proofs.Outputs.{failed-output-is-error-of-normalize}
use Rattle.uri_commands.proofs.run.normalize.Goals as goal

pub returns-clause-refused : goal.returns-clause-refused
returns-clause-refused g c = failed-output-is-error-of-normalize c.args.rules c.args.kind
    c.args.text.now c.print_line.result c.in_ok-normal.ensures.of_kind c.print_line.ensures.failed

pub returns-in_err-normal-clause-keeps : goal.returns-in_err-normal-clause-keeps
returns-in_err-normal-clause-keeps g c = search rules

pub returns-in_err-normal-clause-kept : goal.returns-in_err-normal-clause-kept
returns-in_err-normal-clause-kept g c = search rules
