use Rattle.std.proofs.Common.{rules}
use Rattle.uri_commands.proofs.Outputs.{failed-output-is-error-of-mend}
use Rattle.uri_commands.proofs.run.mend.Goals as goal

pub returns-clause-refused : goal.returns-clause-refused
returns-clause-refused g c = failed-output-is-error-of-mend c.args.kind c.args.text.now
    c.print_line.result c.in_ok-link.ensures.mendable c.print_line.ensures.failed

pub returns-in_err-link-clause-keeps : goal.returns-in_err-link-clause-keeps
returns-in_err-link-clause-keeps g c = search rules

pub returns-in_err-link-clause-kept : goal.returns-in_err-link-clause-kept
returns-in_err-link-clause-kept g c = search rules
