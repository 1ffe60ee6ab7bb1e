use Rattle.uri_streams.proofs.Common.{arith, ◌+◌, subst, sym, result_report, result_in, ReportsPrefix, error_output_of}
use Rattle.uri_streams.proofs.output.write_result.Goals as goal

pub returns-in_err-write_error-in-Error-clause-reports
    : goal.returns-in_err-write_error-in-Error-clause-reports
returns-in_err-write_error-in-Error-clause-reports g c =
    subst (λ r. ReportsPrefix (error_output_of g.E.Write.contents c.args.err.now)
    (error_output_of g.E.Write.contents c.write_error.new.err)
    (result_report c.args.step.job.now.errors (c.args.step.before + 1) (result_in r)))
    (sym c.in-Error.is) c.write_error.ensures.reports

pub returns-clause-whole : goal.returns-clause-whole
returns-clause-whole g c = grind arith

pub returns-clause-reports : goal.returns-clause-reports
returns-clause-reports g c = grind arith
