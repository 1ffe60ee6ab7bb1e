use Rattle.uri_streams.proofs.Common.{◌+◌, subst, sym, error_report, line_error_message, Reports, error_output_of}
use Rattle.uri_streams.proofs.output.write_error.Goals as goal

pub returns-in-Stderr-clause-reported : goal.returns-in-Stderr-clause-reported
returns-in-Stderr-clause-reported g c =
    subst (λ mode. Reports (error_output_of g.E.Write.contents c.args.err.now)
    (error_output_of g.E.Write.contents c.show_error.new.err)
    (error_report mode (c.args.step.before + 1) (line_error_message c.args.fault)))
    (sym c.in-Stderr.is) c.in_ok-show_error-in-Stderr.ensures.reported

pub returns-clause-reported : goal.returns-clause-reported
returns-clause-reported g c =
    subst (λ mode. Reports (error_output_of g.E.Write.contents c.args.err.now)
    (error_output_of g.E.Write.contents c.show_error-in-Stop.new.err)
    (error_report mode (c.args.step.before + 1) (line_error_message c.args.fault)))
    (sym c.in-Stop.is) c.in_ok-show_error-in-Stop.ensures.reported
