use Rattle.uri_streams.proofs.Common.{◌∙◌, ap, subst, reported_error, line_error_message, Reports, error_output_of}
use Rattle.uri_streams.proofs.output.show_error.Goals as goal

pub returns : goal.returns
returns g c =
    let shown = subst (Reports (error_output_of g.E.Write.contents c.args.err.now)
    (error_output_of g.E.Write.contents c.show.new.err))
    (c.as_str.ensures.value ∙ c.in_ok-message.ensures
    ∙ ap (λ n. reported_error n (line_error_message c.args.fault)) c.number.ensures)
    c.show.ensures in
    record { reported = shown; reports = shown.0 }
