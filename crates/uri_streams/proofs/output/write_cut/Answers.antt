use Rattle.uri_streams.proofs.Common.{ap, rules, ◌∙◌, bounded_cut, cut_in}
use Rattle.uri_streams.proofs.Steps.{writes-output-of-cut}
use Rattle.uri_streams.proofs.output.write_cut.Goals as goal

pub returns : goal.returns
returns g c =
    let job = c.args.step.job.now in
    let result = c.write_result.ensures in
    let writes = writes-output-of-cut job _ _ c.result_for.new.self _ _ _ _ _ _
    (cut_in c.line_cut.result) c.in_ok-line_result.line_result
    (c.line_cut.ensures ∙ ap (bounded_cut job.max_line job.field) c.requires.text)
    c.in_ok-line_result.ensures c.write_result.result result.whole result.prefix result.reports in
    record { whole = writes.0; prefix = writes.1; failures = search rules }
