use Rattle.uri_streams.proofs.Common.{◌≡◌, rules, Ok, cut_without_other_fields, line_cut}
use Rattle.uri_streams.proofs.Steps.{writes-output-of-cut}
use Rattle.uri_streams.proofs.output.write_line.Goals as goal

pub returns : goal.returns
returns g c =
    let cut = cut_without_other_fields (Ok c.args.line.text.now) in
    let is : cut ≡ line_cut c.args.step.job.now c.args.line.bytes.now = search rules in
    let result = c.write_result.ensures in
    let writes = writes-output-of-cut c.args.step.job.now _ _ c.bytes_result.new.self _ _ _ _ _ _
    cut c.in_ok-line_result.line_result is c.in_ok-line_result.ensures c.write_result.result
    result.whole result.prefix result.reports in
    record { whole = writes.0; prefix = writes.1; failures = search rules }
