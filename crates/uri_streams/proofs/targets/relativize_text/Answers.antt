use Rattle.uri_streams.proofs.Common.{arith, ap, codes, ◌∙◌, reference_text, Text, relativize_result, result_in}
use Rattle.uri_relative.specs.Rule.{reference_to}
use Rattle.uri_streams.proofs.TextResults.{parsed_result-of-error, parsed_result-of-kind}
use Rattle.uri_streams.proofs.targets.relativize_text.Goals as goal

pub returns-in_ok-reference-in-Ok : goal.returns-in_ok-reference-in-Ok
unfolding relativize_result
returns-in_ok-reference-in-Ok g c = grind (arith, parsed_result-of-kind)

pub returns-in-Err : goal.returns-in-Err
unfolding relativize_result
returns-in-Err g c = ap result_in c.target_error_result.ensures ∙ parsed_result-of-error
    (codes "target: ") g.K.Kind.kind c.args.text.now
    (Text (reference_to c.args.prefers (reference_text c.args.base.now) c.args.text.now))
    c.in-Err.error c.in-Err.ensures.accepts c.in-Err.ensures.refused
