use Rattle.uri_streams.proofs.Common.{arith, ap, codes, ◌∙◌, reference_text, resolve_result, target_result_by, result_in}
use Rattle.uri_streams.proofs.TextResults.{parsed_result-of-error, parsed_result-of-kind}
use Rattle.uri_streams.proofs.targets.resolve_text.Goals as goal

pub returns-in-Ok : goal.returns-in-Ok
unfolding resolve_result
returns-in-Ok g c = grind (arith, parsed_result-of-kind)

pub returns-in-Err : goal.returns-in-Err
unfolding resolve_result
returns-in-Err g c = ap result_in c.refused.ensures ∙ parsed_result-of-error (codes "reference: ")
    g.K.Kind.kind c.args.text.now
    (target_result_by c.args.is_basic (reference_text c.args.base.now) c.args.text.now)
    c.in-Err.error c.in-Err.ensures.accepts c.in-Err.ensures.refused
