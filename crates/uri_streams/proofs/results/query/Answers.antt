use Rattle.uri_streams.proofs.Common.{arith, [], ap, ◌∙◌, components, kind_named, query_json, Text, query_result, result_in}
use Rattle.uri_streams.proofs.TextResults.{parsed_result-of-error, parsed_result-of-kind}
use Rattle.uri_streams.proofs.results.query.Goals as goal

pub returns-in_ok-query_json-in-Ok : goal.returns-in_ok-query_json-in-Ok
unfolding query_result
returns-in_ok-query_json-in-Ok c = grind (arith, components, parsed_result-of-kind, kind_named)

pub returns-in-Err : goal.returns-in-Err
unfolding query_result
returns-in-Err c = ap result_in c.refused.ensures ∙ parsed_result-of-error []
    (kind_named c.args.kind) c.args.text.now (Text (query_json (components c.args.text.now).query))
    c.in-Err.error c.in-Err.ensures.accepts c.in-Err.ensures.refused
