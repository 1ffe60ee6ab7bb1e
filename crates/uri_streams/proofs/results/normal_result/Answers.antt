use Rattle.std.proofs.Common.{arith, ℕ, List, [], ap, refl, subst, ◌∙◌}
use Rattle.fluent_uri.specs.Prelude.{HasNormalText, rules_of_set}
use Rattle.uri_commands.proofs.Offered.{normal_form_is}
use Rattle.uri_commands.specs.Kinds.{normal_form_of}
use Rattle.uri_streams.proofs.TextResults.{parsed_result-of-error, parsed_result-of-kind}
use Rattle.uri_streams.specs.Results.{LineResult, Text, normalize_result}
use Rattle.uri_streams.specs.Returned.{result_in}
use Rattle.uri_streams.proofs.results.normal_result.Goals as goal

pub returns-in-Err-clause-result : goal.returns-in-Err-clause-result
unfolding normalize_result
returns-in-Err-clause-result g c =
    ap result_in c.refused.ensures
    ∙ parsed_result-of-error [] g.K.Kind.kind c.args.text.now
    (Text (normal_form_of c.args.rules g.K.Kind.kind c.args.text.now)) c.in-Err.error
    c.in-Err.ensures.accepts c.in-Err.ensures.refused

pub returns-then-is_found_normal-clause-result : goal.returns-then-is_found_normal-clause-result
unfolding normalize_result
returns-then-is_found_normal-clause-result g c =
    let kind = g.K.Kind.kind in
    let text = c.args.text.now in
    let form : List ℕ → LineResult = λ t. Text (normal_form_of c.args.rules kind t) in
    let own : HasNormalText kind (rules_of_set c.args.rules) text text =
    subst (λ t. HasNormalText kind (rules_of_set c.args.rules) t t)
    (c.core.ensures.text ∙ c.in-Ok.ensures.text)
    (c.if-is_found_normal.ensures.text refl) in
    ap Text (normal_form_is c.args.rules kind text text own)
    ∙ parsed_result-of-kind [] kind text (form text) c.in-Ok.ensures.accepts

pub returns-clause-result : goal.returns-clause-result
unfolding normalize_result
returns-clause-result g c = grind (arith, parsed_result-of-kind)
