use Rattle.uri_parts.proofs.Common.{refl, sym, ◌∙◌}
use Rattle.uri_parts.proofs.Refusals.Whole.{parsed_error-is-refusal, ok_exactly_if_parsed}
use Rattle.uri_parts.proofs.Theorems.{parse_result_is_right, parsed_positions-are-positions_of, parses-exactly-texts-of-kind}
use Rattle.uri_parts.proofs.parse.parse.Goals as goal

pub returns-clause-accepts : goal.returns-clause-accepts
returns-clause-accepts g c =
    let same = ok_exactly_if_parsed g.K.Kind.kind
    _ _ g.met.K.Kind.known refl refl _ c.utf8.text c.parse_text.result c.parse_text.ensures.refused
    ∙ parses-exactly-texts-of-kind g.K.Kind.kind _ _ g.met.K.Kind.known refl refl _ c.utf8.text in
    ((λ ok. sym same ∙ ok), (λ of_kind. same ∙ of_kind))

pub returns-clause-positions : goal.returns-clause-positions
returns-clause-positions g c = parse_result_is_right _ _ c.args.text.now c.parse_text.result
    (ok_exactly_if_parsed g.K.Kind.kind
    _ _ g.met.K.Kind.known refl refl _ c.utf8.text c.parse_text.result c.parse_text.ensures.refused)
    (parsed_positions-are-positions_of g.K.Kind.kind _ _ g.met.K.Kind.known refl refl _ c.utf8.text)
    c.parse_text.ensures.places

pub returns-clause-refused : goal.returns-clause-refused
returns-clause-refused g c = c.parse_text.ensures.refused
    ∙ parsed_error-is-refusal g.K.Kind.kind _ _ g.met.K.Kind.known refl refl _
