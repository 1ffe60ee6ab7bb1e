use Rattle.uri_parts.proofs.Common.{ap, sym, ◌∙◌, length, eqb, Some, rules, option_map, text_of}
use Rattle.uri_parts.proofs.Authorities.Ports.{port-is-parsed-as-its-number}
use Rattle.uri_parts.proofs.component.Authority.port_to_u16.Goals as goal

pub returns-in_err-parse-in-Some-clause-number : goal.returns-in_err-parse-in-Some-clause-number
returns-in_err-parse-in-Some-clause-number g c =
    let is = ap Some c.as_str.ensures.text ∙ ap (option_map text_of) (sym c.in-Some.is)
    ∙ c.port.ensures in
    let long = ap (λ t. eqb (length t) 0) c.as_str.ensures.text ∙ sym c.is_empty.ensures
    ∙ c.if-not-is_empty.true in
    let parsed = port-is-parsed-as-its-number _ c.as_str.result.now c.parse.result is c.as_str.utf8
    c.as_str.ensures.valid long c.parse.ensures.value.0 c.parse.ensures.value.1 in
    let refused = parsed.err c.in_err-parse-in-Some.field-0.0 c.in_err-parse-in-Some.was in
    search rules

pub returns-in_err-parse-in-Some-clause-refused : goal.returns-in_err-parse-in-Some-clause-refused
returns-in_err-parse-in-Some-clause-refused g c =
    let is = ap Some c.as_str.ensures.text ∙ ap (option_map text_of) (sym c.in-Some.is)
    ∙ c.port.ensures in
    let long = ap (λ t. eqb (length t) 0) c.as_str.ensures.text ∙ sym c.is_empty.ensures
    ∙ c.if-not-is_empty.true in
    let parsed = port-is-parsed-as-its-number _ c.as_str.result.now c.parse.result is c.as_str.utf8
    c.as_str.ensures.valid long c.parse.ensures.value.0 c.parse.ensures.value.1 in
    let refused = parsed.err c.in_err-parse-in-Some.field-0.0 c.in_err-parse-in-Some.was in
    search rules

pub returns-in_ok-parse-in-Some-clause-number : goal.returns-in_ok-parse-in-Some-clause-number
returns-in_ok-parse-in-Some-clause-number g c =
    let is = ap Some c.as_str.ensures.text ∙ ap (option_map text_of) (sym c.in-Some.is)
    ∙ c.port.ensures in
    let long = ap (λ t. eqb (length t) 0) c.as_str.ensures.text ∙ sym c.is_empty.ensures
    ∙ c.if-not-is_empty.true in
    let parsed = port-is-parsed-as-its-number _ c.as_str.result.now c.parse.result is c.as_str.utf8
    c.as_str.ensures.valid long c.parse.ensures.value.0 c.parse.ensures.value.1 in
    parsed.ok c.in_ok-parse-in-Some.field-0 c.in_ok-parse-in-Some.was
