use Rattle.uri_parts.proofs.Common.{◌<◌, ◌-◌, ◌∙◌, ap, sym, arith, length, get_or, to_ascii_lowercase, is_ascii_lowercase, eqb-false, port_ignoring_case}
use Rattle.uri_parts.proofs.Authorities.SchemeRows.{default-port-by-rows-of-first-letter, no-default-port-without-first-letter, empty-scheme-has-no-default-port}
use Rattle.uri_parts.proofs.default_ports.of_scheme.Goals as goal

pub returns-then-is_empty : goal.returns-then-is_empty
returns-then-is_empty c = grind (arith, empty-scheme-has-no-default-port)

pub returns-then-not-is_ascii_lowercase : goal.returns-then-not-is_ascii_lowercase
returns-then-not-is_ascii_lowercase c = grind (arith, no-default-port-without-first-letter)

pub returns : goal.returns
returns c =
    let scheme = c.args.scheme.now in
    let nth = c.from.result in
    let letter = c.to_ascii_lowercase-letter.ensures.value
    ∙ ap (λ x. to_ascii_lowercase (get_or x 0 0)) c.as_bytes-bytes.ensures.value in
    let low = ap is_ascii_lowercase (sym letter) ∙ sym c.is_ascii_lowercase.ensures.value
    ∙ c.if-not-is_ascii_lowercase.false in
    let some = eqb-false _ 0 (sym c.is_empty.ensures ∙ c.if-is_empty.false) in
    let same = ap length c.as_bytes-bytes.ensures.value in
    let long : 0 < length scheme = omega (arith, some, same) in
    c.port_of_named_row.ensures ∙ ap (port_ignoring_case scheme) c.rows_of_letter-rows.ensures
    ∙ default-port-by-rows-of-first-letter scheme nth long low (c.from.ensures
    ∙ ap (λ x. x - 97) letter)
