use Rattle.uri_parts.proofs.Common.{rules, tests, ap, sym, ◌∙◌, option_map}
use Rattle.std.proofs.lemmas.Iterator.{YieldsList-from_slice}
use Rattle.std.proofs.lemmas.Iterator.Search.{find_from_yields_List}
use Rattle.uri_parts.proofs.Authorities.SchemePorts.{is_named, found-row-gives-port-of-name}
use Rattle.uri_parts.proofs.default_ports.port_of_named_row.Goals as goal

pub returns-in_err-port : goal.returns-in_err-port
returns-in_err-port c =
    let name = c.args.name.now in
    let rows = c.args.rows.now in
    let found = find_from_yields_List (is_named name) _ _ c.find.result c.find.ensures.ran
    (YieldsList-from_slice rows cc) (λ x b q k. search (rules, tests)) in
    c.from_residual.ensures ∙ ap (option_map (λ x. x.now.1)) (sym c.in_err-port.was)
    ∙ found-row-gives-port-of-name name rows c.find.result found

pub returns : goal.returns
returns c =
    let name = c.args.name.now in
    let rows = c.args.rows.now in
    let found = find_from_yields_List (is_named name) _ _ c.find.result c.find.ensures.ran
    (YieldsList-from_slice rows cc) (λ x b q k. search (rules, tests)) in
    ap (option_map (λ x. x.now.1)) (sym c.in_ok-port.was)
    ∙ found-row-gives-port-of-name name rows c.find.result found
