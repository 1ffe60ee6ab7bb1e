use Rattle.uri_relative.proofs.Common.{sym, ap, ◌∙◌, arith, None, is_some, cond-true, Components, positions_of, components_of}
use Rattle.uri_relative.proofs.ends.TargetSuffix.from_authority.Goals as goal

pub returns-then-has_authority-clause-at : goal.returns-then-has_authority-clause-at
returns-then-has_authority-clause-at c =
    let t = components_of c.args.target.now in
    let other : Components = record t { scheme = None } in
    c.positions_after_scheme.ensures ∙ ap positions_of (sym (cond-true (is_some t.authority) other t
    (sym c.has_authority.ensures ∙ c.if-has_authority.true)))

pub returns-clause-text : goal.returns-clause-text
returns-clause-text c =
    let t = components_of c.args.target.now in
    let other : Components = record t { scheme = None } in
    grind arith

pub returns-clause-at : goal.returns-clause-at
returns-clause-at c =
    let t = components_of c.args.target.now in
    let other : Components = record t { scheme = None } in
    grind arith
