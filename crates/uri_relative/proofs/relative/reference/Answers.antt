use Rattle.uri_relative.proofs.Common.{◌++◌, ap, refl, string_bytes, sym, ◌∙◌, arith, components, recompose, positions_of, components_of}
use Rattle.uri_relative.proofs.Leading.{reference-text-is-reference, components-of-reference-text}
use Rattle.uri_relative.proofs.relative.reference.Goals as goal

pub returns-clause-leads : goal.returns-clause-leads
returns-clause-leads c = λ kind w.
    let found = c.in_ok-positions.ensures.leads in
    reference-text-is-reference kind c.args.prefers_relative (components_of c.args.base.now)
    (components_of c.args.target.now) found.0 (string_bytes c.push_reference.new.out)
    (string_bytes c.push_reference.new.out) (found.3 kind w)
    (found.1 ∙ ap (λ t. t ++ recompose found.0) c.in_ok-text.ensures.bytes) refl

pub returns-clause-at : goal.returns-clause-at
returns-clause-at c = λ kind w.
    let found = c.in_ok-positions.ensures.leads in
    found.2 ∙ ap positions_of (sym
    (ap components (found.1 ∙ ap (λ t. t ++ recompose found.0) c.in_ok-text.ensures.bytes)
    ∙ components-of-reference-text kind c.args.prefers_relative (components_of c.args.base.now)
    (components_of c.args.target.now) found.0 (found.3 kind w)))

pub returns-clause-text : goal.returns-clause-text
returns-clause-text c = grind arith
