use Rattle.uri_ops.proofs.Common.{ap, sym, ◌∙◌, components, packed, positions_of, components_of}
use Rattle.uri_ops.proofs.Targeting.TargetCases.{settled-text-has-settled-components}
use Rattle.uri_ops.proofs.resolve.target_text.target_with_scheme.Goals as goal

pub written_target-requires : goal.written_target-requires
written_target-requires c = c.with_scheme.ensures.rooted

pub returns-clause-text : goal.returns-clause-text
returns-clause-text c =
    c.in_ok-target.ensures.text (components_of c.args.reference.now) c.with_scheme.ensures

pub returns-clause-at : goal.returns-clause-at
returns-clause-at c =
    let r = components_of c.args.reference.now in
    c.in_ok-target.ensures.places r c.with_scheme.ensures ∙ sym (ap (λ p. packed (positions_of p))
    (ap components (c.in_ok-target.ensures.text r c.with_scheme.ensures)
    ∙ settled-text-has-settled-components c.args.reference.now.text.now c.requires))
