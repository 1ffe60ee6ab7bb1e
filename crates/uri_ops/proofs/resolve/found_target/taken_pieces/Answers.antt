use Rattle.uri_ops.proofs.Common.{arith, ◌++◌, subst, recompose-components, components_of}
use Rattle.uri_ops.specs.Models.FoundTargets.{IsMadeOf}
use Rattle.uri_ops.proofs.Targeting.FoundTargets.{text-of-found-target-is-target, text-of-target-has-positions}
use Rattle.uri_ops.proofs.resolve.found_target.taken_pieces.Goals as goal

pub returns-in-Reference-clause-target : goal.returns-in-Reference-clause-target
returns-in-Reference-clause-target c =
    grind (arith, text-of-found-target-is-target, recompose-components)

pub returns-in-Reference-clause-at : goal.returns-in-Reference-clause-at
returns-in-Reference-clause-at c = grind (arith, text-of-target-has-positions, recompose-components)

pub returns-in-Pieces-clause-target : goal.returns-in-Pieces-clause-target
returns-in-Pieces-clause-target c = grind (arith, text-of-found-target-is-target)

pub returns-in-Pieces-clause-at : goal.returns-in-Pieces-clause-at
returns-in-Pieces-clause-at c =
    let b = components_of c.args.base.now in
    let r = components_of c.args.reference.now in
    let pieces = c.in-Pieces.pieces in
    let made = subst (IsMadeOf c.args.allow_path_underflow b r) c.in-Pieces.is
    c.in-Ok.ensures.found.made in
    text-of-target-has-positions c.args.base.now.text.now c.args.reference.now.text.now
    (pieces.prefix.now ++ pieces.suffix.now) pieces.positions c.requires made.0.text made.0.places
