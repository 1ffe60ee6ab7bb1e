use Rattle.uri_ops.proofs.Common.{arith, ap, subst, sym, ◌∙◌, recompose, packed, positions_of, recompose-components, components_of, dotted_target}
use Rattle.uri_ops.specs.Models.FoundTargets.{IsMadeOf}
use Rattle.uri_ops.proofs.Targeting.FoundTargets.{text-of-found-target-is-target, text-of-target-has-positions}
use Rattle.uri_ops.proofs.resolve.target_text.target_text.Goals as goal

pub returns-in_ok-from_str-in-Reference-clause-target
    : goal.returns-in_ok-from_str-in-Reference-clause-target
returns-in_ok-from_str-in-Reference-clause-target c =
    let b = components_of c.args.base.now in
    let r = components_of c.args.reference.now in
    let found = c.in_ok-found.ensures.found in
    let made = subst (IsMadeOf c.args.allow_path_underflow b r) c.in-Reference.is found.made in
    text-of-found-target-is-target b r c.args.allow_path_underflow _ found.none found.taken
    (c.in_ok-from_str-in-Reference.ensures.ok ∙ c.as_str.ensures.text
    ∙ sym (recompose-components c.args.reference.now.text.now) ∙ sym (ap recompose made.0))
    (λ _. made.1)

pub returns-in_ok-from_str-in-Reference-clause-at
    : goal.returns-in_ok-from_str-in-Reference-clause-at
returns-in_ok-from_str-in-Reference-clause-at c =
    let b = components_of c.args.base.now in
    let r = components_of c.args.reference.now in
    let made = subst (IsMadeOf c.args.allow_path_underflow b r) c.in-Reference.is
    c.in_ok-found.ensures.found.made in
    text-of-target-has-positions c.args.base.now.text.now c.args.reference.now.text.now _
    c.packed_positions.result c.requires
    (c.in_ok-from_str-in-Reference.ensures.ok ∙ c.as_str.ensures.text
    ∙ sym (recompose-components c.args.reference.now.text.now) ∙ sym (ap recompose made.0))
    (c.packed_positions.ensures ∙ sym (ap (λ p. packed (positions_of p)) made.0))

pub returns-in_ok-joined-in-Pieces-clause-target : goal.returns-in_ok-joined-in-Pieces-clause-target
returns-in_ok-joined-in-Pieces-clause-target c = grind (arith, text-of-found-target-is-target)

pub returns-in_ok-joined-in-Pieces-clause-at : goal.returns-in_ok-joined-in-Pieces-clause-at
returns-in_ok-joined-in-Pieces-clause-at c =
    let b = components_of c.args.base.now in
    let r = components_of c.args.reference.now in
    let made = subst (IsMadeOf c.args.allow_path_underflow b r) c.in-Pieces.is
    c.in_ok-found.ensures.found.made in
    text-of-target-has-positions c.args.base.now.text.now c.args.reference.now.text.now _
    c.in-Pieces.pieces.positions c.requires
    (c.in_ok-joined-in-Pieces.ensures ∙ made.0.text) made.0.places

pub written_target-requires : goal.written_target-requires
written_target-requires c = grind arith

pub returns-else-underflowed-clause-target : goal.returns-else-underflowed-clause-target
returns-else-underflowed-clause-target c = grind (arith, text-of-found-target-is-target)

pub returns-else-underflowed-clause-at : goal.returns-else-underflowed-clause-at
returns-else-underflowed-clause-at c =
    let b = components_of c.args.base.now in
    let r = components_of c.args.reference.now in
    let t = dotted_target b r in
    let made = subst (IsMadeOf c.args.allow_path_underflow b r) c.in-Dotted.is
    c.in_ok-found.ensures.found.made in
    text-of-target-has-positions c.args.base.now.text.now c.args.reference.now.text.now _ _
    c.requires (c.in_ok-target-in-Dotted.ensures.text t made)
    (c.in_ok-target-in-Dotted.ensures.places t made)
