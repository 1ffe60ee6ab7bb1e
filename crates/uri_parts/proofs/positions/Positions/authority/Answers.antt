use Rattle.uri_parts.proofs.Common.{ap, ◌∙◌, Some}
use Rattle.uri_parts.proofs.Splitting.ComponentPositions.{authority_is_at_positions}
use Rattle.uri_parts.proofs.positions.Positions.authority.Goals as goal

pub range-requires-clause-start_boundary : goal.range-requires-clause-start_boundary
range-requires-clause-start_boundary c = λ _. (authority_is_at_positions c.args.text.now
    c.args.self.now c.utf8.text c.requires c.in_ok-authority.authority c.in_ok-authority.was).starts

pub range-requires-clause-end_boundary : goal.range-requires-clause-end_boundary
range-requires-clause-end_boundary c = (authority_is_at_positions c.args.text.now
    c.args.self.now c.utf8.text c.requires c.in_ok-authority.authority c.in_ok-authority.was).ends

pub returns : goal.returns
returns c = ap Some c.range.ensures.value ∙ (authority_is_at_positions c.args.text.now
    c.args.self.now c.utf8.text c.requires c.in_ok-authority.authority c.in_ok-authority.was).holds
