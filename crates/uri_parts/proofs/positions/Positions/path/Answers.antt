use Rattle.uri_parts.proofs.Splitting.ComponentPositions.{path_is_at_positions}
use Rattle.uri_parts.proofs.positions.Positions.path.Goals as goal

pub range-requires-clause-start_boundary : goal.range-requires-clause-start_boundary
range-requires-clause-start_boundary c =
    λ _. (path_is_at_positions c.args.text.now c.args.self.now c.utf8.text c.requires).starts

pub range-requires-clause-end_boundary : goal.range-requires-clause-end_boundary
range-requires-clause-end_boundary c =
    (path_is_at_positions c.args.text.now c.args.self.now c.utf8.text c.requires).ends

pub returns : goal.returns
returns c = let holds = (path_is_at_positions c.args.text.now c.args.self.now c.utf8.text
    c.requires).holds in
    cc
