use Rattle.uri_parts.proofs.Common.{arith}
use Rattle.uri_parts.proofs.Splitting.ComponentPositions.{query_is_at_positions}
use Rattle.uri_parts.proofs.positions.Positions.query.Goals as goal

pub range-requires-clause-start_boundary : goal.range-requires-clause-start_boundary
range-requires-clause-start_boundary c = λ _. (query_is_at_positions c.args.text.now
    c.args.self.now c.utf8.text c.requires c.in_ok-end.end c.in_ok-end.was).starts

pub range-requires-clause-end_boundary : goal.range-requires-clause-end_boundary
range-requires-clause-end_boundary c = (query_is_at_positions c.args.text.now
    c.args.self.now c.utf8.text c.requires c.in_ok-end.end c.in_ok-end.was).ends

pub returns : goal.returns
returns c = grind (arith, query_is_at_positions)
