use Rattle.uri_parts.proofs.Splitting.ComponentPositions.{has_fragment}
use Rattle.uri_parts.proofs.positions.Positions.has_fragment.Goals as goal

pub returns : goal.returns
returns c = has_fragment c.args.text.now c.args.self.now c.requires c.before_fragment.result
    c.before_fragment.ensures
