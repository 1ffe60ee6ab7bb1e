use Rattle.fluent_uri_c.proofs.Common.{Some, ap, Positions, components, path_is_at_positions}
use Rattle.fluent_uri_c.proofs.Places.{IsSpan-of-positions}
use Rattle.fluent_uri_c.proofs.parts.path.Goals as goal

pub returns : goal.returns
returns c = IsSpan-of-positions c.args.text.now _ c.args.at.path_start c.args.at.path_end
    (Some (components c.args.text.now).path) (ap (λ (p : Positions). p.path_start) c.requires)
    (path_is_at_positions c.args.text.now c.args.at c.utf8.text c.requires)
