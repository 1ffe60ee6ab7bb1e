use Rattle.uri_ops.proofs.Common.{arith, components}
use Rattle.uri_ops.proofs.Targeting.TextViews.{path_start-is-boundary, slice-before-path}
use Rattle.uri_ops.proofs.resolve.text_view.TextView.before_path.Goals as goal

pub range-requires-clause-end_boundary : goal.range-requires-clause-end_boundary
range-requires-clause-end_boundary c = path_start-is-boundary
    c.as_str-text.result.now c.unpack-positions.result c.as_str-text.utf8 c.unpack-positions.ensures

pub returns : goal.returns
returns c = grind (arith, slice-before-path, components)
