use Rattle.uri_ops.proofs.Common.{arith, components}
use Rattle.uri_ops.proofs.Targeting.TextViews.{path_end-is-boundary, slice-after-path}
use Rattle.uri_ops.proofs.resolve.text_view.TextView.after_path.Goals as goal

pub range_from-requires : goal.range_from-requires
range_from-requires c = λ _. path_end-is-boundary c.as_str-text.result.now c.unpack-positions.result
    c.as_str-text.utf8 c.unpack-positions.ensures

pub returns : goal.returns
returns c = grind (arith, slice-after-path, components)
