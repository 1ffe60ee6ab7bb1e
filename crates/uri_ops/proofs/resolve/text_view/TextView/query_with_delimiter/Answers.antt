use Rattle.uri_ops.proofs.Common.{arith, sym, subst, IsCharBoundary, components}
use Rattle.uri_ops.proofs.Targeting.TextViews.{path_end-is-boundary, query-end-is-boundary, slice-of-query}
use Rattle.uri_ops.proofs.resolve.text_view.TextView.query_with_delimiter.Goals as goal

pub range-requires-clause-start_boundary : goal.range-requires-clause-start_boundary
range-requires-clause-start_boundary c = λ _. path_end-is-boundary
    c.as_str-text.result.now c.unpack-positions.result c.as_str-text.utf8 c.unpack-positions.ensures

pub range-requires-clause-end_boundary : goal.range-requires-clause-end_boundary
range-requires-clause-end_boundary c = subst (IsCharBoundary c.as_str-text.result.now)
    (sym c.before_fragment.ensures) (query-end-is-boundary c.as_str-text.result.now
    c.unpack-positions.result c.as_str-text.utf8 c.unpack-positions.ensures)

pub returns : goal.returns
returns c = grind (arith, slice-of-query, components)
