use Rattle.uri_ops.proofs.Common.{arith, sym, subst, IsCharBoundary, components}
use Rattle.uri_ops.proofs.Targeting.TextViews.{query-end-is-boundary, slice-of-fragment}
use Rattle.uri_ops.proofs.resolve.text_view.TextView.fragment_with_delimiter.Goals as goal

pub range_from-requires : goal.range_from-requires
range_from-requires c = λ _. subst (IsCharBoundary c.as_str-text.result.now)
    (sym c.before_fragment.ensures) (query-end-is-boundary c.as_str-text.result.now
    c.unpack-positions.result c.as_str-text.utf8 c.unpack-positions.ensures)

pub returns : goal.returns
returns c = grind (arith, slice-of-fragment, components)
