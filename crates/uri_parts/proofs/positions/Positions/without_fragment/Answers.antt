use Rattle.uri_parts.proofs.Common.{None, ◌∙◌, IsWithFragment}
use Rattle.uri_parts.proofs.Splitting.Fragments.{boundary-at-fragment-mark, slice_range-from-start, stripped_is_without_fragment, text-without-fragment-stays-of-kind, positions_stay_with_fragment}
use Rattle.uri_parts.proofs.positions.Positions.without_fragment.Goals as goal

pub range-requires-clause-end_boundary : goal.range-requires-clause-end_boundary
range-requires-clause-end_boundary c = boundary-at-fragment-mark
    c.args.text.now c.args.self.now c.requires c.before_fragment.result c.before_fragment.ensures

-- the text that is left, with what is known of it
left : (c : goal.After-range) → IsWithFragment c.args.text.now None c.range.result.now
left c =
    let text = c.args.text.now in
    let mark = c.before_fragment.result in
    stripped_is_without_fragment text c.args.self.now c.requires mark c.before_fragment.ensures _
    (c.range.ensures.value ∙ slice_range-from-start text mark)

pub returns-clause-fragment : goal.returns-clause-fragment
returns-clause-fragment c = left c

pub returns-clause-of_kind : goal.returns-clause-of_kind
returns-clause-of_kind c =
    λ kind h. text-without-fragment-stays-of-kind kind c.args.text.now c.range.result.now h (left c)

pub returns-clause-at : goal.returns-clause-at
returns-clause-at c = positions_stay_with_fragment
    c.args.text.now c.range.result.now None c.args.self.now c.requires (left c)
