use Rattle.uri_parts.proofs.Common.{ap, sym, ◌∙◌, Some}
use Rattle.uri_parts.proofs.Splitting.ComponentPositions.{fragment_is_rest_of_text, fragment_is_at_positions, no_fragment_at_end}
use Rattle.uri_parts.proofs.positions.Positions.fragment.Goals as goal

pub range_from-requires : goal.range_from-requires
range_from-requires c =
    λ _. (fragment_is_at_positions c.args.text.now c.args.self.now c.utf8.text c.requires
    c.before_fragment-mark.result c.before_fragment-mark.ensures c.if-mark-text.true).starts

pub returns-then-mark-text : goal.returns-then-mark-text
returns-then-mark-text c = ap Some c.range_from.ensures.value
    ∙ fragment_is_rest_of_text c.args.text.now c.args.self.now c.utf8.text
    c.requires c.before_fragment-mark.result c.before_fragment-mark.ensures c.if-mark-text.true

pub returns-else-mark-text : goal.returns-else-mark-text
returns-else-mark-text c = sym (no_fragment_at_end c.args.text.now c.args.self.now
    c.requires c.before_fragment-mark.result c.before_fragment-mark.ensures c.if-mark-text.false)
