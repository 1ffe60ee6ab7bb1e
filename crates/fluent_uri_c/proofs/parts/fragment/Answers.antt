use Rattle.fluent_uri_c.proofs.Common.{◌+◌, ◌∙◌, ap, fragment_is_at_positions, no_fragment_at_end}
use Rattle.uri_parts.specs.Positions.{before_fragment}
use Rattle.fluent_uri_c.proofs.Places.{IsSpan-of-equal-span, IsSpan-of-positions, IsSpan-of-absent}
use Rattle.fluent_uri_c.proofs.parts.fragment.Goals as goal

pub returns-then-mark-text : goal.returns-then-mark-text
returns-then-mark-text c = IsSpan-of-positions _ _ _ _ _
    (ap (λ n. n + 1) (c.before_fragment-mark.ensures ∙ ap before_fragment c.requires))
    (fragment_is_at_positions c.args.text.now c.args.at c.utf8.text c.requires
    c.before_fragment-mark.result c.before_fragment-mark.ensures c.if-mark-text.true)

pub returns-else-mark-text : goal.returns-else-mark-text
returns-else-mark-text c = IsSpan-of-equal-span _ _ _ _ c.absent.ensures (IsSpan-of-absent _ _ _
    (no_fragment_at_end c.args.text.now c.args.at c.requires c.before_fragment-mark.result
    c.before_fragment-mark.ensures c.if-mark-text.false))
