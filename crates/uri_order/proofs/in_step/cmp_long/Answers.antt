use Rattle.std.proofs.Common.{sym, ap, ◌∙◌}
use Rattle.std.specs.Cmp.Lexicographic.{lists_total}
use Rattle.std.specs.Cmp.{nat_cmp_total}
use Rattle.std.specs.Ordering.{ordering_reverse}
use Rattle.uri_order.proofs.in_step.cmp_long.Goals as goal

pub returns-in-First : goal.returns-in-First
returns-in-First g c =
    c.reverse.ensures ∙ ap ordering_reverse c.cmp_shorter-in-First.ensures
    ∙ sym ((lists_total nat_cmp_total).antisymm (g.A.ReadBack.unread c.args.one)
    (g.B.ReadBack.unread c.args.other))
