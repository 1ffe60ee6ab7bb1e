-- The texts are as long as each other if what is left of them is, and then that decides first.
use Rattle.std.proofs.Common.{◌≡◌, ◌+◌, length}
use Rattle.std.specs.Cmp.Lexicographic.{slice_cmp}
use Rattle.std.specs.Ordering.{nat_cmp, ordering_then}
use Rattle.uri_order.proofs.in_step.read_in_step.Given as goal

abbrev pub invariant-loop-other : goal.invariant-loop-other
invariant-loop-other g l =
    let one = g.A.ReadBack.unread l.one in
    let other = g.B.ReadBack.unread l.other in
    let whole = g.A.ReadBack.unread l.initial.one in
    let whole_other = g.B.ReadBack.unread l.initial.other in
    (length whole + length other ≡ length whole_other + length one)
    × (length one ≡ length other → slice_cmp nat_cmp whole whole_other
    ≡ ordering_then (slice_cmp nat_cmp one other) l.order)

abbrev pub decreases-loop-other : goal.decreases-loop-other
decreases-loop-other g l = length (g.A.ReadBack.unread l.one)
