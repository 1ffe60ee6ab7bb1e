use Rattle.std.proofs.Common.{◌≡◌, ◌+◌, ◌<◌, ◌≤◌, length, take}
use Rattle.uri_order.proofs.in_step.cmp_shorter.Given as goal

abbrev pub invariant-loop-count : goal.invariant-loop-count
invariant-loop-count g l =
    let prefix = g.A.ReadBack.unread l.prefix in
    let rest = length (g.A.ReadBack.unread l.rest) in
    let other = length (g.B.ReadBack.unread l.fn.other) in
    (length l.block ≡ 1024) × (l.count ≤ 1024) × (0 < rest → 0 < l.count)
    × (length prefix ≡ rest + l.count + other)
    × (take other prefix ≡ take other (g.A.ReadBack.unread l.fn.one))

abbrev pub decreases-loop-count : goal.decreases-loop-count
decreases-loop-count g l = length (g.A.ReadBack.unread l.rest) + l.count
