use Rattle.std.proofs.Common.{◌≡◌, ◌-◌, ◌<◌, arith, get_or, inl, inr, rules}
use Rattle.uri_basic.proofs.Places.{last-segment-begins-after-prefix}
use Rattle.uri_basic.proofs.dots.last_segment_start.Goals as goal

pub returns-else-directory-start-ne47-clause-before :
    goal.returns-else-directory-start-ne47-clause-before
returns-else-directory-start-ne47-clause-before c =
    let some : 0 < c.loop-start.start = omega arith in
    let at : get_or c.args.directory.now (c.loop-start.start - 1) 0 ≡ 47 = search rules in
    last-segment-begins-after-prefix c.args.directory.now c.loop-start.start c.requires
    c.loop-start.invariant.within c.loop-start.invariant.none (inr (some, at))

pub returns-after-loop-start-clause-before : goal.returns-after-loop-start-clause-before
returns-after-loop-start-clause-before c =
    last-segment-begins-after-prefix c.args.directory.now c.loop-start.start c.requires
    c.loop-start.invariant.within c.loop-start.invariant.none (inl (omega arith))
