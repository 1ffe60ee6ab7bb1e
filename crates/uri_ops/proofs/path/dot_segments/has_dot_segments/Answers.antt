use Rattle.uri_ops.proofs.Common.{common_steps, ◌≡◌, ◌<◌, ◌+◌, ◌++◌, length, take, drop, false, arith, refl, sym, ap, subst, ◌∙◌, IsCharBoundary, drop-drop, IsCharBoundary-from_rest, take_then_take_is_take_of_sum, RemovalState}
use Rattle.uri_ops.proofs.Paths.DotStarts.{path-without-leading-dot-begins-with-none}
use Rattle.uri_ops.proofs.Paths.FoundDotSegments.{dot-segment-before-rest-is-in-path, double-dot-is-dot-segment, single-dot-is-dot-segment}
use Rattle.uri_ops.proofs.Paths.LeftPaths.{removal-state-of-equals, removal-passes-dotless-prefix}
use Rattle.uri_ops.proofs.Paths.PushedPaths.{absolute-path-begins-with-no-dot, removal-begins-after-dotless-prefix}
use Rattle.uri_ops.proofs.path.dot_segments.has_dot_segments.Goals as goal

pub loop-done-init : goal.loop-done-init
loop-done-init c = grind (arith, common_steps, removal-begins-after-dotless-prefix)

pub dotless_prefix_len-dotless-requires-clause-some
    : goal.dotless_prefix_len-dotless-requires-clause-some
dotless_prefix_len-dotless-requires-clause-some c =
    (absolute-path-begins-with-no-dot c.args.path.now c.requires).1

pub dotless_prefix_len-dotless-requires-clause-first
    : goal.dotless_prefix_len-dotless-requires-clause-first
dotless_prefix_len-dotless-requires-clause-first c = path-without-leading-dot-begins-with-none
    c.args.path.now (absolute-path-begins-with-no-dot c.args.path.now c.requires).0

pub loop-done-preserved : goal.loop-done-preserved
loop-done-preserved c =
    let path = c.args.path.now in
    let done = c.loop-done.done in
    let rest = c.range_from-rest.result.now in
    let next = c.dotless_prefix_len-done.result in
    let is : rest ≡ drop done path = c.range_from-rest.ensures.value in
    let some : 0 < length rest =
    omega (arith, c.range_from-rest.ensures.len, c.loop-done-test.true) in
    let holds : RemovalState path (take done path) rest false
    = subst (λ r. RemovalState path (take done path) r false) (sym is) c.loop-done.invariant.left in
    let prefix = c.dotless_prefix_len-done.ensures.dotless in
    let taken : take (done + next) path ≡ take done path ++ take next rest = sym
    (ap (λ r. take done path ++ take next r) is ∙ take_then_take_is_take_of_sum done next path) in
    let left : drop (done + next) path ≡ drop next rest
    = sym (ap (drop next) is ∙ drop-drop next done path) in
    let place : IsCharBoundary (drop done path) next
    = subst (λ r. IsCharBoundary r next) is c.dotless_prefix_len-done.ensures.place in
    record {
      place = IsCharBoundary-from_rest path done next c.loop-done.invariant.place.0 place;
      left = removal-state-of-equals path _ _ _ _ false false taken left refl
          (removal-passes-dotless-prefix path (take done path) rest false holds some next
          prefix.dotless prefix.closed);
    }

pub returns-in-SingleDot : goal.returns-in-SingleDot
returns-in-SingleDot c =
    grind (arith, dot-segment-before-rest-is-in-path, single-dot-is-dot-segment)

pub returns-in-DoubleDot : goal.returns-in-DoubleDot
returns-in-DoubleDot c =
    grind (arith, dot-segment-before-rest-is-in-path, double-dot-is-dot-segment)
