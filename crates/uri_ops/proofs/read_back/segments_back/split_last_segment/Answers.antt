use Rattle.uri_ops.proofs.Common.{None, Some, ap, subst, ◌∙◌, arith, lit<, IsUtf8, utf8_around_ascii_byte, segments_left, without_last_segments}
use Rattle.uri_ops.proofs.FromEnd.SegmentsLeft.{abempty-path-by-test, abempty-path-passes-test, cut-at-last-slash, other-segment-is-left, segments_left-of-nothing, segments_left-with-segment, without_last_segments-of-nothing}
use Rattle.uri_ops.proofs.read_back.segments_back.split_last_segment.Goals as goal

pub loop-prefix-init : goal.loop-prefix-init
unfolding without_last_segments
loop-prefix-init c = grind (arith, abempty-path-by-test)

pub climbs_before-requires-clause-lacks : goal.climbs_before-requires-clause-lacks
climbs_before-requires-clause-lacks c =
    let at = cut-at-last-slash c.loop-prefix.rest.now c.loop-prefix.invariant.rooted
    (Some (c.in-Some.prefix, c.in-Some.segment)) c.in-Some.ensures.cases in
    at.free

pub returns-in-None : goal.returns-in-None
unfolding without_last_segments
returns-in-None c =
    let at = cut-at-last-slash c.loop-prefix.rest.now c.loop-prefix.invariant.rooted
    (Some (c.in-Some.prefix, c.in-Some.segment)) c.in-Some.ensures.cases in
    let prefix = c.in-Some.prefix.now in
    let segment = c.in-Some.segment.now in
    let kept = c.in-None.ensures.kept in
    record {
      left = c.loop-prefix.invariant.left
          ∙ ap (λ n. without_last_segments n (segments_left c.loop-prefix.rest.now))
          kept.0 ∙ ap segments_left at.whole ∙ segments_left-with-segment prefix
          at.rooted segment at.free ∙ other-segment-is-left segment (segments_left prefix) kept.1;
      rooted = abempty-path-passes-test prefix at.rooted;
      lacks_slash = at.free;
      shorter = omega (arith, at.shorter);
    }

pub loop-prefix-preserved : goal.loop-prefix-preserved
loop-prefix-preserved c =
    let at = cut-at-last-slash c.loop-prefix.rest.now c.loop-prefix.invariant.rooted
    (Some (c.in-Some.prefix, c.in-Some.segment)) c.in-Some.ensures.cases in
    let prefix = c.in-Some.prefix.now in
    let segment = c.in-Some.segment.now in
    let climbs = c.loop-prefix.climbs in
    record {
      utf8 = (utf8_around_ascii_byte prefix 47 segment (lit< tt)
          (subst IsUtf8 at.whole c.loop-prefix.invariant.utf8)).0;
      rooted = at.rooted;
      fits = omega (arith, at.shorter, c.in-Some-climbs_before.ensures.small);
      left = c.loop-prefix.invariant.left ∙ ap (without_last_segments climbs)
          (ap segments_left at.whole ∙ segments_left-with-segment prefix at.rooted segment at.free)
          ∙ c.in-Some-climbs_before.ensures.kept (segments_left prefix);
    }

pub returns : goal.returns
returns c =
    let climbs = c.loop-prefix.climbs in
    let none = cut-at-last-slash c.loop-prefix.rest.now c.loop-prefix.invariant.rooted None
    c.in_default.ensures.cases in
    c.loop-prefix.invariant.left ∙ ap (without_last_segments climbs) (ap segments_left none
    ∙ segments_left-of-nothing) ∙ without_last_segments-of-nothing climbs
