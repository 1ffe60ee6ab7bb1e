use Rattle.uri_ops.proofs.Common.{arith, ◌++◌, ◌||◌, drop, string_bytes, sym, ap, ◌∙◌, refl, parent_directory}
use Rattle.uri_ops.proofs.Paths.LeftPaths.{replacing-keeps-text-to-start, appending-keeps-text-to-start, slice-from-zero-is-prefix, replacement-is-text-from-start, appending-extends-text-from-start, removal-state-of-equals, removal-state-begins-with-directory, rest-of-nonzero-length-has-bytes}
use Rattle.uri_ops.proofs.Paths.Piecewise.{prefix_among, kept-text-is-directory, removal-ends-with-nothing-left, removal-step-at-double-dot, removal-keeps-changed-prefix, removal-step-at-single-dot}
use Rattle.uri_ops.proofs.path.dot_segments.push_segments.Goals as goal

pub loop-rest-init : goal.loop-rest-init
loop-rest-init g c = grind (arith, removal-state-begins-with-directory)

pub loop-rest-preserved-in-SingleDot : goal.loop-rest-preserved-in-SingleDot
loop-rest-preserved-in-SingleDot g c =
    let pushed = g.M.SegmentMode.pushed_text c.args.mode in
    let taken = g.M.SegmentMode.takes c.args.mode in
    let path = drop c.args.start (string_bytes c.args.out.now) ++ pushed c.args.path.now in
    let some = rest-of-nonzero-length-has-bytes c.loop-rest.rest.now (sym c.is_empty.ensures
    ∙ c.loop-rest-test.true) in
    let step = removal-step-at-single-dot pushed taken c.requires.keeps path
    (drop c.args.start (string_bytes c.loop-rest.out)) c.loop-rest.rest.now
    c.loop-rest.underflowed c.loop-rest.invariant.left c.loop-rest.invariant.taken some
    c.range_from-rest.result.now _ c.in-SingleDot.ensures.leading c.range_from-rest.ensures.value in
    record {
      before = c.loop-rest.invariant.before;
      left = step.0;
      taken = step.1;
      utf8 = c.range_from-rest.utf8;
    }

pub pop_segment-underflowed-requires : goal.pop_segment-underflowed-requires
pop_segment-underflowed-requires g c =
    let pushed = g.M.SegmentMode.pushed_text c.args.mode in
    let taken = g.M.SegmentMode.takes c.args.mode in
    let path = drop c.args.start (string_bytes c.args.out.now) ++ pushed c.args.path.now in
    let some = rest-of-nonzero-length-has-bytes c.loop-rest.rest.now (sym c.is_empty.ensures
    ∙ c.loop-rest-test.true) in
    kept-text-is-directory pushed taken c.requires.keeps path _ c.loop-rest.rest.now
    c.loop-rest.underflowed c.loop-rest.invariant.left c.loop-rest.invariant.taken some

pub loop-rest-preserved-in-DoubleDot : goal.loop-rest-preserved-in-DoubleDot
loop-rest-preserved-in-DoubleDot g c =
    let pushed = g.M.SegmentMode.pushed_text c.args.mode in
    let taken = g.M.SegmentMode.takes c.args.mode in
    let path = drop c.args.start (string_bytes c.args.out.now) ++ pushed c.args.path.now in
    let text = string_bytes c.loop-rest.out in
    let kept = drop c.args.start text in
    let absolute = c.loop-rest.invariant.left.absolute in
    let some = rest-of-nonzero-length-has-bytes c.loop-rest.rest.now (sym c.is_empty.ensures
    ∙ c.loop-rest-test.true) in
    let new = string_bytes c.pop_segment-underflowed.new.out in
    let bytes = c.pop_segment-underflowed.ensures.bytes in
    let left = c.range_from-rest-in-DoubleDot.result.now in
    let step = removal-step-at-double-dot pushed taken c.requires.keeps path kept
    c.loop-rest.rest.now
    c.loop-rest.underflowed c.loop-rest.invariant.left c.loop-rest.invariant.taken some
    left _ c.in-DoubleDot.ensures.leading c.range_from-rest-in-DoubleDot.ensures.value in
    record {
      before = replacing-keeps-text-to-start text
          c.args.start absolute (parent_directory kept) new bytes ∙ c.loop-rest.invariant.before;
      left = removal-state-of-equals path _ (drop c.args.start new) _ (pushed left) _ _
          (replacement-is-text-from-start text c.args.start absolute (parent_directory kept) new
          bytes) refl
          (ap (λ b. c.loop-rest.underflowed || b) c.pop_segment-underflowed.ensures.none) step.0;
      taken = step.1;
      utf8 = c.range_from-rest-in-DoubleDot.utf8;
    }

pub push-requires : goal.push-requires
push-requires g c =
    let pushed = g.M.SegmentMode.pushed_text c.args.mode in
    let taken = g.M.SegmentMode.takes c.args.mode in
    let path = drop c.args.start (string_bytes c.args.out.now) ++ pushed c.args.path.now in
    let rest = c.loop-rest.rest.now in
    let prefix = c.range.result.now in
    let n = c.dotless_prefix_len-next.result in
    let some = rest-of-nonzero-length-has-bytes rest (sym c.is_empty.ensures
    ∙ c.loop-rest-test.true) in
    prefix_among pushed taken c.requires.keeps path _
    rest c.loop-rest.underflowed c.loop-rest.invariant.left c.loop-rest.invariant.taken some prefix
    (drop n rest) n c.dotless_prefix_len-next.ensures.dotless
    (slice-from-zero-is-prefix rest prefix n c.range.ensures.value) refl

pub loop-rest-preserved : goal.loop-rest-preserved
loop-rest-preserved g c =
    let pushed = g.M.SegmentMode.pushed_text c.args.mode in
    let taken = g.M.SegmentMode.takes c.args.mode in
    let path = drop c.args.start (string_bytes c.args.out.now) ++ pushed c.args.path.now in
    let text = string_bytes c.loop-rest.out in
    let kept = drop c.args.start text in
    let absolute = c.loop-rest.invariant.left.absolute in
    let rest = c.loop-rest.rest.now in
    let prefix = c.range.result.now in
    let n = c.dotless_prefix_len-next.result in
    let some = rest-of-nonzero-length-has-bytes rest (sym c.is_empty.ensures
    ∙ c.loop-rest-test.true) in
    let new = string_bytes c.push.new.out in
    let grown = c.in_ok-push-in-NoDots.ensures in
    let left = c.range_from-rest-in-NoDots.result.now in
    let step = removal-keeps-changed-prefix pushed taken c.requires.keeps
    path kept rest c.loop-rest.underflowed c.loop-rest.invariant.left c.loop-rest.invariant.taken
    some prefix left n c.dotless_prefix_len-next.ensures.dotless (slice-from-zero-is-prefix rest
    prefix n c.range.ensures.value) c.range_from-rest-in-NoDots.ensures.value in
    record {
      before = appending-keeps-text-to-start
          text c.args.start absolute (pushed prefix) new grown ∙ c.loop-rest.invariant.before;
      left = removal-state-of-equals path _ (drop c.args.start new) _ (pushed left)
          c.loop-rest.underflowed c.loop-rest.underflowed (appending-extends-text-from-start
          text c.args.start absolute (pushed prefix) new grown) refl refl step.0;
      taken = step.1;
      utf8 = c.range_from-rest-in-NoDots.utf8;
    }

pub returns : goal.returns
returns g c =
    let pushed = g.M.SegmentMode.pushed_text c.args.mode in
    let ends = removal-ends-with-nothing-left pushed (g.M.SegmentMode.takes c.args.mode)
    c.requires.keeps (drop c.args.start (string_bytes c.args.out.now) ++ pushed c.args.path.now)
    (drop c.args.start (string_bytes c.loop-rest.out)) c.loop-rest.rest.now c.loop-rest.underflowed
    c.loop-rest.invariant.left (sym c.is_empty.ensures ∙ c.loop-rest-test.false) in
    record { before = c.loop-rest.invariant.before; text = ends.0; underflow = ends.1 }
