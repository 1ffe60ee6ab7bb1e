use Rattle.uri_ops.proofs.Common.{arith, ◌++◌, ◌||◌, sym, ap, ◌∙◌, refl, subst, IsDotlessDirectory, parent_directory, begins_with_dot}
use Rattle.uri_ops.proofs.Paths.DotStarts.{path-without-leading-dot-begins-with-none}
use Rattle.uri_ops.proofs.Paths.LeftPaths.{removal-state-of-equals, removal-passes-double-dot, removal-passes-single-dot}
use Rattle.uri_ops.proofs.Paths.ClimbedDirectories.{path-beginning-with-dot-is-not-empty, parent-of-directory-is-directory, prefix-of-prefix-is-prefix, rest-of-suffix-is-suffix, directory-of-one-byte-is-root}
use Rattle.uri_ops.proofs.path.dot_segments.follow_leading_dots.Goals as goal

pub loop-next-preserved-in-SingleDot : goal.loop-next-preserved-in-SingleDot
loop-next-preserved-in-SingleDot c =
    let path = c.args.directory.now ++ c.args.reference.now in
    let kept = c.loop-next.kept.now in
    let rest = c.loop-next.rest.now in
    let some = path-beginning-with-dot-is-not-empty rest (ap begins_with_dot
    (sym c.as_bytes.ensures.value) ∙ sym c.begins_with_dot.ensures ∙ c.loop-next-test.true) in
    let first = c.in-SingleDot.ensures.leading in
    record {
      kept = c.loop-next.invariant.kept;
      prefix = c.loop-next.invariant.prefix;
      suffix = rest-of-suffix-is-suffix c.args.reference.now rest c.range_from-rest.result.now _
          c.range_from-rest.ensures.value c.loop-next.invariant.suffix;
      left = removal-state-of-equals path kept kept _ c.range_from-rest.result.now
          c.loop-next.underflowed c.loop-next.underflowed refl (c.range_from-rest.ensures.value
          ∙ first.rest) refl (removal-passes-single-dot path kept rest c.loop-next.underflowed
          c.loop-next.invariant.left some first.end first.segment first.suffix first.passes);
      utf8 = c.range_from-rest.utf8;
      utf8_kept = c.loop-next.invariant.utf8_kept;
    }

pub loop-next-preserved : goal.loop-next-preserved
loop-next-preserved c =
    let path = c.args.directory.now ++ c.args.reference.now in
    let kept = c.loop-next.kept.now in
    let rest = c.loop-next.rest.now in
    let underflowed = c.loop-next.underflowed in
    let some = path-beginning-with-dot-is-not-empty rest (ap begins_with_dot
    (sym c.as_bytes.ensures.value) ∙ sym c.begins_with_dot.ensures ∙ c.loop-next-test.true) in
    let first = c.in-DoubleDot.ensures.leading in
    let up = removal-passes-double-dot path kept rest
    underflowed c.loop-next.invariant.left some first.end first.segment first.suffix first.passes in
    record {
      kept = subst IsDotlessDirectory (sym c.parent-kept.ensures.parent)
          (parent-of-directory-is-directory path kept _ _ up);
      prefix = prefix-of-prefix-is-prefix c.args.directory.now kept c.parent-kept.result.now
          c.loop-next.invariant.prefix c.parent-kept.ensures.prefix;
      suffix = rest-of-suffix-is-suffix c.args.reference.now rest
          c.range_from-rest-in-DoubleDot.result.now _
          c.range_from-rest-in-DoubleDot.ensures.value c.loop-next.invariant.suffix;
      left = removal-state-of-equals path (parent_directory kept) c.parent-kept.result.now
          _ c.range_from-rest-in-DoubleDot.result.now _ _ c.parent-kept.ensures.parent
          (c.range_from-rest-in-DoubleDot.ensures.value ∙ first.rest) (ap (λ b. underflowed || b)
          (directory-of-one-byte-is-root kept c.loop-next.invariant.kept)) up;
      utf8 = c.range_from-rest-in-DoubleDot.utf8;
      utf8_kept = c.parent-kept.utf8;
    }

pub returns-clause-first : goal.returns-clause-first
returns-clause-first c = grind (arith, path-without-leading-dot-begins-with-none)
