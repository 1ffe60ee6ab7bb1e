use Rattle.uri_relative.proofs.Common.{sym, ap, ◌∙◌, arith, not-false, not-true, slash, starts, components-are-split-of-text, equal-to-true-is-IsTrue, lacks_dot_segments, components_of}
use Rattle.uri_relative.proofs.Settled.{dotless-target-is-settled, rootless-target-is-settled}
use Rattle.uri_relative.proofs.relative.is_without_removable_dots.Goals as goal

pub returns-then-not-begins_with_slash-clause-settled
    : goal.returns-then-not-begins_with_slash-clause-settled
returns-then-not-begins_with_slash-clause-settled c = λ _.
    rootless-target-is-settled (components_of c.args.target.now) (sym (c.begins_with_slash.ensures
    ∙ ap (starts slash) (c.as_bytes.ensures.value ∙ c.path-path.ensures))
    ∙ c.if-not-begins_with_slash.true)

pub has_dot_segments-requires : goal.has_dot_segments-requires
has_dot_segments-requires c = grind (arith, equal-to-true-is-IsTrue)

pub returns-clause-settled : goal.returns-clause-settled
returns-clause-settled c = λ e.
    dotless-target-is-settled (components_of c.args.target.now)
    (components-are-split-of-text c.args.target.now.text.now).no_authority (equal-to-true-is-IsTrue
    _ (sym (c.begins_with_slash.ensures
    ∙ ap (starts slash) (c.as_bytes.ensures.value ∙ c.path-path.ensures))
    ∙ c.if-not-begins_with_slash.false)) (sym (ap lacks_dot_segments c.path-path.ensures)
    ∙ not-false _ (sym c.has_dot_segments.ensures ∙ not-true _ e))

pub returns-clause-absolute : goal.returns-clause-absolute
returns-clause-absolute c = grind (arith, equal-to-true-is-IsTrue)
