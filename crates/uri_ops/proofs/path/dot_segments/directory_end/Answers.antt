use Rattle.uri_ops.proofs.Common.{rules, sym, ap, ◌∙◌, inr, take-length, remove_dot_segments, underflows}
use Rattle.uri_ops.proofs.Paths.DotLaws.{directory-underflows-as-path}
use Rattle.uri_ops.proofs.Paths.LastSlashes.{position-after-slash-is-boundary, trailing-double-dot-path-is-its-directory, prefix-with-last-slash-is-directory}
use Rattle.uri_ops.proofs.path.dot_segments.directory_end.Goals as goal

pub range_from-requires : goal.range_from-requires
range_from-requires c = λ _. position-after-slash-is-boundary
    c.args.path.now c.last_slash-slash.result c.requires (search rules) c.utf8.path

pub returns-then-is_double_dot-clause-text : goal.returns-then-is_double_dot-clause-text
returns-then-is_double_dot-clause-text c = ap remove_dot_segments (take-length c.args.path.now)
    ∙ trailing-double-dot-path-is-its-directory c.args.path.now c.last_slash-slash.result c.requires
    (search rules) (search rules) (search rules)

pub returns-then-is_double_dot-clause-underflow : goal.returns-then-is_double_dot-clause-underflow
returns-then-is_double_dot-clause-underflow c = ap underflows (take-length c.args.path.now)
    ∙ sym (directory-underflows-as-path c.args.path.now (inr c.requires))

pub returns-clause-text : goal.returns-clause-text
returns-clause-text c = ap remove_dot_segments (prefix-with-last-slash-is-directory c.args.path.now
    c.last_slash-slash.result c.requires (search rules) (search rules) (search rules))

pub returns-clause-underflow : goal.returns-clause-underflow
returns-clause-underflow c = ap underflows (prefix-with-last-slash-is-directory c.args.path.now
    c.last_slash-slash.result c.requires (search rules) (search rules) (search rules))

pub returns-clause-place : goal.returns-clause-place
returns-clause-place c = position-after-slash-is-boundary
    c.args.path.now c.last_slash-slash.result c.requires (search rules) c.utf8.path
