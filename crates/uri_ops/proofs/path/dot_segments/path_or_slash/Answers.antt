use Rattle.uri_ops.proofs.Common.{sym, ◌∙◌}
use Rattle.uri_ops.proofs.Paths.LastSlashes.{directory-of-root, empty-path-has-root-directory}
use Rattle.uri_ops.proofs.path.dot_segments.path_or_slash.Goals as goal

pub returns-then-is_empty-clause-directory : goal.returns-then-is_empty-clause-directory
returns-then-is_empty-clause-directory c = directory-of-root ∙ sym
    (empty-path-has-root-directory c.args.path.now (sym c.is_empty.ensures ∙ c.if-is_empty.true))
