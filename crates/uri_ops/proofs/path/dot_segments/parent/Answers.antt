use Rattle.uri_ops.proofs.Common.{◌≡◌, ◌+◌, ◌-◌, length, take, ap, ◌∙◌, arith, IsCharBoundary-after_ascii}
use Rattle.uri_ops.proofs.Paths.ClimbedDirectories.{first-bytes-are-prefix}
use Rattle.uri_ops.proofs.Paths.LastSlashes.{popped-directory-is-parent, slash-before-popped-segment}
use Rattle.uri_ops.proofs.Paths.LeftPaths.{slice-from-zero-is-prefix}
use Rattle.uri_ops.proofs.path.dot_segments.parent.Goals as goal

pub range-requires-clause-end_boundary : goal.range-requires-clause-end_boundary
range-requires-clause-end_boundary c =
    let text = c.args.directory.now in
    let all = take (length text - 1) c.as_bytes.result.now in
    let all_is : all ≡ take (length text - 1) text =
    ap (take (length text - 1)) c.as_bytes.ensures.value in
    let slash = slash-before-popped-segment
    text 0 c.requires all all_is c.last_slash-slash.result c.last_slash-slash.ensures.place in
    IsCharBoundary-after_ascii text c.last_slash-slash.result c.utf8.directory slash.0
    (omega (arith, slash.1))

pub returns-clause-prefix : goal.returns-clause-prefix
returns-clause-prefix c =
    let end = c.last_slash-slash.result + 1 in
    first-bytes-are-prefix c.args.directory.now c.range.result.now end
    (slice-from-zero-is-prefix c.args.directory.now c.range.result.now end c.range.ensures.value)

pub returns-clause-parent : goal.returns-clause-parent
returns-clause-parent c =
    let text = c.args.directory.now in
    let all = take (length text - 1) c.as_bytes.result.now in
    let all_is : all ≡ take (length text - 1) text =
    ap (take (length text - 1)) c.as_bytes.ensures.value in
    slice-from-zero-is-prefix text c.range.result.now (c.last_slash-slash.result
    + 1) c.range.ensures.value ∙ popped-directory-is-parent text 0 c.requires all all_is
    c.last_slash-slash.result c.last_slash-slash.ensures.place c.last_slash-slash.ensures.prefix
