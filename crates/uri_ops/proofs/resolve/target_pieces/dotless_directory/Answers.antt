use Rattle.uri_ops.proofs.Common.{rules, ◌≡◌, ◌+◌, ap, drop, false, is_some, take, true, ◌∙◌, slice_range-from-start, IsAbsolute, has_slash, is_double_dot, IsSlashOrStart, components_of}
use Rattle.uri_ops.proofs.Paths.LastSlashes.{position-after-slash-is-boundary}
use Rattle.uri_ops.proofs.Targeting.TargetPieces.{prefix-with-last-slash-is-directory-of-base}
use Rattle.uri_ops.proofs.resolve.target_pieces.dotless_directory.Goals as goal

pub range_from-requires : goal.range_from-requires
range_from-requires c = λ _. position-after-slash-is-boundary
    c.path-path.result.now c.last_slash-slash.result (search rules) (search rules) c.path-path.utf8

pub range-directory-requires-clause-end_boundary : goal.range-directory-requires-clause-end_boundary
range-directory-requires-clause-end_boundary c = position-after-slash-is-boundary
    c.path-path.result.now c.last_slash-slash.result (search rules) (search rules) c.path-path.utf8

pub returns-then-is_dotless : goal.returns-then-is_dotless
returns-then-is_dotless c =
    let b = components_of c.args.base.now in
    let slash = c.last_slash-slash.result in
    let absolute : IsAbsolute b.path = search rules in
    let place : IsSlashOrStart b.path 0 slash = search rules in
    let last : has_slash (drop (slash + 1) b.path) ≡ false = search rules in
    let dots : is_double_dot (drop (slash + 1) b.path) ≡ false = search rules in
    let some : is_some b.authority ≡ true = search rules in
    prefix-with-last-slash-is-directory-of-base b slash c.range-directory.result.now absolute
    place last dots (c.is_dotless.ensures c.if-is_dotless.true) some
    (c.range-directory.ensures.value ∙ slice_range-from-start c.path-path.result.now (slash + 1)
    ∙ ap (take (slash + 1)) c.path-path.ensures)
