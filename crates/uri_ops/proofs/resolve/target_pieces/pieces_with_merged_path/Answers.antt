use Rattle.uri_ops.proofs.Common.{common_steps, arith, ap, subst, ◌++◌, ◌∙◌, RemovalState, before_path, components_of}
use Rattle.uri_ops.proofs.Paths.ClimbedDirectories.{directory-at-start-ends-at-slash, path-with-directory-at-start-is-absolute, prefix-of-prefix-is-prefix}
use Rattle.uri_ops.proofs.Targeting.TargetPieces.{relative-path-after-directory-is-joined}
use Rattle.uri_ops.proofs.resolve.target_pieces.pieces_with_merged_path.Goals as goal

pub through_slash-prefix-requires-clause-absolute
    : goal.through_slash-prefix-requires-clause-absolute
through_slash-prefix-requires-clause-absolute c = path-with-directory-at-start-is-absolute
    (components_of c.args.base.now).path c.in_ok-directory.directory.now
    c.in_ok-directory.ensures.dotless c.in_ok-directory.ensures.place

pub through_slash-prefix-requires-clause-place : goal.through_slash-prefix-requires-clause-place
through_slash-prefix-requires-clause-place c =
    grind (arith, common_steps, directory-at-start-ends-at-slash, prefix-of-prefix-is-prefix)

pub pieces_after-requires-clause-rest : goal.pieces_after-requires-clause-rest
pieces_after-requires-clause-rest c = grind arith

pub pieces_after-requires-clause-target : goal.pieces_after-requires-clause-target
pieces_after-requires-clause-target c =
    let b = components_of c.args.base.now in
    let r = components_of c.args.reference.now in
    let directory = c.in_ok-directory.directory.now in
    let followed = c.follow_leading_dots-underflows in
    let kept = followed.result.0.now in
    let rest = followed.result.1.now in
    let left = subst (λ t. RemovalState (directory ++ t) kept rest followed.result.2)
    c.path.ensures followed.ensures.left in
    let at = directory-at-start-ends-at-slash b.path kept followed.ensures.kept
    (prefix-of-prefix-is-prefix b.path directory kept c.in_ok-directory.ensures.place
    followed.ensures.prefix) in
    relative-path-after-directory-is-joined b r c.requires.0.scheme c.requires.0.authority
    c.requires.1 c.requires.2 directory kept rest followed.result.2 c.in_ok-directory.ensures left
    followed.ensures.kept (c.is_dotless_rest.ensures c.if-not-is_dotless_rest.false)
    c.through_slash-prefix.result.now
    (c.through_slash-prefix.ensures ∙ ap (λ t. before_path b ++ t) at.2)
