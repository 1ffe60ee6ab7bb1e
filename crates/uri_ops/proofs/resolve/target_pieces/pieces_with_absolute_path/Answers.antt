use Rattle.uri_ops.proofs.Common.{rules, ◌≡◌, [], false, is_some, subst, sym, true, lacks_dot_segments, HasJoinedPath, components_of}
use Rattle.uri_ops.proofs.Targeting.TargetPieces.{absolute-path-after-authority-is-joined}
use Rattle.uri_ops.proofs.resolve.target_pieces.pieces_with_absolute_path.Goals as goal

pub pieces_after-requires-clause-rest : goal.pieces_after-requires-clause-rest
pieces_after-requires-clause-rest c = ([], sym c.path-path.ensures)

pub pieces_after-requires-clause-target : goal.pieces_after-requires-clause-target
pieces_after-requires-clause-target c =
    let b = components_of c.args.base.now in
    let r = components_of c.args.reference.now in
    let prefix = c.before_path.result.now in
    let some : is_some b.authority ≡ true = search rules in
    let dotless : lacks_dot_segments r.path ≡ true = search rules in
    subst (λ t. HasJoinedPath b r prefix t false) (sym c.path-path.ensures)
    (absolute-path-after-authority-is-joined b r prefix c.requires some dotless
    c.before_path.ensures)
