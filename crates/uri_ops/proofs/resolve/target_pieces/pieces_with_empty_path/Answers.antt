use Rattle.uri_ops.proofs.Common.{rules, ◌≡◌, [], ap, false, is_some, subst, sym, true, ◌++◌, ◌∙◌, packed, recompose-components, IsAbsolute, lacks_dot_segments, HasJoinedPath, components_of}
use Rattle.uri_ops.proofs.Targeting.TargetPieces.{base-rejects-no-reference, dotless-base-path-does-not-underflow, fragment-after-base-is-target-text, fragment-after-base-keeps-positions, query-after-base-path-is-joined}
use Rattle.uri_ops.proofs.resolve.target_pieces.pieces_with_empty_path.Goals as goal

pub pieces_after-requires-clause-rest : goal.pieces_after-requires-clause-rest
pieces_after-requires-clause-rest c = ([], sym c.path.ensures)

pub pieces_after-requires-clause-target : goal.pieces_after-requires-clause-target
pieces_after-requires-clause-target c =
    let b = components_of c.args.base.now in
    let r = components_of c.args.reference.now in
    let prefix = c.through_path-prefix.result.now in
    let some : is_some b.authority ≡ true = search rules in
    let absolute : IsAbsolute b.path = search rules in
    let dotless : lacks_dot_segments b.path ≡ true = search rules in
    let query : is_some r.query ≡ true = search rules in
    subst (λ t. HasJoinedPath b r prefix t false) (sym c.path.ensures)
    (query-after-base-path-is-joined b r prefix c.requires.scheme c.requires.authority
    c.requires.path some absolute dotless query c.through_path-prefix.ensures)

pub returns : goal.returns
returns c =
    let b = components_of c.args.base.now in
    let r = components_of c.args.reference.now in
    let prefix = c.before_fragment.result.now in
    let some : is_some b.authority ≡ true = search rules in
    let absolute : IsAbsolute b.path = search rules in
    let dotless : lacks_dot_segments b.path ≡ true = search rules in
    let query : is_some r.query ≡ false = search rules in
    record {
      taken = base-rejects-no-reference b r prefix c.requires.scheme c.requires.authority
          c.requires.path some absolute dotless;
      underflow = dotless-base-path-does-not-underflow b r prefix c.requires.scheme
          c.requires.authority c.requires.path some absolute dotless;
      text = ap (λ t. prefix ++ t)
          (c.as_str.ensures.text ∙ sym (recompose-components c.args.reference.now.text.now))
          ∙ fragment-after-base-is-target-text b r prefix c.requires.scheme c.requires.authority
          c.requires.path some absolute dotless query c.before_fragment.ensures;
      places = c.packed_positions.ensures
          ∙ ap packed (fragment-after-base-keeps-positions b r prefix c.requires.scheme
          c.requires.authority c.requires.path some absolute dotless query);
    }
