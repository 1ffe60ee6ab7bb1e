use Rattle.uri_ops.proofs.Common.{ap, refl, ◌∙◌, length, ◌+◌, components_of}
use Rattle.uri_ops.proofs.Targeting.TargetPieces.{joined-pieces-are-target-text, joined-pieces-have-target-positions}
use Rattle.uri_ops.proofs.resolve.target_pieces.pieces_after.Goals as goal

pub returns : goal.returns
returns c =
    let b = components_of c.args.base.now in
    let r = components_of c.args.reference.now in
    let prefix = c.args.prefix.now in
    let rest = c.args.rest.now in
    let h = c.requires.target in
    let base = c.packed_positions-positions.ensures in
    let end = ap (λ n. length prefix + (length rest + n))
    (ap length c.query_with_delimiter.ensures) in
    record {
      taken = h.taken;
      underflow = h.underflow;
      text = joined-pieces-are-target-text b r prefix rest c.args.underflows h
          c.from_path_suffix-suffix.result.now c.from_path_suffix-suffix.ensures;
      places = (λ i. record (base i) {
        path_end = length prefix + length rest;
        query_end = length prefix + (length rest + length c.query_with_delimiter.result.now);
      }) ∙ joined-pieces-have-target-positions b r prefix rest c.args.underflows h _ _ refl end;
    }
