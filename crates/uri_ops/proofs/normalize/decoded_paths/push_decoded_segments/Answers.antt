use Rattle.uri_ops.proofs.Common.{arith, set_of, print_decoded}
use Rattle.uri_ops.proofs.Meanings.AllowedParts.{is_set_text, set-text-from-utf8}
use Rattle.uri_ops.proofs.Paths.Piecewise.{decoding-keeps-slashes-and-dots}
use Rattle.uri_ops.proofs.Paths.PushedPaths.{text-after-old-is-pushed-text, position-after-root-is-boundary, whole}
use Rattle.uri_ops.proofs.Paths.WrittenPieces.{path-after-root-is-set-text, root-is-dotless-directory, root-and-decoded-rest-lose-dots-as-path, root-and-decoded-rest-underflow-as-path}
use Rattle.uri_ops.proofs.normalize.decoded_paths.push_decoded_segments.Goals as goal

pub range_from-requires : goal.range_from-requires
range_from-requires c = λ _. position-after-root-is-boundary c.args.path.now c.utf8.path
    c.requires.absolute

pub push_segments-requires-clause-directory : goal.push_segments-requires-clause-directory
push_segments-requires-clause-directory c =
    grind (arith, text-after-old-is-pushed-text, root-is-dotless-directory)

pub push_segments-requires-clause-keeps : goal.push_segments-requires-clause-keeps
unfolding print_decoded is_set_text
push_segments-requires-clause-keeps c =
    decoding-keeps-slashes-and-dots (set_of c.args.table.now) c.requires.set c.requires.slash

pub push_segments-requires-clause-takes : goal.push_segments-requires-clause-takes
unfolding is_set_text
push_segments-requires-clause-takes c =
    grind (arith, path-after-root-is-set-text, set-text-from-utf8)

pub returns : goal.returns
returns c =
    grind (
      arith,
      text-after-old-is-pushed-text,
      set-text-from-utf8,
      whole,
      root-and-decoded-rest-lose-dots-as-path,
      root-and-decoded-rest-underflow-as-path,
    )
