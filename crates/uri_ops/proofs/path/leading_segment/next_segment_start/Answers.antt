use Rattle.uri_ops.proofs.Common.{arith, sym, drop-drop, IsCharBoundary-after_ascii}
use Rattle.uri_ops.proofs.Paths.LastSlashes.{byte-after-segment-is-slash}
use Rattle.uri_ops.proofs.path.leading_segment.next_segment_start.Goals as goal

pub returns-then-end-path-clause-rest : goal.returns-then-end-path-clause-rest
returns-then-end-path-clause-rest c = sym (drop-drop 1 c.args.end c.args.path.now)

pub returns-then-end-path-clause-place : goal.returns-then-end-path-clause-place
returns-then-end-path-clause-place c =
    IsCharBoundary-after_ascii c.args.path.now c.args.end c.utf8.path c.if-end-path.true (omega (
      arith,
      byte-after-segment-is-slash c.args.path.now c.args.end c.requires.suffix c.if-end-path.true,
    ))
