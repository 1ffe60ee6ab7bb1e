use Rattle.uri_ops.proofs.Common.{common_steps, arith}
use Rattle.uri_ops.proofs.Paths.DotStarts.{path-without-leading-dot-begins-with-none}
use Rattle.uri_ops.proofs.resolve.target_pieces.is_dotless.Goals as goal

pub dotless_prefix_len-requires-clause-first : goal.dotless_prefix_len-requires-clause-first
dotless_prefix_len-requires-clause-first c =
    grind (arith, path-without-leading-dot-begins-with-none)

pub returns-then-not-begins_with_dot : goal.returns-then-not-begins_with_dot
returns-then-not-begins_with_dot c = grind (arith, common_steps)
