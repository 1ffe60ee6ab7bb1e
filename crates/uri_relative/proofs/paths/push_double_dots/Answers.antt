use Rattle.std.proofs.Common.{string_bytes, arith}
use Rattle.uri_relative.proofs.Prefixes.{one-more-double-dot-is-pushed, no-double-dots-are-pushed}
use Rattle.uri_relative.proofs.paths.push_double_dots.Goals as goal

pub loop-done-init : goal.loop-done-init
loop-done-init c = no-double-dots-are-pushed (string_bytes c.args.out.now)

pub loop-done-preserved : goal.loop-done-preserved
loop-done-preserved c = grind (arith, one-more-double-dot-is-pushed)

pub returns : goal.returns
returns c = grind arith
