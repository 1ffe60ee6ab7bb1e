use Rattle.uri_ops.proofs.Common.{arith}
use Rattle.uri_ops.proofs.FromEnd.SegmentsLeft.{double-dot-takes-one-more, other-segment-is-taken}
use Rattle.uri_ops.proofs.read_back.segments_back.climbs_before.Goals as goal

pub returns-then-is_double_dot-clause-kept : goal.returns-then-is_double_dot-clause-kept
returns-then-is_double_dot-clause-kept c = grind (arith, double-dot-takes-one-more)

pub returns-clause-kept : goal.returns-clause-kept
returns-clause-kept c = grind (arith, other-segment-is-taken)
