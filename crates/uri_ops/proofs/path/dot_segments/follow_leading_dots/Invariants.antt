use Rattle.uri_ops.proofs.Common.{◌++◌, length, BeginsWith, EndsIn, IsDotlessDirectory, RemovalState}
use Rattle.uri_ops.proofs.path.dot_segments.follow_leading_dots.Given as goal
use denote.Shadow.{shadow}
use denote.Text.{Utf8}

abbrev pub invariant-loop-next : goal.invariant-loop-next
invariant-loop-next l = record {
  kept : IsDotlessDirectory l.kept;
  prefix : BeginsWith l.directory l.kept;
  suffix : EndsIn l.reference l.rest;
  left : RemovalState (l.directory ++ l.reference) l.kept l.rest l.underflowed;
  utf8 : shadow (Utf8 l.rest);
  utf8_kept : shadow (Utf8 l.kept);
}

abbrev pub decreases-loop-next : goal.decreases-loop-next
decreases-loop-next l = length l.rest
