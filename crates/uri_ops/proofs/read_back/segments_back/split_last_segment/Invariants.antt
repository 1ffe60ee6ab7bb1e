use Rattle.uri_ops.proofs.Common.{◌≡◌, ◌≤◌, ◌+◌, length, IsAbemptyPath, segments_left, without_last_segments}
use denote.Text.{Utf8}
use denote.Shadow.{shadow}
use Rattle.uri_ops.proofs.read_back.segments_back.split_last_segment.Given as goal

abbrev pub invariant-loop-prefix : goal.invariant-loop-prefix
invariant-loop-prefix l = record {
  utf8 : shadow (Utf8 l.rest);
  rooted : IsAbemptyPath l.rest;
  fits : l.climbs + length l.rest ≤ length l.path;
  left : segments_left l.path ≡ without_last_segments l.climbs (segments_left l.rest);
}

abbrev pub decreases-loop-prefix : goal.decreases-loop-prefix
decreases-loop-prefix l = length l.rest
