use Rattle.std.proofs.Common.{◌≡◌, [], drop}
use Rattle.fluent_uri.specs.EStrings.{owned_text}
use Rattle.cookbook.specs.Segments.{path_from}
use Rattle.cookbook.proofs.segments.joined.Given as goal

abbrev pub invariant-loop-segment : goal.invariant-loop-segment
invariant-loop-segment l =
    path_from (owned_text l.path) (drop l.segment-index l.segments) ≡ path_from [] l.segments
