use Rattle.uri_ops.proofs.Common.{◌-◌, length, take, drop, false, IsCharBoundary, RemovalState}
use Rattle.uri_ops.proofs.path.dot_segments.has_dot_segments.Given as goal

abbrev pub invariant-loop-done : goal.invariant-loop-done
invariant-loop-done l = record {
  place : IsCharBoundary l.path l.done;
  left : RemovalState l.path (take l.done l.path) (drop l.done l.path) false;
}

abbrev pub decreases-loop-done : goal.decreases-loop-done
decreases-loop-done l = length l.path - l.done
