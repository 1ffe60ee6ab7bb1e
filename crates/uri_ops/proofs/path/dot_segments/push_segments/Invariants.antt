use Rattle.uri_ops.proofs.Common.{◌≡◌, ◌++◌, length, take, drop, string_bytes, true, RemovalState}
use Rattle.uri_ops.proofs.path.dot_segments.push_segments.Given as goal
use denote.Shadow.{shadow}
use denote.Text.{Utf8}

abbrev pub invariant-loop-rest : goal.invariant-loop-rest
invariant-loop-rest g l =
    let pushed = g.M.SegmentMode.pushed_text l.mode in
    record {
      before : take l.start (string_bytes l.out) ≡ take l.start (string_bytes l.initial.out);
      left : RemovalState (drop l.start (string_bytes l.initial.out) ++ pushed l.path)
          (drop l.start (string_bytes l.out)) (pushed l.rest) l.underflowed;
      taken : g.M.SegmentMode.takes l.mode l.rest ≡ true;
      utf8 : shadow (Utf8 l.rest);
    }

abbrev pub decreases-loop-rest : goal.decreases-loop-rest
decreases-loop-rest g l = length l.rest
