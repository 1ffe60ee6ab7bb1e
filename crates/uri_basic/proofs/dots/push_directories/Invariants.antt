use Rattle.uri_basic.proofs.Common.{◌≡◌, ◌-◌, ◌<◌, ◌≤◌, ◌++◌, ◌⊎◌, ℕ, List, drop, get_or, length, string_bytes, take, not, eqb, IsCharBoundary, IsLongestRun, IsDirectoryOrNothing, path_left}
use Rattle.uri_basic.proofs.dots.push_directories.Given as goal

abbrev pub invariant-loop-end : goal.invariant-loop-end
invariant-loop-end l = record {
  room : l.start ≤ length (string_bytes l.out);
  before : take l.start (string_bytes l.out) ≡ take l.start (string_bytes l.initial.out);
  kept : IsDirectoryOrNothing (drop l.start (string_bytes l.out));
  left : (rest : List ℕ) → path_left (drop l.start (string_bytes l.out)) rest
      ≡ path_left (drop l.start (string_bytes l.initial.out)) (take l.done l.path ++ rest);
  run : IsLongestRun (λ b. not (eqb b 47)) l.path l.done l.end;
  place : (l.done ≡ 0) ⊎ ((0 < l.done) × (get_or l.path (l.done - 1) 0 ≡ 47));
  boundary : IsCharBoundary l.path l.done;
}

abbrev pub decreases-loop-end : goal.decreases-loop-end
decreases-loop-end l = length l.path - l.done
