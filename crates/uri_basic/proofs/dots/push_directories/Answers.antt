use Rattle.uri_basic.proofs.Common.{◌≡◌, ◌+◌, ◌<◌, ◌≤◌, ◌++◌, ap, append_assoc, arith, drop, eqb, false, get_or, inl, inr, length, not, refl, string_bytes, subst, sym, take, ◌∙◌, codes, take-append-drop, IsCharBoundary-after_ascii, IsCharBoundary-start, has_slash, up_to_last_slash, IsLongestRun, IsDirectoryOrNothing, after_segment, path_left}
use Rattle.uri_basic.proofs.Places.{prefix-is-up-to-last-slash, replaced-suffix, rest-after-run-lacks-slash, run-is-segment}
use Rattle.uri_basic.proofs.Segments.{directory-after-segment, path-left-after-segment}
use Rattle.uri_basic.proofs.dots.push_directories.Goals as goal

pub loop-end-init : goal.loop-end-init
loop-end-init c = record {
  room = c.requires.start;
  before = refl;
  kept = c.requires.kept;
  left = λ rest. refl;
  run = subst (λ t. IsLongestRun (λ b. not (eqb b 47)) t 0 c.find_byte-end.result)
      c.as_bytes.ensures.value c.find_byte-end.ensures;
  place = inl refl;
  boundary = IsCharBoundary-start c.args.path.now c.utf8.path;
}

pub range-requires-in-loop-end-clause-end_boundary :
    goal.range-requires-in-loop-end-clause-end_boundary
range-requires-in-loop-end-clause-end_boundary c =
    let path = c.args.path.now in
    let end = c.loop-end.end in
    let within : end < length path = omega arith in
    let found = run-is-segment path c.loop-end.done end c.loop-end.invariant.run within in
    IsCharBoundary-after_ascii path end c.utf8.path within (omega (arith, found.byte))

pub loop-end-preserved : goal.loop-end-preserved
loop-end-preserved c =
    let path = c.args.path.now in
    let start = c.args.start in
    let done = c.loop-end.done in
    let end = c.loop-end.end in
    let text = string_bytes c.loop-end.out in
    let kept = drop start text in
    let new = string_bytes c.push_segment.new.out in
    let segment = c.range.result.now in
    let piece = c.range-in-loop-end.result.now in
    let within : end < length path = omega arith in
    let found = run-is-segment path done end c.loop-end.invariant.run within in
    let lacks : has_slash segment ≡ false = ap has_slash c.range.ensures.value ∙ found.lacks in
    let whole : piece ≡ segment ++ codes "/" = c.range-in-loop-end.ensures.value ∙ found.piece
    ∙ ap (λ t. t ++ codes "/") (sym c.range.ensures.value) in
    let r = replaced-suffix text new (after_segment kept segment piece) start
    c.loop-end.invariant.room c.in_ok-push_segment.ensures in
    let now : drop start new ≡ after_segment kept segment (segment ++ codes "/") =
    r.2 ∙ ap (after_segment kept segment) whole in
    record {
      room = r.0;
      before = r.1 ∙ c.loop-end.invariant.before;
      kept = subst IsDirectoryOrNothing (sym now)
          (directory-after-segment kept segment c.loop-end.invariant.kept);
      left = λ rest. ap (λ k. path_left k rest) now
          ∙ sym (path-left-after-segment kept segment rest c.loop-end.invariant.kept lacks)
          ∙ c.loop-end.invariant.left ((segment ++ codes "/") ++ rest)
          ∙ ap (path_left (drop start (string_bytes c.args.out.now)))
          (sym (append_assoc (take done path) (segment ++ codes "/") rest)
          ∙ ap (λ t. (take done path ++ (t ++ codes "/")) ++ rest) c.range.ensures.value
          ∙ ap (λ t. t ++ rest) found.joined);
      run = subst (λ t. IsLongestRun (λ b. not (eqb b 47)) t (end + 1)
          c.find_byte-end-in-loop-end.result)
          c.as_bytes-in-loop-end.ensures.value c.find_byte-end-in-loop-end.ensures;
      place = inr (omega arith, ap (λ n. get_or path n 0) (omega arith) ∙ found.byte);
      boundary = IsCharBoundary-after_ascii path end c.utf8.path within (omega (arith, found.byte));
    }

pub returns-clause-last : goal.returns-clause-last
returns-clause-last c =
    let path = c.args.path.now in
    let done = c.loop-end.done in
    let none : length path ≤ c.loop-end.end = omega arith in
    let up = prefix-is-up-to-last-slash path done
    (omega (arith, c.loop-end.invariant.run.from, c.loop-end.invariant.run.within))
    (rest-after-run-lacks-slash path done c.loop-end.end c.loop-end.invariant.run none)
    c.loop-end.invariant.place in
    sym (take-append-drop done path) ∙ ap (λ t. t ++ drop done path) up
    ∙ ap (λ t. up_to_last_slash path ++ t) (sym c.range_from.ensures.value)

pub returns-clause-lacks : goal.returns-clause-lacks
returns-clause-lacks c =
    let none : length c.args.path.now ≤ c.loop-end.end = omega arith in
    ap has_slash c.range_from.ensures.value ∙ rest-after-run-lacks-slash c.args.path.now
    c.loop-end.done c.loop-end.end c.loop-end.invariant.run none

pub returns-clause-left : goal.returns-clause-left
returns-clause-left c =
    let path = c.args.path.now in
    let done = c.loop-end.done in
    let none : length path ≤ c.loop-end.end = omega arith in
    let up = prefix-is-up-to-last-slash path done
    (omega (arith, c.loop-end.invariant.run.from, c.loop-end.invariant.run.within))
    (rest-after-run-lacks-slash path done c.loop-end.end c.loop-end.invariant.run none)
    c.loop-end.invariant.place in
    λ rest. c.loop-end.invariant.left rest
    ∙ ap (λ t. path_left (drop c.args.start (string_bytes c.args.out.now)) (t ++ rest)) up
