-- What is left of a path while its segments are taken one after the other: what is after a
-- directory without dot segments, which is all that was kept so far.
use Rattle.uri_ops.proofs.Common.{common_steps, ◌≡◌, ℕ, ◌-◌, ◌<◌, ◌≤◌, Bool, true, false, List, [], ◌∷◌, ◌++◌, length, take, drop, refl, sym, ap, subst, ◌∙◌, ◌||◌, append_assoc, arith, inl, inr, ⊎_elim, codes, ◌==◌, list_all, slice_range, or-false, or_assoc, take-append-drop, drop_at, take_at, drop-append-le, take-append-le, length-drop, length-take-le, list_all-append, and_parts, and_from, cases_Bool, false≢true, or_right, IsAbemptyPath, is_single_dot, is_double_dot, is_empty, before_last_slash, has_slash, lacks_dot_segments, segments, remove_dot_segments, underflows, IsAbsolute, IsDotlessDirectory, IsCutAtSegment, RemovalState, parent_directory, eq_true_from_IsTrue}
use Rattle.uri_ops.proofs.Paths.Segments.{pop, is_none, next_output, step_of, AllPass, is_dotless, pop-undoes-push, popped-segments-pass-test, appended-segments-pass-test, pushed-segments-are-not-none, single-dot-is-not-double}
use Rattle.uri_ops.proofs.Paths.Underflows.{underflows_at}
use Rattle.uri_ops.proofs.Paths.SlashedSegments.{slashed, lacks_slash, NoSlashes, slashed-of-push, before_last_slash-of-slashed-is-popped, slashed-is-empty-if-no-segments, segments-of-slashed-segments}
use Rattle.uri_ops.proofs.Paths.DotLaws.{property-of-path-to-slash-by-segments, rooted, path-after-slash-appends-its-segments, appended-segments-lack-slashes, segments-with-empty-last-lack-slashes, segments-of-dotless-path-are-dotless, slashed-segments-are-absolute, remove-dots-of-dotless, dotless-path-does-not-underflow}
use Rattle.uri_ops.proofs.Paths.TakenSegments.{removing-dots-after-directory, underflow-after-directory}
use Rattle.uri_ops.proofs.Targeting.Targets.{appended-absolute-path-is-absolute}

-- removing dot segments, segment by segment:
-- it may begin with a directory that has none as kept, and the rest to do
pub removal-state-begins-with-directory : (kept rest : List ℕ) → IsDotlessDirectory kept
    → RemovalState (kept ++ rest) kept rest false
removal-state-begins-with-directory kept rest d = grind arith

-- removing dot segments, segment by segment: when no rest is left, what is kept is the result; the
-- Bool is whether there was an underflow
pub removal-state-without-rest-is-done : (path kept : List ℕ) (underflowed : Bool)
    → RemovalState path kept [] underflowed
    → (kept ≡ remove_dot_segments path) × (underflowed ≡ underflows path)
removal-state-without-rest-is-done path kept underflowed h =
    grind (arith, common_steps, remove-dots-of-dotless, dotless-path-does-not-underflow)

-- removing dot segments, segment by segment: while a rest is left, what is kept is a directory; the
-- Bool is whether there was an underflow
pub removal-state-has-directory : (path kept rest : List ℕ) (underflowed : Bool)
    → RemovalState path kept rest underflowed → 0 < length rest → IsDotlessDirectory kept
removal-state-has-directory path kept rest underflowed h some = grind arith

pub rest-of-nonzero-length-has-bytes : (rest : List ℕ) → (length rest == 0) ≡ false
    → 0 < length rest
rest-of-nonzero-length-has-bytes rest e = grind (arith, common_steps)

-- removing dot segments, segment by segment: equal texts are in the same state;
-- u, u': whether there was an underflow
pub removal-state-of-equals : (path kept kept' rest rest' : List ℕ) (u u' : Bool) → kept' ≡ kept
    → rest' ≡ rest → u' ≡ u → RemovalState path kept rest u → RemovalState path kept' rest' u'
removal-state-of-equals path kept kept' rest rest' u u' e f g h = grind arith

-- paths: if a path has no dot segment, its first segments have none
prefix-of-dotless-segments-is-dotless : (xs ys : List (List ℕ)) → NoSlashes (xs ++ ys)
    → lacks_dot_segments (slashed (xs ++ ys)) ≡ true → AllPass is_dotless xs
prefix-of-dotless-segments-is-dotless xs ys e f =
    (and_parts _ _ (sym (list_all-append is_dotless xs ys) ∙ segments-of-dotless-path-are-dotless
    (xs ++ ys) e f)).0

-- paths: what holds of dotless segments and a last `/` holds of any directory without dot segments
pub property-of-dotless-directory-by-segments : (P : List ℕ → Type 0)
    → ((xs : List (List ℕ)) → NoSlashes xs → AllPass is_dotless xs → P (slashed (xs ++ [] ∷ [])))
    → (path : List ℕ) → IsDotlessDirectory path → P path
property-of-dotless-directory-by-segments P each path d =
    property-of-path-to-slash-by-segments (λ path. lacks_dot_segments path ≡ true → P path)
    (λ xs e f. each xs e (prefix-of-dotless-segments-is-dotless xs
    ([] ∷ []) (segments-with-empty-last-lack-slashes xs e) f)) path d.absolute d.closed d.dotless

slashed-dotless-segments-lack-dot-segments : (xs : List (List ℕ))
    → NoSlashes xs → AllPass is_dotless xs → lacks_dot_segments (slashed xs) ≡ true
slashed-dotless-segments-lack-dot-segments xs e f = ap (list_all is_dotless)
    (segments-of-slashed-segments xs e) ∙ and_from _ _ refl f

-- paths: a path without dot segments, after a directory without any, has none
pub dotless-path-after-directory-is-dotless : (kept path : List ℕ) → IsDotlessDirectory kept
    → lacks_dot_segments path ≡ true → lacks_dot_segments (kept ++ path) ≡ true
dotless-path-after-directory-is-dotless kept path d dotless =
    property-of-dotless-directory-by-segments (λ k. lacks_dot_segments (k ++ path) ≡ true)
    (λ xs e f. ap lacks_dot_segments (path-after-slash-appends-its-segments xs path)
    ∙ slashed-dotless-segments-lack-dot-segments (xs ++ segments path)
    (appended-segments-lack-slashes xs path e) (appended-segments-pass-test is_dotless xs
    (segments path) f dotless)) kept d

-- dot segments: segments without dots, each after a `/`,
-- and a last `/` are a directory without dot segments
pub slashed-dotless-segments-are-directory : (xs : List (List ℕ))
    → NoSlashes xs → AllPass is_dotless xs → IsDotlessDirectory (slashed (xs ++ [] ∷ []))
slashed-dotless-segments-are-directory xs e f = record {
  absolute = slashed-segments-are-absolute (xs ++ [] ∷ []) (pushed-segments-are-not-none xs []);
  closed = (slashed xs, slashed-of-push xs []);
  dotless = slashed-dotless-segments-lack-dot-segments (xs ++ [] ∷ [])
      (segments-with-empty-last-lack-slashes xs e)
      (appended-segments-pass-test is_dotless xs ([] ∷ []) f refl);
}

-- removing dot segments, segment by segment: a segment s after what is kept leaves the directory
-- `left` in its place, and underflows if meets_none
record LeavesDirectory (kept s rest left : List ℕ) (meets_none : Bool) : Type 0 where
  removed : remove_dot_segments (kept ++ (s ++ rest)) ≡ remove_dot_segments (left ++ drop 1 rest)
  underflow : underflows (kept ++ (s ++ rest)) ≡ (meets_none || underflows (left ++ drop 1 rest))
  directory : IsDotlessDirectory left

-- removing dot segments, segment by segment: what a segment that passes the test leaves of a
-- directory, and whether it underflows
LeavesDirectoryForSegments : (List ℕ → Bool) → (List ℕ → List ℕ) → (List ℕ → Bool) → List ℕ → Type 0
LeavesDirectoryForSegments test left meets_none kept = (s rest : List ℕ) → has_slash s ≡ false
    → IsAbemptyPath rest → test s ≡ true → LeavesDirectory kept s rest (left kept) (meets_none kept)

-- removing dot segments, segment by segment: `.` leaves the directory (kept) as it is
single-dot-leaves-same-directory : (kept : List ℕ) → IsDotlessDirectory kept
    → LeavesDirectoryForSegments is_single_dot (λ k. k) (λ k. false) kept
unfolding LeavesDirectoryForSegments step_of next_output underflows_at
single-dot-leaves-same-directory = property-of-dotless-directory-by-segments
    (LeavesDirectoryForSegments is_single_dot (λ k. k) (λ k. false)) each
  where
    same : (xs : List (List ℕ)) (s : List ℕ) → is_single_dot s ≡ true → step_of xs s ≡ xs
    same xs s e = ap (λ b. next_output b (is_double_dot s) xs s) e

    met : (xs : List (List ℕ)) (s : List ℕ) → is_single_dot s ≡ true
        → underflows_at (is_single_dot s) (is_double_dot s) false xs ≡ false
    met xs s e = ap (λ b. underflows_at b (is_double_dot s) false xs) e

    each : (xs : List (List ℕ)) → NoSlashes xs → AllPass is_dotless xs
        → LeavesDirectoryForSegments is_single_dot (λ k. k) (λ k. false) (slashed (xs ++ [] ∷ []))
    each xs e f s rest free rooted single =
        let dot = ap (λ b. b || is_double_dot s) single in
        record {
          removed = removing-dots-after-directory xs f e s free dot rest rooted ∙ ap
              (λ o. remove_dot_segments (slashed (o ++ [] ∷ []) ++ drop 1 rest)) (same xs s single);
          underflow = underflow-after-directory xs f e s free dot rest rooted ∙ ap (λ b. b
              || underflows (slashed (step_of xs s ++ [] ∷ []) ++ drop 1 rest)) (met xs s single)
              ∙ ap (λ o. underflows (slashed (o ++ [] ∷ []) ++ drop 1 rest)) (same xs s single);
          directory = slashed-dotless-segments-are-directory xs e f;
        }

double-dot-is-not-single : (s : List ℕ) → is_double_dot s ≡ true → is_single_dot s ≡ false
double-dot-is-not-single s e = ⊎_elim (λ f. absurd
    (false≢true (sym (single-dot-is-not-double s f) ∙ e))) (λ f. f) (cases_Bool (is_single_dot s))

before_last_slash-of-slashed-directory : (xs : List (List ℕ)) → NoSlashes xs
    → before_last_slash (slashed (xs ++ [] ∷ [])) ≡ slashed xs
before_last_slash-of-slashed-directory xs e = before_last_slash-of-slashed-is-popped (xs
    ++ [] ∷ []) (segments-with-empty-last-lack-slashes xs e) ∙ ap slashed (pop-undoes-push xs [])

-- paths: before the last `/` of a directory there is nothing exactly if it has no segments
directory-without-segments-is-root : (xs : List (List ℕ)) → NoSlashes xs
    → is_empty (before_last_slash (slashed (xs ++ [] ∷ []))) ≡ is_none xs
directory-without-segments-is-root xs e = ap is_empty (before_last_slash-of-slashed-directory xs e)
    ∙ slashed-is-empty-if-no-segments xs

popped-segments-are-parent_directory : (xs : List (List ℕ)) → NoSlashes xs
    → slashed (pop xs ++ [] ∷ []) ≡ parent_directory (slashed (xs ++ [] ∷ []))
popped-segments-are-parent_directory xs e = slashed-of-push (pop xs) [] ∙ ap (λ t. t
    ++ codes "/") (sym (ap before_last_slash (before_last_slash-of-slashed-directory xs e)
    ∙ before_last_slash-of-slashed-is-popped xs e))

-- removing dot segments, segment by segment:
-- `..` leaves the parent of the directory (kept), and underflows at `/`
double-dot-leaves-parent-directory : (kept : List ℕ) → IsDotlessDirectory kept
    → LeavesDirectoryForSegments is_double_dot parent_directory
    (λ k. is_empty (before_last_slash k)) kept
unfolding LeavesDirectoryForSegments step_of next_output underflows_at
double-dot-leaves-parent-directory = property-of-dotless-directory-by-segments
    (LeavesDirectoryForSegments is_double_dot parent_directory
    (λ k. is_empty (before_last_slash k))) each
  where
    fewer : (xs : List (List ℕ)) (s : List ℕ) → is_double_dot s ≡ true → step_of xs s ≡ pop xs
    fewer xs s e = ap (λ b. next_output b (is_double_dot s) xs s) (double-dot-is-not-single s e)
        ∙ ap (λ b. next_output false b xs s) e

    met : (xs : List (List ℕ)) (s : List ℕ) → is_double_dot s ≡ true
        → underflows_at (is_single_dot s) (is_double_dot s) false xs ≡ is_none xs
    met xs s e = ap (λ b. underflows_at b (is_double_dot s) false xs) (double-dot-is-not-single s e)
        ∙ ap (λ b. underflows_at false b false xs) e

    each : (xs : List (List ℕ)) → NoSlashes xs → AllPass is_dotless xs
        → LeavesDirectoryForSegments is_double_dot parent_directory (λ k. is_empty
        (before_last_slash k)) (slashed (xs ++ [] ∷ []))
    each xs e f s rest free rooted double =
        let dot = or_right (is_single_dot s) _ double in
        let parent = ap (λ o. slashed (o ++ [] ∷ [])) (fewer xs s double)
        ∙ popped-segments-are-parent_directory xs e in
        record {
          removed = removing-dots-after-directory xs f e s free dot rest rooted
              ∙ ap (λ t. remove_dot_segments (t ++ drop 1 rest)) parent;
          underflow = underflow-after-directory xs f e s free dot rest rooted ∙ ap (λ b.
              b || underflows (slashed (step_of xs s ++ [] ∷ []) ++ drop 1 rest)) (met xs s double ∙
              sym (directory-without-segments-is-root xs e)) ∙ ap (λ t. is_empty (before_last_slash
              (slashed (xs ++ [] ∷ []))) || underflows (t ++ drop 1 rest)) parent;
          directory = subst IsDotlessDirectory (popped-segments-are-parent_directory xs e)
              (slashed-dotless-segments-are-directory (pop xs)
              (popped-segments-pass-test lacks_slash xs e)
              (popped-segments-pass-test is_dotless xs f));
        }

-- one step further
module _ (path kept rest : List ℕ) (underflowed : Bool)
    (h : RemovalState path kept rest underflowed)
    (some : 0 < length rest) (n : ℕ) where
  cut : kept ++ rest ≡ kept ++ (take n rest ++ drop n rest)
  cut = ap (λ t. kept ++ t) (sym (take-append-drop n rest))

  removal-passes-dot-segment : (left : List ℕ) (met : Bool) → LeavesDirectory kept (take n rest)
      (drop n rest) left met
      → RemovalState path left (drop 1 (drop n rest)) (underflowed || met)
  removal-passes-dot-segment left met d = record {
    removed = sym (ap remove_dot_segments cut ∙ d.removed) ∙ h.removed;
    underflow = or_assoc underflowed met (underflows (left ++ drop 1 (drop n rest)))
        ∙ ap (λ b. underflowed || b) (sym (ap underflows cut ∙ d.underflow)) ∙ h.underflow;
    absolute = d.directory.absolute;
    dotless = d.directory.dotless;
    closed = inr d.directory.closed;
  }

  pub removal-passes-single-dot : has_slash (take n rest) ≡ false → IsAbemptyPath (drop n rest)
      → is_single_dot (take n rest) ≡ true
      → RemovalState path kept (drop 1 (drop n rest)) underflowed
  unfolding LeavesDirectoryForSegments
  removal-passes-single-dot free rooted single =
      subst (RemovalState path kept (drop 1 (drop n rest))) (or-false underflowed)
      (removal-passes-dot-segment kept false (single-dot-leaves-same-directory kept
      (removal-state-has-directory path kept rest underflowed h some)
      (take n rest) (drop n rest) free rooted single))

  pub removal-passes-double-dot : has_slash (take n rest) ≡ false → IsAbemptyPath (drop n rest)
      → is_double_dot (take n rest) ≡ true → RemovalState path (parent_directory kept) (drop 1
      (drop n rest)) (underflowed || is_empty (before_last_slash kept))
  unfolding LeavesDirectoryForSegments
  removal-passes-double-dot free rooted double = removal-passes-dot-segment (parent_directory kept)
      (is_empty (before_last_slash kept)) (double-dot-leaves-parent-directory kept
      (removal-state-has-directory path kept rest underflowed h some)
      (take n rest) (drop n rest) free rooted double)

  pub removal-passes-dotless-prefix : lacks_dot_segments (take n rest) ≡ true
      → IsCutAtSegment (take n rest) (drop n rest)
      → RemovalState path (kept ++ take n rest) (drop n rest) underflowed
  removal-passes-dotless-prefix dotless closed =
      let whole = append_assoc kept (take n rest) (drop n rest) ∙ sym cut in
      record {
        removed = ap remove_dot_segments whole ∙ h.removed;
        underflow = ap (λ t. underflowed || underflows t) whole ∙ h.underflow;
        absolute = appended-absolute-path-is-absolute kept (take n rest) h.absolute;
        dotless = dotless-path-after-directory-is-dotless kept (take n rest)
            (removal-state-has-directory path kept rest underflowed h some) dotless;
        closed = ⊎_elim inl (λ e. inr (
          kept ++ e.0,
          ap (λ t. kept ++ t) e.1 ∙ sym (append_assoc kept e.0 (codes "/")),
        )) closed;
      }

module _ (text : List ℕ) (start : ℕ) (absolute : IsAbsolute (drop start text)) where
  start-of-absolute-is-within-text : start ≤ length text
  start-of-absolute-is-within-text =
      grind (arith, common_steps, false≢true, eq_true_from_IsTrue, start, absolute, length-drop)

  pub appending-extends-text-from-start : (t new : List ℕ) → new ≡ text ++ t → drop start new
      ≡ drop start text ++ t
  appending-extends-text-from-start t new e = ap (drop start) e
      ∙ drop-append-le start text t start-of-absolute-is-within-text

  pub appending-keeps-text-to-start : (t new : List ℕ) → new ≡ text ++ t → take start new
      ≡ take start text
  appending-keeps-text-to-start t new e = ap (take start) e
      ∙ take-append-le start text t start-of-absolute-is-within-text

  pub replacement-is-text-from-start : (t new : List ℕ) → new ≡ take start text ++ t
      → drop start new ≡ t
  replacement-is-text-from-start t new e = ap (drop start) e ∙ drop_at
      (take start text) t start (length-take-le start text start-of-absolute-is-within-text)

  pub replacing-keeps-text-to-start : (t new : List ℕ) → new ≡ take start text ++ t → take start new
      ≡ take start text
  replacing-keeps-text-to-start t new e = ap (take start) e ∙ take_at
      (take start text) t start (length-take-le start text start-of-absolute-is-within-text)

pub slice-from-zero-is-prefix : (text prefix : List ℕ) (n : ℕ)
    → prefix ≡ slice_range text 0 n → prefix ≡ take n text
slice-from-zero-is-prefix text prefix n e = let same : n - 0 ≡ n = omega arith in e
    ∙ ap (λ m. take m text) same
