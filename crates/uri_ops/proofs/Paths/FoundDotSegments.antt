-- A dot segment that a path's segments are found to have.
use Rattle.uri_ops.proofs.Common.{arith, ◌≡◌, ◌<◌, ℕ, Bool, true, false, List, ◌++◌, ◌||◌, length, take, drop, subst, sym, ap, ◌∙◌, list_all, and_right, or_right, take-append-drop, list_all-append, IsAbemptyPath, has_slash, is_dot_segment, is_double_dot, is_single_dot, lacks_dot_segments, segments, IsDotlessDirectory, RemovalState, IsFirstSegment}
use Rattle.uri_ops.proofs.Paths.DotLaws.{appended-segments-lack-slashes, path-after-slash-appends-its-segments}
use Rattle.uri_ops.proofs.Paths.LeftPaths.{property-of-dotless-directory-by-segments, removal-state-has-directory}
use Rattle.uri_ops.proofs.Paths.Segments.{is_dotless}
use Rattle.uri_ops.proofs.Paths.SlashedSegments.{segments-of-slashed-segments}
use Rattle.uri_ops.proofs.Paths.TakenSegments.{segments-of-slashless-text-is-one, segments-split-at-first-slash}

first-dot-segment-is-in-path : (segment rest : List ℕ) → has_slash segment ≡ false
    → is_dot_segment segment ≡ true → IsAbemptyPath rest
    → lacks_dot_segments (segment ++ rest) ≡ false
first-dot-segment-is-in-path segment rest lacks dot =
    grind (arith, segments-of-slashless-text-is-one, segments-split-at-first-slash)

dot-segment-after-directory-is-in-path : (kept path : List ℕ) → IsDotlessDirectory kept
    → lacks_dot_segments path ≡ false → lacks_dot_segments (kept ++ path) ≡ false
dot-segment-after-directory-is-in-path kept path d found =
    property-of-dotless-directory-by-segments (λ k. lacks_dot_segments (k ++ path) ≡ false)
    (λ xs e _. ap lacks_dot_segments (path-after-slash-appends-its-segments xs path)
    ∙ ap (list_all is_dotless) (segments-of-slashed-segments (xs ++ segments path)
    (appended-segments-lack-slashes xs path e)) ∙ list_all-append is_dotless xs (segments path)
    ∙ and_right (list_all is_dotless xs) _ found) kept d

pub dot-segment-before-rest-is-in-path : (test : List ℕ → Bool) → ((s : List ℕ) → test s ≡ true
    → is_dot_segment s ≡ true) → (path rest : List ℕ) (done n : ℕ) → rest ≡ drop done path
    → 0 < length rest → RemovalState path (take done path) (drop done path) false
    → IsFirstSegment test rest n → lacks_dot_segments path ≡ false
dot-segment-before-rest-is-in-path test is_dot path rest done n is some h first =
    ap lacks_dot_segments (sym (take-append-drop done path)
    ∙ ap (λ r. take done path ++ r) (sym is))
    ∙ dot-segment-after-directory-is-in-path (take done path) rest (removal-state-has-directory path
    (take done path) rest false (subst (λ r. RemovalState path (take done path) r false) (sym is) h)
    some) (ap lacks_dot_segments (sym (take-append-drop first.end rest))
    ∙ first-dot-segment-is-in-path (take first.end rest)
    (drop first.end rest) first.segment (is_dot (take first.end rest) first.passes) first.suffix)

pub single-dot-is-dot-segment : (s : List ℕ) → is_single_dot s ≡ true → is_dot_segment s ≡ true
single-dot-is-dot-segment s e = ap (λ b. b || is_double_dot s) e

pub double-dot-is-dot-segment : (s : List ℕ) → is_double_dot s ≡ true → is_dot_segment s ≡ true
double-dot-is-dot-segment s e = or_right (is_single_dot s) _ e
