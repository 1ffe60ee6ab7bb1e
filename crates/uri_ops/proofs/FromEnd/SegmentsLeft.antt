-- The segments that are left of a path, from the last one.
use Rattle.uri_ops.proofs.Common.{common_steps, ◌≡◌, ℕ, zero, suc, ◌+◌, Bool, true, false, cond, List, [], ◌∷◌, ◌++◌, ◌-◌, ◌<◌, length, refl, sym, ap, subst, ◌∙◌, add-one, arith, lit<, Option, Some, None, MatchOption, Bor, length-append, codes, and_from, cond-false, cond-true, false≢true, not_from_false, or_right, lacks, eq_true_from_IsTrue, IsAbemptyPath, cons_is_not_nil, equal-to-true-is-IsTrue, IsAbsolute, before_last_slash, has_slash, is_dot_segment, is_empty, is_double_dot, is_single_dot, remove_dot_segments, is_abempty_path, segments_left, with_segment, without_last_segments}
use Rattle.std.specs.Str.Pattern.{RFindsChar, SplitsAroundMatch}
use Rattle.uri_pct.proofs.Offered.{rsplit_once_cuts_at_last}
use Rattle.uri_ops.proofs.Paths.Segments.{closing, closing-of-append, dotless_of, dotless_of-with-empty-last, end_of, next_output, step_of, appended-segments-pass-test, steps, segments-after-steps-pass-test}
use Rattle.uri_ops.proofs.Paths.SlashedSegments.{NoSlashes, before_last_slash-of-append, lacks_slash, before_last_slash-of-slashed-is-popped, slashed, remove-dots-by-segments, slashed-of-append, slashed-of-push}
use Rattle.uri_ops.proofs.Paths.DotLaws.{property-of-absolute-path-by-segments, rooted, segments-with-empty-last-lack-slashes}
use Rattle.uri_ops.proofs.Paths.LastSlashes.{before_last_slash-of-directory}

segments_left-by-steps : (xs : List (List ℕ)) → NoSlashes xs
    → segments_left (slashed xs) ≡ slashed (steps [] xs)
unfolding segments_left
segments_left-by-steps xs lack = ap (λ t. before_last_slash (remove_dot_segments t))
    (sym (slashed-of-push xs [])) ∙ ap before_last_slash (remove-dots-by-segments (xs ++ [] ∷ [])
    (segments-with-empty-last-lack-slashes xs lack) ∙ ap slashed (dotless_of-with-empty-last xs)
    ∙ slashed-of-push (steps [] xs) []) ∙ before_last_slash-of-directory (slashed (steps [] xs)
    ++ 47 ∷ []) (slashed (steps [] xs), refl)

-- removing dot segments: the steps over segments and a last one are a step after those over the
-- segments
steps-of-push : (output xs : List (List ℕ)) (s : List ℕ)
    → steps output (xs ++ s ∷ []) ≡ step_of (steps output xs) s
unfolding steps
steps-of-push output [] s = refl
steps-of-push output (x ∷ xs) s = steps-of-push (step_of output x) xs s

-- segments left: one more segment changes their text as it changes their list; single, double:
-- whether it is `.`, or `..`
with_segment-by-steps : (single double : Bool) (output : List (List ℕ)) (s : List ℕ)
    → NoSlashes output → slashed (next_output single double output s) ≡ cond single
    (slashed output) (cond double (before_last_slash (slashed output)) (slashed output ++ 47 ∷ s))
unfolding next_output
with_segment-by-steps single double output s lack =
    grind (arith, common_steps, before_last_slash-of-slashed-is-popped, slashed-of-push)

pushed-segments-lack-slashes : (xs : List (List ℕ)) (s : List ℕ)
    → NoSlashes xs → has_slash s ≡ false → NoSlashes (xs ++ s ∷ [])
pushed-segments-lack-slashes xs s lack free = appended-segments-pass-test lacks_slash xs (s ∷ [])
    lack (and_from _ _ (not_from_false _ free) refl)

segments_left-of-pushed-segment : (xs : List (List ℕ)) → NoSlashes xs → (s : List ℕ) → has_slash s
    ≡ false → segments_left (slashed xs ++ 47 ∷ s) ≡ with_segment (segments_left (slashed xs)) s
unfolding step_of
segments_left-of-pushed-segment xs lack s free = ap segments_left (sym (slashed-of-push xs s))
    ∙ segments_left-by-steps (xs ++ s ∷ []) (pushed-segments-lack-slashes xs s lack free)
    ∙ ap slashed (steps-of-push [] xs s)
    ∙ with_segment-by-steps (is_single_dot s) (is_double_dot s) (steps [] xs) s
    (segments-after-steps-pass-test lacks_slash lacks_slash (λ t f d. f) [] xs refl lack)
    ∙ ap (λ left. with_segment left s) (sym (segments_left-by-steps xs lack))

-- segments left: none of an empty path
pub segments_left-of-nothing : segments_left [] ≡ []
unfolding slashed steps
segments_left-of-nothing = segments_left-by-steps [] refl

-- paths: what holds of `/` before each of some segments, or of none, holds of each path that is
-- empty or begins with `/`
property-of-path-by-segments : (P : List ℕ → Type 0) → ((xs : List (List ℕ))
    → NoSlashes xs → P (slashed xs)) → (path : List ℕ) → IsAbemptyPath path → P path
unfolding slashed
property-of-path-by-segments P each = rooted P (each [] refl)
    (property-of-absolute-path-by-segments P (λ s rest lack. each (s ∷ rest) lack))

-- segments left: those of a path with one more segment are those of the path, changed by it
pub segments_left-with-segment : (prefix : List ℕ) → IsAbemptyPath prefix → (s : List ℕ)
    → has_slash s ≡ false → segments_left (prefix ++ 47 ∷ s) ≡ with_segment (segments_left prefix) s
segments_left-with-segment = property-of-path-by-segments
    (λ prefix. (s : List ℕ) → has_slash s ≡ false → segments_left (prefix ++ 47 ∷ s)
    ≡ with_segment (segments_left prefix) s) segments_left-of-pushed-segment

-- removing dot segments: a last dot segment leaves a `/`
slashed-of-end : (dot : Bool) → slashed (end_of dot) ≡ cond dot (codes "/") []
unfolding slashed
slashed-of-end dot = grind (arith, common_steps)

removing-dots-of-pushed-segment : (xs : List (List ℕ))
    → NoSlashes xs → (s : List ℕ) → has_slash s ≡ false → remove_dot_segments (slashed xs ++ 47 ∷ s)
    ≡ segments_left (slashed xs ++ 47 ∷ s) ++ cond (is_dot_segment s) (codes "/") []
unfolding dotless_of closing
removing-dots-of-pushed-segment xs lack s free =
    let all = xs ++ s ∷ [] in
    let none = pushed-segments-lack-slashes xs s lack free in
    ap remove_dot_segments (sym (slashed-of-push xs s)) ∙ remove-dots-by-segments all none
    ∙ slashed-of-append (steps [] all) (closing all) ∙ ap (λ t. slashed (steps [] all)
    ++ t) (ap slashed (closing-of-append xs s []) ∙ slashed-of-end (is_dot_segment s))
    ∙ ap (λ t. t ++ cond (is_dot_segment s) (codes "/") []) (sym (segments_left-by-steps all none)
    ∙ ap segments_left (slashed-of-push xs s))

pub removing-dots-leaves-segments_left : (prefix : List ℕ) → IsAbemptyPath prefix
    → (s : List ℕ) → has_slash s ≡ false → remove_dot_segments (prefix ++ 47 ∷ s)
    ≡ segments_left (prefix ++ 47 ∷ s) ++ cond (is_dot_segment s) (codes "/") []
removing-dots-leaves-segments_left = property-of-path-by-segments (λ prefix. (s : List ℕ)
    → has_slash s ≡ false → remove_dot_segments (prefix ++ 47 ∷ s) ≡ segments_left (prefix
    ++ 47 ∷ s) ++ cond (is_dot_segment s) (codes "/") []) removing-dots-of-pushed-segment

-- segments left: none is left of no segments, however many double dots take some
pub without_last_segments-of-nothing : (climbs : ℕ) → without_last_segments climbs [] ≡ []
unfolding without_last_segments
without_last_segments-of-nothing zero = refl
without_last_segments-of-nothing (suc climbs) = without_last_segments-of-nothing climbs

-- what a segment is to double dots after it
module _ (s left : List ℕ) where
  pub double-dot-takes-one-more : is_single_dot s ≡ false → is_double_dot s ≡ true → (climbs : ℕ)
      → without_last_segments climbs (with_segment left s) ≡ without_last_segments (climbs + 1) left
  unfolding without_last_segments
  double-dot-takes-one-more e f climbs = ap (without_last_segments climbs) (cond-false _ _ _ e
      ∙ cond-true _ _ _ f) ∙ ap (λ n. without_last_segments n left) (sym (add-one climbs))

  pub other-segment-is-left : is_dot_segment s ≡ false → with_segment left s ≡ left ++ 47 ∷ s
  other-segment-is-left e = grind arith

  pub other-segment-is-taken : is_dot_segment s ≡ false
      → has_slash s ≡ false → (climbs : ℕ) → (climbs ≡ 0 → ⊥)
      → without_last_segments climbs (with_segment left s) ≡ without_last_segments (climbs - 1) left
  unfolding without_last_segments
  other-segment-is-taken e free o some =
      grind (arith, common_steps, some, other-segment-is-left, before_last_slash-of-append)

text-lacking-slash-has-none : (text : List ℕ) → lacks 47 text ≡ true → has_slash text ≡ false
text-lacking-slash-has-none [] e = refl
text-lacking-slash-has-none (c ∷ text) e =
    grind (arith, common_steps, (text-lacking-slash-has-none text))

path-lacking-slash-is-empty : (path : List ℕ) → IsAbemptyPath path → lacks 47 path ≡ true
    → path ≡ []
path-lacking-slash-is-empty path h e = grind (arith, common_steps, eq_true_from_IsTrue)

-- paths: what is before the last `/` of a path, and the segment after it
pub record IsCutAtLastSlash (path prefix segment : List ℕ) : Type 0 where
  pub whole : path ≡ prefix ++ 47 ∷ segment
  pub free : has_slash segment ≡ false
  pub rooted : IsAbemptyPath prefix
  pub shorter : length prefix < length path

prefix-before-slash-is-rooted : (prefix segment : List ℕ) → IsAbemptyPath (prefix ++ 47 ∷ segment)
    → IsAbemptyPath prefix
prefix-before-slash-is-rooted prefix segment h = grind (arith, common_steps, cons_is_not_nil)

-- paths: what `rsplit_once` returns for a path that is empty or begins with `/`
pub cut-at-last-slash : (path : List ℕ)
    → IsAbemptyPath path → (cut : Option (Bor (List ℕ) × Bor (List ℕ))) → MatchOption cut
    (RFindsChar 47 path None) (λ x. SplitsAroundMatch (RFindsChar 47) path x.0.now x.1.now)
    → MatchOption cut (path ≡ []) (λ x. IsCutAtLastSlash path x.0.now x.1.now)
cut-at-last-slash path h None found = path-lacking-slash-is-empty path h
    (rsplit_once_cuts_at_last 47 path None found (lit< tt))
cut-at-last-slash path h (Some x) found =
    let cut = rsplit_once_cuts_at_last 47 path (Some x) found (lit< tt) in
    record {
      whole = cut.0;
      free = text-lacking-slash-has-none x.1.now cut.1;
      rooted = prefix-before-slash-is-rooted x.0.now x.1.now (subst IsAbemptyPath cut.0 h);
      shorter = omega (arith, ap length cut.0, length-append x.0.now (47 ∷ x.1.now));
    }

pub absolute-path-is-not-empty : (path : List ℕ) → IsAbsolute path → path ≡ [] → ⊥
absolute-path-is-not-empty path h e = false≢true (eq_true_from_IsTrue _ (subst IsAbsolute e h))

-- paths: one that passes the test is empty or begins with `/`
pub abempty-path-by-test : (path : List ℕ) → is_abempty_path path ≡ true → IsAbemptyPath path
abempty-path-by-test path e = grind (arith, common_steps, equal-to-true-is-IsTrue)

pub abempty-path-passes-test : (path : List ℕ) → IsAbemptyPath path → is_abempty_path path ≡ true
abempty-path-passes-test = rooted (λ path. is_abempty_path path ≡ true) refl
    (λ path h. or_right (is_empty path) _ (eq_true_from_IsTrue _ h))
