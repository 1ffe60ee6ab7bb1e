-- The segments of a path, taken one after the other after a directory that has no dot segment.
use Rattle.uri_ops.proofs.Common.{arith, ◌≡◌, ℕ, Bool, true, false, List, [], ◌∷◌, ◌++◌, drop, refl, sym, ap, ◌∙◌, ◌||◌, append-nil, and_from, eqb-true, not_from_false, or_right, IsAbemptyPath, is_single_dot, is_double_dot, is_dot_segment, has_slash, segments, remove_dot_segments, underflows, IsAbsolute, eq_true_from_IsTrue, common_steps}
use Rattle.uri_ops.proofs.Paths.Segments.{is_none, step_of, steps, end_of, closing, dotless_of, AllPass, is_dotless, steps-of-dotless-append-all, dotless_of-append, dotless_of-with-empty-last, closing-of-append, next_output-passes-test, appended-segments-pass-test}
use Rattle.uri_ops.proofs.Paths.Underflows.{underflows_at, underflows_over, underflows_over_is_or, dotless-segments-do-not-underflow, underflows_over-of-append, trailing-slash-changes-no-underflow}
use Rattle.uri_ops.proofs.Paths.SlashedSegments.{slashed, lacks_slash, NoSlashes, slashed-of-push, remove-dots-by-segments, underflows-by-segments, slashed-of-segments-is-text-after-slash, segments-of-text-lack-slashes, segments-of-text-are-not-none, segments-of-joined-segments}
use Rattle.uri_ops.proofs.Paths.DotLaws.{rooted, path-after-slash-appends-its-segments, appended-segments-lack-slashes, segments-with-empty-last-lack-slashes}

-- of a segment after ones without dot segments: what it leaves of them and what follows it are the
-- same path
module _ (xs : List (List ℕ)) (dotless : AllPass is_dotless xs) (s : List ℕ) where
  segments-after-step-are-dotless : AllPass is_dotless (step_of xs s)
  unfolding step_of
  segments-after-step-are-dotless = next_output-passes-test is_dotless
      (is_single_dot s) (is_double_dot s) xs s dotless (λ e. not_from_false _ e)

  -- removing dot segments may go on from what a segment leaves of the segments before it
  dotless_of-after-step-is-same : (ys : List (List ℕ)) → is_none ys ≡ false
      → dotless_of (xs ++ s ∷ ys) ≡ dotless_of (step_of xs s ++ ys)
  unfolding is_none steps closing
  dotless_of-after-step-is-same ys e =
      grind (
        arith,
        common_steps,
        dotless_of-append,
        steps-of-dotless-append-all,
        segments-after-step-are-dotless,
      )

  dotless_of-last-dot-leaves-empty-segment : is_dot_segment s ≡ true
      → dotless_of (xs ++ s ∷ []) ≡ dotless_of (step_of xs s ++ [] ∷ [])
  unfolding steps closing
  dotless_of-last-dot-leaves-empty-segment dot =
      grind (
        arith,
        dotless_of-append,
        steps,
        end_of,
        steps-of-dotless-append-all,
        dotless_of-with-empty-last,
        segments-after-step-are-dotless,
      )

  segment-underflows : Bool
  segment-underflows = underflows_at (is_single_dot s) (is_double_dot s) false xs

  underflow-at-segment-or-after-step : (ys : List (List ℕ)) → underflows_over false [] (xs
      ++ s ∷ ys) ≡ (segment-underflows || underflows_over false [] (step_of xs s ++ ys))
  unfolding underflows_over segment-underflows
  underflow-at-segment-or-after-step ys =
      grind (
        arith,
        underflows_over-of-append,
        steps,
        dotless-segments-do-not-underflow,
        steps-of-dotless-append-all,
        underflows_over_is_or,
        segments-after-step-are-dotless,
      )

  underflow-at-last-segment-or-after-step : underflows_over false [] (xs ++ s ∷ [])
      ≡ (segment-underflows || underflows_over false [] (step_of xs s ++ [] ∷ []))
  underflow-at-last-segment-or-after-step = underflow-at-segment-or-after-step []
      ∙ ap (λ b. segment-underflows || b) (ap (underflows_over false []) (append-nil (step_of xs s))
      ∙ sym (trailing-slash-changes-no-underflow false [] (step_of xs s)))

-- removing dot segments: after a directory, they are removed from its segments and the text's
removing-dots-after-segments-and-slash : (xs : List (List ℕ)) (q : List ℕ) → NoSlashes xs
    → remove_dot_segments (slashed (xs ++ [] ∷ []) ++ q) ≡ slashed (dotless_of (xs ++ segments q))
removing-dots-after-segments-and-slash xs q e = ap remove_dot_segments
    (path-after-slash-appends-its-segments xs q)
    ∙ remove-dots-by-segments (xs ++ segments q) (appended-segments-lack-slashes xs q e)

-- removing dot segments: a directory and text q after it underflow
-- exactly if its segments and those of q do
underflow-after-segments-and-slash : (xs : List (List ℕ)) (q : List ℕ) → NoSlashes xs
    → underflows (slashed (xs ++ [] ∷ []) ++ q) ≡ underflows_over false [] (xs ++ segments q)
underflow-after-segments-and-slash xs q e = ap underflows
    (path-after-slash-appends-its-segments xs q)
    ∙ underflows-by-segments (xs ++ segments q) (appended-segments-lack-slashes xs q e)

-- paths: a segment without `/`, before segments without any, has none with them
slashless-segment-and-rest-lack-slashes : (s : List ℕ) (rest : List (List ℕ))
    → has_slash s ≡ false → NoSlashes rest → NoSlashes (s ∷ rest)
slashless-segment-and-rest-lack-slashes s rest e f = and_from _ _ (not_from_false _ e) f

pub segments-of-slashless-text-is-one : (s : List ℕ) → has_slash s ≡ false
    → segments (s ++ []) ≡ s ∷ []
unfolding slashed
segments-of-slashless-text-is-one s e = segments-of-joined-segments s []
    (slashless-segment-and-rest-lack-slashes s [] e refl)

-- paths: the segments of a text with a first `/` (47) are what is before it,
-- and those of what is after it
pub segments-split-at-first-slash : (s r : List ℕ) → has_slash s ≡ false → segments (s ++ 47 ∷ r)
    ≡ s ∷ segments r
segments-split-at-first-slash s r e = ap (λ t. segments (s ++ t))
    (sym (slashed-of-segments-is-text-after-slash r))
    ∙ segments-of-joined-segments s (segments r)
    (slashless-segment-and-rest-lack-slashes s (segments r) e (segments-of-text-lack-slashes r))

-- paths: an absolute path is `/` (47) and a rest
pub absolute-path-is-slash-and-rest : (path : List ℕ) → IsAbsolute path → path ≡ 47 ∷ drop 1 path
absolute-path-is-slash-and-rest path h = grind (arith, common_steps, eq_true_from_IsTrue)

module _ (xs : List (List ℕ)) (dotless : AllPass is_dotless xs) (lack : NoSlashes xs) (s : List ℕ)
    (free : has_slash s ≡ false) (dot : is_dot_segment s ≡ true) where
  segments-after-step-lack-slashes : NoSlashes (step_of xs s)
  unfolding step_of
  segments-after-step-lack-slashes = grind (arith, next_output-passes-test, lacks_slash, lack)

  removing-dots-after-last-dot-segment : remove_dot_segments (slashed (xs ++ [] ∷ []) ++ (s ++ []))
      ≡ remove_dot_segments (slashed (step_of xs s ++ [] ∷ []) ++ [])
  removing-dots-after-last-dot-segment =
      grind (
        arith,
        removing-dots-after-segments-and-slash,
        segments-of-slashless-text-is-one,
        dotless_of-last-dot-leaves-empty-segment,
        segments-after-step-lack-slashes,
      )

  removing-dots-after-inner-dot-segment : (r : List ℕ) → remove_dot_segments (slashed (xs
      ++ [] ∷ []) ++ (s ++ 47 ∷ r)) ≡ remove_dot_segments (slashed (step_of xs s ++ [] ∷ []) ++ r)
  removing-dots-after-inner-dot-segment r =
      grind (
        arith,
        removing-dots-after-segments-and-slash,
        segments-split-at-first-slash,
        dotless_of-after-step-is-same,
        segments-of-text-are-not-none,
        segments-after-step-lack-slashes,
      )

  pub removing-dots-after-directory : (rest : List ℕ) → IsAbemptyPath rest
      → remove_dot_segments (slashed (xs ++ [] ∷ []) ++ (s ++ rest))
      ≡ remove_dot_segments (slashed (step_of xs s ++ [] ∷ []) ++ drop 1 rest)
  removing-dots-after-directory =
      grind (arith, removing-dots-after-last-dot-segment, removing-dots-after-inner-dot-segment)

  dot-segment-underflows : Bool
  dot-segment-underflows = segment-underflows xs dotless s

  underflow-at-last-dot-segment : underflows (slashed (xs ++ [] ∷ []) ++ (s ++ []))
      ≡ (dot-segment-underflows || underflows (slashed (step_of xs s ++ [] ∷ []) ++ []))
  unfolding dot-segment-underflows
  underflow-at-last-dot-segment =
      grind (
        arith,
        underflow-after-segments-and-slash,
        lack,
        segments-of-slashless-text-is-one,
        underflow-at-last-segment-or-after-step,
        segments-after-step-lack-slashes,
      )

  underflow-at-inner-dot-segment : (r : List ℕ) → underflows (slashed (xs ++ [] ∷ []) ++ (s
      ++ 47 ∷ r)) ≡ (dot-segment-underflows || underflows (slashed (step_of xs s ++ [] ∷ []) ++ r))
  unfolding dot-segment-underflows
  underflow-at-inner-dot-segment r =
      grind (
        arith,
        underflow-after-segments-and-slash,
        lack,
        segments-split-at-first-slash,
        underflow-at-segment-or-after-step,
        segments-after-step-lack-slashes,
      )

  pub underflow-after-directory : (rest : List ℕ) → IsAbemptyPath rest → underflows (slashed (xs
      ++ [] ∷ []) ++ (s ++ rest)) ≡ (underflows_at (is_single_dot s) (is_double_dot s) false xs
      || underflows (slashed (step_of xs s ++ [] ∷ []) ++ drop 1 rest))
  unfolding dot-segment-underflows segment-underflows
  underflow-after-directory =
      grind (
        arith,
        rooted,
        underflow-at-last-dot-segment,
        absolute-path-is-slash-and-rest,
        underflow-at-inner-dot-segment,
      )

-- removing dot segments: one at the end leaves the `/` that may be after it
last-dot-segment-leaves-closing-slash : (xs : List (List ℕ)) (y : List ℕ) → is_dot_segment y ≡ true
    → dotless_of (xs ++ y ∷ []) ≡ dotless_of ((xs ++ y ∷ []) ++ [] ∷ [])
unfolding dotless_of steps closing
last-dot-segment-leaves-closing-slash xs y dot = ap (λ t. steps [] (xs ++ y ∷ []) ++ t)
    (closing-of-append xs y [] ∙ ap end_of dot) ∙ sym (dotless_of-with-empty-last (xs ++ y ∷ []))

-- paths: the prefix is a list of segments, each after a `/`
record IsOfSlashedSegments (prefix : List ℕ) : Type 0 where
  segs : List (List ℕ)
  whole : slashed segs ≡ prefix
  lack : NoSlashes segs

slashed-of-no-segments-is-empty : slashed [] ≡ []
unfolding slashed
slashed-of-no-segments-is-empty = refl

-- paths: what is before a `/` (47) in an absolute path is segments, each after a `/`
prefix-before-slash-is-slashed-segments : (prefix y : List ℕ) → IsAbsolute (prefix ++ 47 ∷ y)
    → IsOfSlashedSegments prefix
prefix-before-slash-is-slashed-segments [] y h =
    record { segs = []; whole = slashed-of-no-segments-is-empty; lack = refl }
prefix-before-slash-is-slashed-segments (c ∷ prefix) y h = record {
  segs = segments prefix;
  whole = slashed-of-segments-is-text-after-slash prefix
      ∙ ap (λ d. d ∷ prefix) (sym (eqb-true c 47 (eq_true_from_IsTrue _ h)));
  lack = segments-of-text-lack-slashes prefix;
}

-- removing dot segments: a `..` (y) at the end leaves a `/`, as if there were a `/` after it
pub trailing-double-dot-leaves-slash : (prefix y : List ℕ)
    → IsAbsolute (prefix ++ 47 ∷ y) → has_slash y ≡ false → is_double_dot y ≡ true
    → remove_dot_segments (prefix ++ 47 ∷ y) ≡ remove_dot_segments ((prefix ++ 47 ∷ y) ++ 47 ∷ [])
trailing-double-dot-leaves-slash prefix y h free double =
    let f = prefix-before-slash-is-slashed-segments prefix y h in
    let lack = appended-segments-pass-test lacks_slash f.segs (y ∷ []) f.lack
    (slashless-segment-and-rest-lack-slashes y [] free refl) in
    let text : slashed (f.segs ++ y ∷ []) ≡ prefix ++ 47 ∷ y = slashed-of-push f.segs y
    ∙ ap (λ t. t ++ 47 ∷ y) f.whole in
    let closed : slashed ((f.segs ++ y ∷ []) ++ [] ∷ []) ≡ (prefix ++ 47 ∷ y) ++ 47 ∷ [] =
    slashed-of-push (f.segs ++ y ∷ []) [] ∙ ap (λ t. t ++ 47 ∷ []) text in
    ap remove_dot_segments (sym text) ∙ remove-dots-by-segments (f.segs ++ y ∷ []) lack ∙ ap slashed
    (last-dot-segment-leaves-closing-slash f.segs y (or_right (is_single_dot y) _ double))
    ∙ sym (remove-dots-by-segments ((f.segs ++ y ∷ []) ++ [] ∷ [])
    (segments-with-empty-last-lack-slashes (f.segs ++ y ∷ []) lack)) ∙ ap remove_dot_segments closed
