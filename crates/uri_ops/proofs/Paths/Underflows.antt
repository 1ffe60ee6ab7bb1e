-- Which segments go above the root: a double dot where no segment is left.
use Rattle.uri_ops.proofs.Common.{arith, ◌≡◌, ℕ, Bool, true, false, cond, List, [], ◌∷◌, ◌++◌, refl, ap, ◌∙◌, ◌||◌, list_all, and_parts, is_single_dot, is_double_dot, common_steps}
use Rattle.uri_ops.proofs.Paths.Segments.{is_none, step_of, steps, parent, AllPass, is_dotless, steps-of-dotless-append-all, steps_are_dotless}

-- a double dot meets an empty output, at this segment or before it
unfoldable pub underflows_at : Bool → Bool → Bool → List (List ℕ) → Bool
underflows_at true double before output = before
underflows_at false true before output = before || is_none output
underflows_at false false before output = before

unfoldable pub underflows_over : Bool → List (List ℕ) → List (List ℕ) → Bool
underflows_over before output [] = before
underflows_over before output (s ∷ rest) = underflows_over
    (underflows_at (is_single_dot s) (is_double_dot s) before output) (step_of output s) rest

-- dot segments: two lists of segments underflow if the first does, or the second after what the
-- first leaves; before: an underflow before
pub underflows_over-of-append : (before : Bool) (output xs ys : List (List ℕ))
    → underflows_over before output (xs ++ ys) ≡ underflows_over (underflows_over before output xs)
    (steps output xs) ys
unfolding underflows_over steps
underflows_over-of-append before output [] ys = refl
underflows_over-of-append before output (x ∷ xs) ys = underflows_over-of-append
    (underflows_at (is_single_dot x) (is_double_dot x) before output) (step_of output x) xs ys

-- dot segments: an empty segment makes no underflow; before: whether there was one before
empty-segment-does-not-underflow : (before : Bool) (output : List (List ℕ))
    → underflows_over before output ([] ∷ []) ≡ before
unfolding underflows_over underflows_at
empty-segment-does-not-underflow before output = refl

-- dot segments: an underflow that there was stays at the next segment;
-- single, double: whether it is `.`, or `..`
underflow-before-stays-at-segment : (single double : Bool) (output : List (List ℕ))
    → underflows_at single double true output ≡ true
unfolding underflows_at
underflow-before-stays-at-segment single double output = grind (arith, common_steps)

underflow-before-stays-over-segments : (output segs : List (List ℕ))
    → underflows_over true output segs ≡ true
unfolding underflows_over
underflow-before-stays-over-segments output [] = refl
underflow-before-stays-over-segments output (s ∷ rest) =
    ap (λ b. underflows_over b (step_of output s) rest)
    (underflow-before-stays-at-segment (is_single_dot s) (is_double_dot s) output)
    ∙ underflow-before-stays-over-segments (step_of output s) rest

pub underflows_over_is_or : (before : Bool) (output segs : List (List ℕ))
    → underflows_over before output segs ≡ (before || underflows_over false output segs)
underflows_over_is_or true output segs = underflow-before-stays-over-segments output segs
underflows_over_is_or false output segs = refl

-- dot segments: a segment that is none makes no underflow; before: whether there was one before
dotless-segment-does-not-underflow : (before : Bool) (output : List (List ℕ)) (s : List ℕ)
    → is_dotless s ≡ true → underflows_at (is_single_dot s) (is_double_dot s) before output ≡ before
unfolding underflows_at
dotless-segment-does-not-underflow before output s e = grind arith

-- dot segments: segments of which none is one make no underflow;
-- before: whether there was one before
pub dotless-segments-do-not-underflow : (before : Bool) (output xs : List (List ℕ))
    → AllPass is_dotless xs → underflows_over before output xs ≡ before
unfolding underflows_over
dotless-segments-do-not-underflow before output [] e = refl
dotless-segments-do-not-underflow before output (s ∷ rest) e =
    let f = and_parts (is_dotless s) (list_all is_dotless rest) e in
    ap (λ b. underflows_over b (step_of output s) rest) (dotless-segment-does-not-underflow before
    output s f.0) ∙ dotless-segments-do-not-underflow before (step_of output s) rest f.1

pub segments-underflow-as-prefix-or-remainder : (xs ys : List (List ℕ)) → underflows_over false []
    (xs ++ ys) ≡ (underflows_over false [] xs || underflows_over false [] (steps [] xs ++ ys))
segments-underflow-as-prefix-or-remainder xs ys =
    grind (
      arith,
      underflows_over-of-append,
      underflows_over_is_or,
      dotless-segments-do-not-underflow,
      steps_are_dotless,
      steps-of-dotless-append-all,
    )

-- dot segments: an empty segment at the end makes no underflow;
-- before: whether there was one before
pub trailing-slash-changes-no-underflow : (before : Bool) (output xs : List (List ℕ))
    → underflows_over before output (xs ++ [] ∷ []) ≡ underflows_over before output xs
trailing-slash-changes-no-underflow before output xs =
    grind (arith, underflows_over-of-append, empty-segment-does-not-underflow, steps)

-- removing dot segments: only `..` underflows; single, double: whether a segment is `.`, or `..`
only-double-dot-underflows : (single double before : Bool) (output : List (List ℕ)) → cond double
    (underflows_at single double before output) before ≡ underflows_at single double before output
unfolding underflows_at
only-double-dot-underflows single double before output = grind (arith, common_steps)

-- dot segments: one segment s, if b, or none makes the underflow that it makes at s, or none
underflows_over-segment-if-double-dot : (b before : Bool) (output : List (List ℕ)) (s : List ℕ)
    → underflows_over before output (cond b (s ∷ []) [])
    ≡ cond b (underflows_at (is_single_dot s) (is_double_dot s) before output) before
unfolding underflows_over
underflows_over-segment-if-double-dot b before output s = grind (arith, common_steps)

-- paths: a directory underflows exactly if the segments of its path do; before: whether there was
-- an underflow before
pub parent-underflows-as-segments : (before : Bool) (output segs : List (List ℕ))
    → underflows_over before output (parent segs) ≡ underflows_over before output segs
unfolding underflows_over parent
parent-underflows-as-segments before output [] = refl
parent-underflows-as-segments before output (s ∷ []) =
    grind (arith, underflows_over-segment-if-double-dot, only-double-dot-underflows)
parent-underflows-as-segments before output (s ∷ t ∷ rest) = parent-underflows-as-segments
    (underflows_at (is_single_dot s) (is_double_dot s) before output) (step_of output s) (t ∷ rest)
