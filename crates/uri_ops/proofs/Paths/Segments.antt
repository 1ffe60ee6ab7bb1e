-- Dot segments over a list of segments, as a machine that goes over them once.
use Rattle.uri_ops.proofs.Common.{common_steps, arith, ◌≡◌, ℕ, Bool, true, false, cond, not, List, [], ◌∷◌, ◌++◌, refl, sym, ap, ◌∙◌, ◌||◌, append_assoc, bytes_eq, list_all, append-nil, list_all-append, cond-false, and_parts, and_from, or_parts, false≢true, not-true, not_from_false, bytes_eq-Decides, is_single_dot, is_double_dot, is_dot_segment}

-- all but the last
unfoldable pub pop : List (List ℕ) → List (List ℕ)
pop [] = []
pop (s ∷ []) = []
pop (s ∷ t ∷ rest) = s ∷ pop (t ∷ rest)

unfoldable pub is_none : List (List ℕ) → Bool
is_none [] = true
is_none (s ∷ rest) = false

-- what a segment leaves of the output, where it is a single dot, a double dot or neither
unfoldable pub next_output : Bool → Bool → List (List ℕ) → List ℕ → List (List ℕ)
next_output true double output s = output
next_output false true output s = pop output
next_output false false output s = output ++ s ∷ []

unfoldable pub step_of : List (List ℕ) → List ℕ → List (List ℕ)
step_of output s = next_output (is_single_dot s) (is_double_dot s) output s

unfoldable pub steps : List (List ℕ) → List (List ℕ) → List (List ℕ)
steps output [] = output
steps output (s ∷ rest) = steps (step_of output s) rest

-- removing dot segments: the empty segment that a dot segment at the end leaves, or none
abbrev pub end_of : Bool → List (List ℕ)
end_of dot = cond dot ([] ∷ []) []

unfoldable pub closing : List (List ℕ) → List (List ℕ)
closing [] = []
closing (s ∷ []) = end_of (is_dot_segment s)
closing (s ∷ t ∷ rest) = closing (t ∷ rest)

-- what is left of the segments
unfoldable pub dotless_of : List (List ℕ) → List (List ℕ)
dotless_of segs = steps [] segs ++ closing segs

-- what a directory keeps
unfoldable pub parent : List (List ℕ) → List (List ℕ)
parent [] = []
parent (s ∷ []) = cond (is_double_dot s) (s ∷ []) []
parent (s ∷ t ∷ rest) = s ∷ parent (t ∷ rest)

-- paths: each of the segments passes the test
abbrev pub AllPass : (List ℕ → Bool) → List (List ℕ) → Type 0
AllPass p segs = list_all p segs ≡ true

-- dot segments: the segment is none
abbrev pub is_dotless : List ℕ → Bool
is_dotless s = not (is_dot_segment s)

-- general fact on texts, for dot segments: two that pass the test of equality are equal
pub equal-bytes-are-equal : (a b : List ℕ) → bytes_eq a b ≡ true → a ≡ b
equal-bytes-are-equal a b e = (bytes_eq-Decides a b).0 e

pub single-dot-is-not-double : (s : List ℕ) → is_single_dot s ≡ true → is_double_dot s ≡ false
single-dot-is-not-double s e = grind (arith, common_steps, equal-bytes-are-equal)

-- dot segments: the steps over two lists of segments are those over the first, then over the second
steps-of-append : (output xs ys : List (List ℕ))
    → steps output (xs ++ ys) ≡ steps (steps output xs) ys
unfolding steps
steps-of-append output [] ys = refl
steps-of-append output (x ∷ xs) ys = steps-of-append (step_of output x) xs ys

-- dot segments: the empty segment that a last dot segment leaves is that of the second of two lists
pub closing-of-append : (xs : List (List ℕ)) (y : List ℕ) (ys : List (List ℕ))
    → closing (xs ++ y ∷ ys) ≡ closing (y ∷ ys)
unfolding closing
closing-of-append [] y ys = refl
closing-of-append (x ∷ []) y ys = refl
closing-of-append (x ∷ z ∷ xs) y ys = closing-of-append (z ∷ xs) y ys

-- dot segments: what is left of two lists is what the second leaves after the first
pub dotless_of-append : (xs : List (List ℕ)) (y : List ℕ) (ys : List (List ℕ))
    → dotless_of (xs ++ y ∷ ys) ≡ steps (steps [] xs) (y ∷ ys) ++ closing (y ∷ ys)
unfolding dotless_of
dotless_of-append xs y ys = ap (λ t. t ++ closing (xs ++ y ∷ ys)) (steps-of-append [] xs (y ∷ ys))
    ∙ ap (λ t. steps (steps [] xs) (y ∷ ys) ++ t) (closing-of-append xs y ys)

-- dot segments: what is left of segments and an empty last one
-- is what the steps leave, and an empty one
pub dotless_of-with-empty-last : (xs : List (List ℕ)) → dotless_of (xs ++ [] ∷ [])
    ≡ steps [] xs ++ [] ∷ []
unfolding steps step_of next_output closing
dotless_of-with-empty-last xs = dotless_of-append xs [] [] ∙ append-nil (steps [] xs ++ [] ∷ [])

-- general fact on lists of segments, for dot segments: `pop` undoes a push
pub pop-undoes-push : (xs : List (List ℕ)) (y : List ℕ) → pop (xs ++ y ∷ []) ≡ xs
unfolding pop
pop-undoes-push [] y = refl
pop-undoes-push (x ∷ []) y = refl
pop-undoes-push (x ∷ z ∷ xs) y = ap (λ t. x ∷ t) (pop-undoes-push (z ∷ xs) y)

-- general fact on lists of segments, for dot segments: all but the last pass a test that all pass
pub popped-segments-pass-test : (p : List ℕ → Bool) (xs : List (List ℕ)) → AllPass p xs
    → AllPass p (pop xs)
unfolding pop
popped-segments-pass-test p [] e = refl
popped-segments-pass-test p (s ∷ []) e = refl
popped-segments-pass-test p (s ∷ t ∷ rest) e = let f = and_parts (p s) (list_all p (t ∷ rest)) e in
    and_from _ _ f.0 (popped-segments-pass-test p (t ∷ rest) f.1)

-- general fact on lists of segments, for dot segments: two whose segments pass a test do so joined
pub appended-segments-pass-test : (p : List ℕ → Bool) (xs ys : List (List ℕ))
    → AllPass p xs → AllPass p ys → AllPass p (xs ++ ys)
appended-segments-pass-test p xs ys e f = list_all-append p xs ys ∙ and_from _ _ e f

-- dot segments: a test that the output's segments, and each that is kept, pass is passed after
-- segment s; single, double: whether it is `.`, or `..`
pub next_output-passes-test : (p : List ℕ
    → Bool) (single double : Bool) (output : List (List ℕ)) (s : List ℕ) → AllPass p output
    → ((single || double) ≡ false → p s ≡ true) → AllPass p (next_output single double output s)
unfolding next_output
next_output-passes-test p single double output s e f =
    grind (arith, common_steps, e, popped-segments-pass-test, appended-segments-pass-test, f)

-- dot segments: what is left passes a test p that the output,
-- and each kept segment (with q), passes
pub segments-after-steps-pass-test : (p q : List ℕ → Bool) → ((s : List ℕ)
    → q s ≡ true → is_dot_segment s ≡ false → p s ≡ true) → (output segs : List (List ℕ))
    → AllPass p output → AllPass q segs → AllPass p (steps output segs)
unfolding steps step_of
segments-after-steps-pass-test p q kept output [] e f = e
segments-after-steps-pass-test p q kept output (s ∷ rest) e f =
    let g = and_parts (q s) (list_all q rest) f in
    segments-after-steps-pass-test p q kept (step_of output s) rest
    (next_output-passes-test p (is_single_dot s) (is_double_dot s) output s e (kept s g.0)) g.1

-- dot segments: the empty segment that a last dot segment leaves
-- passes a test that the empty text passes
closing-segments-pass-test : (p : List ℕ → Bool) (segs : List (List ℕ)) → p [] ≡ true
    → AllPass p (closing segs)
unfolding closing
closing-segments-pass-test p [] e = refl
closing-segments-pass-test p (s ∷ []) e = grind (arith, common_steps)
closing-segments-pass-test p (s ∷ t ∷ rest) e = closing-segments-pass-test p (t ∷ rest) e

-- dot segments: what is left passes a test p that the empty segment,
-- and each kept one (with q), passes
pub dotless_of-pass-test : (p q : List ℕ → Bool)
    → ((s : List ℕ) → q s ≡ true → is_dot_segment s ≡ false → p s ≡ true) → p [] ≡ true
    → (segs : List (List ℕ)) → AllPass q segs → AllPass p (dotless_of segs)
unfolding dotless_of
dotless_of-pass-test p q kept e segs f =
    appended-segments-pass-test p (steps [] segs) (closing segs)
    (segments-after-steps-pass-test p q kept [] segs refl f) (closing-segments-pass-test p segs e)

-- dot segments: a segment that is none is kept after the output
step_of-dotless-appends-it : (output : List (List ℕ)) (s : List ℕ) → is_dotless s ≡ true
    → step_of output s ≡ output ++ s ∷ []
unfolding step_of next_output
step_of-dotless-appends-it output s e = grind arith

-- dot segments: segments of which none is one are all kept after the output
pub steps-of-dotless-append-all : (output xs : List (List ℕ))
    → AllPass is_dotless xs → steps output xs ≡ output ++ xs
unfolding steps
steps-of-dotless-append-all output [] e = sym (append-nil output)
steps-of-dotless-append-all output (s ∷ rest) e =
    let f = and_parts (is_dotless s) (list_all is_dotless rest) e in
    ap (λ o. steps o rest) (step_of-dotless-appends-it output s f.0)
    ∙ steps-of-dotless-append-all (output ++ s ∷ []) rest f.1 ∙ append_assoc output (s ∷ []) rest

-- dot segments: segments of which none is one leave no empty segment at the end
closing-of-dotless-is-empty : (xs : List (List ℕ)) → AllPass is_dotless xs → closing xs ≡ []
unfolding closing
closing-of-dotless-is-empty [] e = refl
closing-of-dotless-is-empty (s ∷ []) e = cond-false (is_dot_segment s) ([] ∷ []) []
    (not-true _ (and_parts (is_dotless s) true e).0)
closing-of-dotless-is-empty (s ∷ t ∷ rest) e = closing-of-dotless-is-empty
    (t ∷ rest) (and_parts (is_dotless s) (list_all is_dotless (t ∷ rest)) e).1

-- dot segments: segments of which none is one are left as they are
pub dotless_of-of-dotless : (xs : List (List ℕ)) → AllPass is_dotless xs → dotless_of xs ≡ xs
unfolding dotless_of
dotless_of-of-dotless xs e = ap (λ t. t ++ closing xs) (steps-of-dotless-append-all [] xs e)
    ∙ ap (λ t. xs ++ t) (closing-of-dotless-is-empty xs e) ∙ append-nil xs

-- general fact on lists of segments, for dot segments: each passes the test that all pass
pub segments-pass-true-test : (xs : List (List ℕ)) → AllPass (λ s. true) xs
segments-pass-true-test [] = refl
segments-pass-true-test (s ∷ rest) = segments-pass-true-test rest

kept-segment-is-dotless : (s : List ℕ) → true ≡ true → is_dot_segment s ≡ false
    → is_dotless s ≡ true
kept-segment-is-dotless s e f = not_from_false _ f

-- dot segments: the steps leave none
pub steps_are_dotless : (segs : List (List ℕ)) → AllPass is_dotless (steps [] segs)
steps_are_dotless segs = segments-after-steps-pass-test is_dotless
    (λ s. true) kept-segment-is-dotless [] segs refl (segments-pass-true-test segs)

-- dot segments: what is left of segments has none
pub dotless_of-is-dotless : (segs : List (List ℕ)) → AllPass is_dotless (dotless_of segs)
dotless_of-is-dotless segs = dotless_of-pass-test is_dotless
    (λ s. true) kept-segment-is-dotless refl segs (segments-pass-true-test segs)

-- dot segments: those of the first of two lists may be removed first
pub dotless_of-prefix-first : (xs ys : List (List ℕ)) → is_none ys ≡ false
    → dotless_of (xs ++ ys) ≡ dotless_of (steps [] xs ++ ys)
unfolding is_none
dotless_of-prefix-first xs ys e =
    grind (arith, common_steps, dotless_of-append, steps-of-dotless-append-all, steps_are_dotless)

-- removing dot segments: the steps over a last segment if it is `..` are a step, and else nothing
steps-of-segment-if-double-dot : (b : Bool) (output : List (List ℕ)) (s : List ℕ)
    → steps output (cond b (s ∷ []) []) ≡ cond b (step_of output s) output
unfolding steps
steps-of-segment-if-double-dot b output s = grind (arith, common_steps)

-- dot segments: after `..` the output is what is left with its end, without the last;
-- single, double: whether it is `.`, or `..`
next_output-of-double-dot-is-popped : (single double : Bool) (output : List (List ℕ)) (s : List ℕ)
    → (single ≡ true → double ≡ false) → cond double (next_output single double output s) output
    ≡ pop (next_output single double output s ++ end_of (single || double))
unfolding next_output
next_output-of-double-dot-is-popped single double output s only =
    grind (arith, common_steps, only, pop-undoes-push, append-nil)

-- dot segments: the steps over all segments but the last leave what all leave, without the last
steps-of-parent-are-popped-steps : (output : List (List ℕ)) (s : List ℕ) (rest : List (List ℕ))
    → steps output (parent (s ∷ rest)) ≡ pop (steps output (s ∷ rest) ++ closing (s ∷ rest))
unfolding steps parent closing step_of
steps-of-parent-are-popped-steps output s [] =
    steps-of-segment-if-double-dot (is_double_dot s) output s ∙ next_output-of-double-dot-is-popped
    (is_single_dot s) (is_double_dot s) output s (single-dot-is-not-double s)
steps-of-parent-are-popped-steps output s (t ∷ rest) = steps-of-parent-are-popped-steps
    (step_of output s) t rest

-- paths: the directory of segments that are no dot segments is all but the last
pub parent-of-dotless-is-pop : (segs : List (List ℕ)) → AllPass is_dotless segs
    → parent segs ≡ pop segs
unfolding parent pop
parent-of-dotless-is-pop [] e = refl
parent-of-dotless-is-pop (s ∷ []) e = cond-false (is_double_dot s) (s ∷ []) [] (or_parts
    (is_single_dot s) (is_double_dot s) (not-true _ (and_parts (is_dotless s) true e).0)).1
parent-of-dotless-is-pop (s ∷ t ∷ rest) e = ap (λ r. s ∷ r) (parent-of-dotless-is-pop (t ∷ rest)
    (and_parts (is_dotless s) (list_all is_dotless (t ∷ rest)) e).1)

-- paths: dot segments may be removed from a directory or from its path
pub dotless_of-of-directory : (s : List ℕ) (rest : List (List ℕ))
    → dotless_of (parent (s ∷ rest) ++ [] ∷ []) ≡ parent (dotless_of (s ∷ rest)) ++ [] ∷ []
unfolding dotless_of
dotless_of-of-directory s rest = dotless_of-with-empty-last (parent (s ∷ rest))
    ∙ ap (λ t. t ++ [] ∷ []) (steps-of-parent-are-popped-steps [] s rest
    ∙ sym (parent-of-dotless-is-pop (dotless_of (s ∷ rest)) (dotless_of-is-dotless (s ∷ rest))))

-- general fact on lists of segments, for dot segments: one with a last is not empty
pub pushed-segments-are-not-none : (xs : List (List ℕ)) (y : List ℕ) → is_none (xs ++ y ∷ [])
    ≡ false
unfolding is_none
pushed-segments-are-not-none xs y = grind (arith, common_steps)

-- dot segments: at the end one leaves a segment, an empty one; single, double:
-- whether it is `.`, or `..`
dot-segment-leaves-some-segment : (single double : Bool) (output : List (List ℕ)) (s : List ℕ)
    → is_none (next_output single double output s ++ end_of (single || double)) ≡ false
unfolding next_output
dot-segment-leaves-some-segment single double output s =
    grind (arith, common_steps, pushed-segments-are-not-none, append-nil)

-- dot segments: some segments leave one at least, with the empty one at the end
steps-leave-some-segment : (output segs : List (List ℕ)) → is_none segs ≡ false
    → is_none (steps output segs ++ closing segs) ≡ false
unfolding steps step_of closing is_none
steps-leave-some-segment output [] e = absurd (false≢true (sym e))
steps-leave-some-segment output (s ∷ []) e = dot-segment-leaves-some-segment (is_single_dot s)
    (is_double_dot s) output s
steps-leave-some-segment output (s ∷ t ∷ rest) e = steps-leave-some-segment (step_of output s)
    (t ∷ rest) e

-- dot segments: of some segments one is left at least
pub dotless_of-is-not-empty : (segs : List (List ℕ)) → is_none segs ≡ false
    → is_none (dotless_of segs) ≡ false
unfolding dotless_of
dotless_of-is-not-empty segs e = steps-leave-some-segment [] segs e
