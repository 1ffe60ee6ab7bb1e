-- A path that begins with `/` as its segments: what is done to the text is done to them.
use Rattle.uri_ops.proofs.Common.{common_steps, ◌≡◌, ℕ, zero, suc, ◌+◌, ◌≤◌, Bool, true, false, cond, eqb, not, List, [], ◌∷◌, ◌++◌, length, take, drop, refl, sym, ap, ◌∙◌, arith, ◌||◌, append_assoc, codes, list_all, prefix_len, onto_first, append-nil, length-append, list_any-append, cond-true, cond-false, and_parts, and_from, or_parts, or_right, not_from_false, nat_tests, is_one_of, before_any, from_any, is_single_dot, is_double_dot, is_dot_segment, segments, is_empty, has_slash, before_last_slash, last_segment, Buffers, or_slash, step, run, remove_dot_segments, underflows, directory}
use Rattle.uri_ops.proofs.Paths.Segments.{pop, is_none, next_output, step_of, steps, end_of, closing, dotless_of, parent, AllPass, next_output-passes-test}
use Rattle.uri_ops.proofs.Paths.Underflows.{underflows_at, underflows_over}

-- each segment after a `/`
unfoldable pub slashed : List (List ℕ) → List ℕ
slashed [] = []
slashed (s ∷ rest) = 47 ∷ s ++ slashed rest

abbrev pub lacks_slash : List ℕ → Bool
lacks_slash s = not (has_slash s)

abbrev pub NoSlashes : List (List ℕ) → Type 0
NoSlashes segs = AllPass lacks_slash segs

pub first-segment-and-rest-lack-slashes : (s : List ℕ) (rest : List (List ℕ)) → NoSlashes (s ∷ rest)
    → (has_slash s ≡ false) × NoSlashes rest
first-segment-and-rest-lack-slashes s rest e = grind arith

pub slashed-of-append : (xs ys : List (List ℕ)) → slashed (xs ++ ys) ≡ slashed xs ++ slashed ys
unfolding slashed
slashed-of-append [] ys = refl
slashed-of-append (x ∷ xs) ys = ap (λ t. 47 ∷ t)
    (ap (λ t. x ++ t) (slashed-of-append xs ys) ∙ sym (append_assoc x (slashed xs) (slashed ys)))

pub slashed-of-push : (xs : List (List ℕ)) (s : List ℕ) → slashed (xs ++ s ∷ [])
    ≡ slashed xs ++ 47 ∷ s
unfolding slashed
slashed-of-push xs s = slashed-of-append xs (s ∷ []) ∙ ap (λ t. slashed xs ++ 47 ∷ t) (append-nil s)

pub is_one_of-slash-is-equality : (c : ℕ) → is_one_of (codes "/") c ≡ eqb c 47
is_one_of-slash-is-equality c = grind (arith, nat_tests)

text-splits-before-next-slash : (s : List ℕ) (rest : List (List ℕ)) → has_slash s ≡ false
    → (before_any (codes "/") (s ++ slashed rest) ≡ s)
    × (from_any (codes "/") (s ++ slashed rest) ≡ slashed rest)
unfolding slashed
text-splits-before-next-slash [] [] e = (refl, refl)
text-splits-before-next-slash [] (t ∷ rest) e = (refl, refl)
text-splits-before-next-slash (c ∷ s) rest e =
    let p = or_parts (eqb c 47) (has_slash s) e in
    let ih = text-splits-before-next-slash s rest p.1 in
    let m : prefix_len (λ c. not (is_one_of (codes "/") c)) ((c ∷ s) ++ slashed rest)
    ≡ suc (prefix_len (λ c. not (is_one_of (codes "/") c)) (s ++ slashed rest)) =
    cond-true _ _ _ (not_from_false _ (is_one_of-slash-is-equality c ∙ p.0)) ∙ omega arith in (
      ap (λ n. take n ((c ∷ s) ++ slashed rest)) m ∙ ap (λ t. c ∷ t) ih.0,
      ap (λ n. drop n ((c ∷ s) ++ slashed rest)) m ∙ ih.1,
    )

-- paths: a `/` in the second of two texts is in both, joined
pub slash-in-suffix-is-in-append : (s t : List ℕ) → has_slash t ≡ true → has_slash (s ++ t) ≡ true
slash-in-suffix-is-in-append s t e = list_any-append (λ c. eqb c 47) s t ∙ or_right _ _ e

pub before_last_slash-of-append : (s t : List ℕ) → has_slash t ≡ true
    → before_last_slash (s ++ t) ≡ s ++ before_last_slash t
before_last_slash-of-append [] t e = refl
before_last_slash-of-append (c ∷ s) t e = cond-true _ _ _ (slash-in-suffix-is-in-append s t e)
    ∙ ap (λ r. c ∷ r) (before_last_slash-of-append s t e)

-- paths: cutting a path before its last `/` removes its last segment
pub before_last_slash-of-slashed-is-popped : (xs : List (List ℕ)) → NoSlashes xs
    → before_last_slash (slashed xs) ≡ slashed (pop xs)
unfolding slashed pop
before_last_slash-of-slashed-is-popped [] e = refl
before_last_slash-of-slashed-is-popped (s ∷ []) e = ap before_last_slash (ap (λ t. 47 ∷ t)
    (append-nil s)) ∙ cond-false _ _ _ (first-segment-and-rest-lack-slashes s [] e).0
before_last_slash-of-slashed-is-popped (s ∷ t ∷ rest) e = before_last_slash-of-append (47 ∷ s)
    (slashed (t ∷ rest)) refl
    ∙ ap (λ r. 47 ∷ s ++ r) (before_last_slash-of-slashed-is-popped (t ∷ rest)
    (first-segment-and-rest-lack-slashes s (t ∷ rest) e).1)

pub slashed-is-empty-if-no-segments : (xs : List (List ℕ)) → is_empty (slashed xs) ≡ is_none xs
unfolding slashed is_none
slashed-is-empty-if-no-segments xs = grind (arith, common_steps)

-- removing dot segments: the two buffers of section 5.2.4, and whether there was an underflow
abbrev buffers : List ℕ → List ℕ → Bool → Buffers
buffers input output underflowed =
    record { input = input; output = output; underflowed = underflowed }

-- removing dot segments: what follows a segment, or the empty one that a last dot leaves
abbrev or_empty_segment : Bool → List (List ℕ) → List (List ℕ)
or_empty_segment dot [] = end_of dot
or_empty_segment dot (t ∷ rest) = t ∷ rest

-- removing dot segments: after a dot segment an empty segment is left, if there is no other
or_slash-of-slashed-segments : (rest : List (List ℕ)) → or_slash (slashed rest)
    ≡ slashed (or_empty_segment true rest)
unfolding slashed
or_slash-of-slashed-segments rest = grind (arith, common_steps)

-- removing dot segments: what is left after another segment is as it is
no-dot-leaves-segments-as-they-are : (rest : List (List ℕ)) → rest ≡ or_empty_segment false rest
no-dot-leaves-segments-as-they-are rest = grind (arith, common_steps)

buffers-after-one-segment : (single double : Bool) (s : List ℕ) (rest output : List
    (List ℕ)) (before : Bool) → NoSlashes output
    → cond single (buffers (or_slash (slashed rest)) (slashed output) before) (cond double
    (buffers (or_slash (slashed rest)) (before_last_slash (slashed output)) (before
    || is_empty (slashed output))) (buffers (slashed rest) (slashed output ++ 47 ∷ s) before))
    ≡ buffers (slashed (or_empty_segment (single || double) rest))
    (slashed (next_output single double output s)) (underflows_at single double before output)
unfolding next_output underflows_at
buffers-after-one-segment single double s rest output before e =
    grind (
      arith,
      common_steps,
      or_slash-of-slashed-segments,
      before_last_slash-of-slashed-is-popped,
      slashed-is-empty-if-no-segments,
      no-dot-leaves-segments-as-they-are,
      slashed-of-push,
    )

-- removing dot segments: a step of RFC 3986, section 5.2.4, takes one segment from the input
step-takes-one-segment : (s : List ℕ) (rest output : List (List ℕ)) (before : Bool) → has_slash s
    ≡ false → NoSlashes output → step (buffers (slashed (s ∷ rest)) (slashed output) before)
    ≡ buffers (slashed (or_empty_segment (is_dot_segment s) rest))
    (slashed (step_of output s)) (underflows_at (is_single_dot s) (is_double_dot s) before output)
unfolding slashed step_of
step-takes-one-segment s rest output before e f =
    grind (arith, text-splits-before-next-slash, buffers-after-one-segment)

-- removing dot segments: with an empty input, n more steps change nothing
run-of-empty-input-is-done : (n : ℕ) (output : List ℕ) (before : Bool)
    → run n (buffers [] output before) ≡ buffers [] output before
unfolding run
run-of-empty-input-is-done n output before = grind (arith, common_steps)

-- removing dot segments: the `/` that a dot segment at the end leaves becomes an empty segment
run-of-closing-slash-appends-it : (n : ℕ) (dot : Bool) (output : List (List ℕ)) (before : Bool)
    → length (end_of dot) ≤ n → run n (buffers (slashed (end_of dot)) (slashed output) before)
    ≡ buffers [] (slashed (output ++ end_of dot)) before
unfolding run slashed
run-of-closing-slash-appends-it n dot output before h =
    grind (arith, common_steps, run-of-empty-input-is-done, append-nil, slashed-of-push)

-- removing dot segments: enough steps of section 5.2.4 take all segments from the input
run-takes-all-segments : (n : ℕ) (segs output : List (List ℕ)) (before : Bool) → NoSlashes segs
    → NoSlashes output → length segs + length (closing segs) ≤ n →
    run n (buffers (slashed segs) (slashed output) before)
    ≡ buffers [] (slashed (steps output segs ++ closing segs)) (underflows_over before output segs)
unfolding run slashed steps closing underflows_over step_of
run-takes-all-segments n [] output before e f h = run-of-empty-input-is-done n
    (slashed output) before ∙ ap (λ o. buffers [] (slashed o) before) (sym (append-nil output))
run-takes-all-segments zero (s ∷ rest) output before e f h = absurd (omega arith)
run-takes-all-segments (suc n) (s ∷ []) output before e f h =
    let g = first-segment-and-rest-lack-slashes s [] e in
    ap (run n) (step-takes-one-segment s [] output before g.0 f)
    ∙ run-of-closing-slash-appends-it n (is_dot_segment s) (step_of output s)
    (underflows_at (is_single_dot s) (is_double_dot s) before output) (omega arith)
run-takes-all-segments (suc n) (s ∷ t ∷ rest) output before e f h =
    let g = first-segment-and-rest-lack-slashes s (t ∷ rest) e in
    ap (run n) (step-takes-one-segment s (t ∷ rest) output before g.0 f)
    ∙ run-takes-all-segments n (t ∷ rest) (step_of output s) (underflows_at (is_single_dot s)
    (is_double_dot s) before output) g.1 (next_output-passes-test lacks_slash
    (is_single_dot s) (is_double_dot s) output s f (λ d. not_from_false _ g.0)) (omega arith)

-- removing dot segments: a last dot segment leaves one empty segment at most
closing-has-at-most-one-segment : (segs : List (List ℕ)) → length (closing segs) ≤ 1
unfolding closing
closing-has-at-most-one-segment [] = omega arith
closing-has-at-most-one-segment (s ∷ []) = grind (arith, common_steps)
closing-has-at-most-one-segment (s ∷ t ∷ rest) = closing-has-at-most-one-segment (t ∷ rest)

slashed-is-no-shorter-than-segments : (segs : List (List ℕ)) → length segs ≤ length (slashed segs)
unfolding slashed
slashed-is-no-shorter-than-segments [] = omega arith
slashed-is-no-shorter-than-segments (s ∷ rest) = omega
    (arith, slashed-is-no-shorter-than-segments rest, length-append s (slashed rest))

-- removing dot segments: the loop of section 5.2.4 leaves what is left of the segments
run-of-path-leaves-dotless_of-segments : (segs : List (List ℕ)) → NoSlashes segs
    → run (length (slashed segs) + 1) (buffers (slashed segs) [] false)
    ≡ buffers [] (slashed (dotless_of segs)) (underflows_over false [] segs)
unfolding slashed dotless_of
run-of-path-leaves-dotless_of-segments segs e = run-takes-all-segments (length (slashed segs) + 1)
    segs [] false e refl
    (omega (arith, slashed-is-no-shorter-than-segments segs, closing-has-at-most-one-segment segs))

-- removing dot segments: of a path, it is removing them of the list of its segments
pub remove-dots-by-segments : (segs : List (List ℕ)) → NoSlashes segs
    → remove_dot_segments (slashed segs) ≡ slashed (dotless_of segs)
unfolding remove_dot_segments
remove-dots-by-segments segs e = ap (λ b. b.output) (run-of-path-leaves-dotless_of-segments segs e)

-- dot segments: a path underflows exactly if the list of its segments does, from an empty output
pub underflows-by-segments : (segs : List (List ℕ)) → NoSlashes segs
    → underflows (slashed segs) ≡ underflows_over false [] segs
unfolding underflows
underflows-by-segments segs e = ap (λ b. b.underflowed)
    (run-of-path-leaves-dotless_of-segments segs e)

-- paths: the last segment of two texts is that of the second, if it has a `/`
pub last_segment-of-append : (s t : List ℕ) → has_slash t ≡ true → last_segment (s ++ t)
    ≡ last_segment t
last_segment-of-append [] t e = refl
last_segment-of-append (c ∷ s) t e = cond-true _ _ _ (slash-in-suffix-is-in-append s t e)
    ∙ last_segment-of-append s t e

common-prefix-leaves-cond : (b : Bool) (s x y : List ℕ) → cond b (s ++ x) (s ++ y) ≡ s ++ cond b x y
common-prefix-leaves-cond b s x y = grind (arith, common_steps)

-- paths: a last `..`, kept in the directory, and a `/` after it, as text and as segments
slashed-of-segment-if-double-dot : (b : Bool) (s : List ℕ)
    → cond b (slashed (s ∷ []) ++ 47 ∷ []) (47 ∷ []) ≡ slashed (cond b (s ∷ []) []) ++ 47 ∷ []
unfolding slashed
slashed-of-segment-if-double-dot b s = grind (arith, common_steps)

-- paths: the directory (5.2.3), by the last segment, the path, and what is before its last `/`
directory_text_of : List ℕ → List ℕ → List ℕ → List ℕ
directory_text_of segment whole prefix = cond (is_double_dot segment) (whole ++ 47 ∷ [])
    (prefix ++ 47 ∷ [])

directory-text-of-slashed-segments : (s : List ℕ) (rest : List (List ℕ))
    → NoSlashes (s ∷ rest) → directory_text_of (last_segment (slashed (s ∷ rest))) (slashed (s
    ∷ rest)) (slashed (pop (s ∷ rest))) ≡ slashed (parent (s ∷ rest)) ++ 47 ∷ []
unfolding slashed parent pop directory_text_of
directory-text-of-slashed-segments s [] e =
    grind (
      arith,
      common_steps,
      first-segment-and-rest-lack-slashes,
      slashed-of-segment-if-double-dot,
    )
directory-text-of-slashed-segments s (t ∷ rest) e =
    let T = slashed (t ∷ rest) in
    let U = slashed (pop (t ∷ rest)) in
    ap (λ segment. directory_text_of segment ((47 ∷ s) ++ T) ((47 ∷ s) ++ U))
    (last_segment-of-append (47 ∷ s) T refl) ∙ ap (λ x. cond (is_double_dot (last_segment T)) x
    (((47 ∷ s) ++ U) ++ 47 ∷ [])) (append_assoc (47 ∷ s) T (47 ∷ []))
    ∙ ap (λ x. cond (is_double_dot (last_segment T)) ((47 ∷ s) ++ (T ++ 47 ∷ [])) x) (append_assoc
    (47 ∷ s) U (47 ∷ [])) ∙ common-prefix-leaves-cond (is_double_dot (last_segment T)) (47 ∷ s) (T
    ++ 47 ∷ []) (U ++ 47 ∷ []) ∙ ap (λ x. (47 ∷ s) ++ x) (directory-text-of-slashed-segments t rest
    (first-segment-and-rest-lack-slashes s (t ∷ rest) e).1)
    ∙ sym (append_assoc (47 ∷ s) (slashed (parent (t ∷ rest))) (47 ∷ []))

-- paths: the directory of a path is all its segments but the last, and an empty one (5.2.3)
pub directory-by-segments : (s : List ℕ) (rest : List (List ℕ)) → NoSlashes (s ∷ rest)
    → directory (slashed (s ∷ rest)) ≡ slashed (parent (s ∷ rest) ++ [] ∷ [])
unfolding directory slashed directory_text_of
directory-by-segments s rest e = ap (λ prefix. directory_text_of (last_segment (slashed (s ∷ rest)))
    (slashed (s ∷ rest)) prefix) (before_last_slash-of-slashed-is-popped (s ∷ rest) e)
    ∙ directory-text-of-slashed-segments s rest e ∙ sym (slashed-of-push (parent (s ∷ rest)) [])

-- paths: what holds of each segment holds of each but the last
pub parent-segments-pass-test : (p : List ℕ → Bool) (segs : List (List ℕ)) → AllPass p segs
    → AllPass p (parent segs)
unfolding parent
parent-segments-pass-test p [] e = refl
parent-segments-pass-test p (s ∷ []) e = grind (arith, common_steps, e)
parent-segments-pass-test p (s ∷ t ∷ rest) e = let f = and_parts (p s) (list_all p (t ∷ rest)) e in
    and_from _ _ f.0 (parent-segments-pass-test p (t ∷ rest) f.1)

equal-lists-after-slash-have-equal-tails : (xs ys : List ℕ) → 47 ∷ xs ≡ 47 ∷ ys → xs ≡ ys
equal-lists-after-slash-have-equal-tails xs ys e = cc

-- paths: a character c put before the first segment is after the first `/` of the text
slashed-of-onto_first : (c : ℕ) (parts : List (List ℕ)) (text : List ℕ) → slashed parts ≡ 47 ∷ text
    → slashed (onto_first c parts) ≡ 47 ∷ c ∷ text
unfolding slashed
slashed-of-onto_first c parts text e =
    grind (arith, common_steps, equal-lists-after-slash-have-equal-tails)

-- paths: the segments of a text, each after a `/` (47), are `/` and the text
pub slashed-of-segments-is-text-after-slash : (text : List ℕ) → slashed (segments text) ≡ 47 ∷ text
unfolding slashed
slashed-of-segments-is-text-after-slash [] = refl
slashed-of-segments-is-text-after-slash (c ∷ text) =
    grind (
      arith,
      slashed-of-onto_first,
      slashed-of-segments-is-text-after-slash text,
      slashed-of-segments-is-text-after-slash text,
    )

pub segments-of-text-lack-slashes : (text : List ℕ) → NoSlashes (segments text)
segments-of-text-lack-slashes [] = refl
segments-of-text-lack-slashes (c ∷ text) = grind (arith, segments-of-text-lack-slashes text)

onto_first-is-not-none : (c : ℕ) (parts : List (List ℕ)) → is_none (onto_first c parts) ≡ false
unfolding is_none
onto_first-is-not-none c parts = grind (arith, common_steps)

pub segments-of-text-are-not-none : (text : List ℕ) → is_none (segments text) ≡ false
unfolding is_none
segments-of-text-are-not-none [] = refl
segments-of-text-are-not-none (c ∷ text) = grind (arith, is_none, onto_first-is-not-none)

-- paths: a first segment, and others each after a `/`, has these segments
pub segments-of-joined-segments : (s : List ℕ) (rest : List (List ℕ)) → NoSlashes (s ∷ rest)
    → segments (s ++ slashed rest) ≡ s ∷ rest
unfolding slashed
segments-of-joined-segments [] [] e = refl
segments-of-joined-segments [] (t ∷ rest) e = ap (λ r. [] ∷ r)
    (segments-of-joined-segments t rest e)
segments-of-joined-segments (c ∷ s) rest e =
    let g = first-segment-and-rest-lack-slashes (c ∷ s) rest e in
    let p = or_parts (eqb c 47) (has_slash s) g.0 in
    cond-false _ _ _ p.0 ∙ ap (onto_first c) (segments-of-joined-segments s rest
    (and_from _ _ (not_from_false _ p.1) g.1))

-- paths: an absolute path has an empty segment before its first `/`
pub segments-of-slashed-segments : (segs : List (List ℕ)) → NoSlashes segs → segments (slashed segs)
    ≡ [] ∷ segs
unfolding slashed
segments-of-slashed-segments [] e = refl
segments-of-slashed-segments (s ∷ rest) e = ap (λ r. [] ∷ r) (segments-of-joined-segments s rest e)
