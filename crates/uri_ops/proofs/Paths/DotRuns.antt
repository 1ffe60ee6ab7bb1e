-- Removing dot segments ends with an empty input: each step consumes some of it.
use Rattle.uri_ops.proofs.Common.{◌≡◌, ℕ, zero, suc, ◌+◌, ◌<◌, ◌≤◌, true, false, not, List, [], length, take, drop, ap, ◌∙◌, arith, ⊎_elim, codes, prefix_len, cases_Bool, cond-true, cond-false, cond_both, length-drop, length-take, nil_from_length, is_one_of, before_any, from_any, Buffers, is_empty, is_single_dot, is_double_dot, or_slash, step, run, buffers_after_removal, common_steps}

-- dot segments: `.` has bytes
pub single-dot-is-not-empty : (segment : List ℕ) → is_single_dot segment ≡ true → 0 < length segment
single-dot-is-not-empty segment e = grind (arith, common_steps)

-- dot segments: `..` has bytes
double-dot-is-not-empty : (segment : List ℕ) → is_double_dot segment ≡ true → 0 < length segment
double-dot-is-not-empty segment e = grind (arith, common_steps)

or_slash-of-shorter-is-shorter : (rest : List ℕ) (n : ℕ) → length rest < n → 1 < n
    → length (or_slash rest) < n
or_slash-of-shorter-is-shorter rest n h one = grind (arith, common_steps, one)

-- general fact on texts, for removing dot segments: one that is not empty has a length above 0
pub not-empty-has-length : (text : List ℕ) → is_empty text ≡ false → 0 < length text
not-empty-has-length text e = grind (arith, common_steps)

-- general fact on texts, for removing dot segments: one that is empty is the empty list
pub empty-text-is-nil : (text : List ℕ) → is_empty text ≡ true → text ≡ []
empty-text-is-nil text e = grind (arith, common_steps)

-- removing dot segments: without its first byte, a text is shorter, also if n more are taken away
drop-after-first-byte-is-shorter : (n : ℕ) (input : List ℕ) → 0 < length input
    → length (drop n (drop 1 input)) < length input
drop-after-first-byte-is-shorter n input some = omega
    (arith, length-drop n (drop 1 input), length-drop 1 input)

segment-with-bytes-has-longer-input : (n : ℕ) (input : List ℕ) → 0 < length (take n (drop 1 input))
    → 1 < length input
segment-with-bytes-has-longer-input n input some = omega
    (arith, length-take n (drop 1 input), length-drop 1 input)

-- removing dot segments: each step of the loop of RFC 3986, section 5.2.4, shortens its input
step-shortens-input : (b : Buffers) → is_empty b.input ≡ false
    → length (step b).input < length b.input
step-shortens-input b e =
    let some = not-empty-has-length b.input e in
    let segment = before_any (codes "/") (drop 1 b.input) in
    let rest = from_any (codes "/") (drop 1 b.input) in
    let n = prefix_len (λ c. not (is_one_of (codes "/") c)) (drop 1 b.input) in
    let left : length rest < length b.input = drop-after-first-byte-is-shorter n b.input some in
    cond_both (is_single_dot segment) _ _ (λ (x : Buffers). length x.input < length b.input)
    (λ h. or_slash-of-shorter-is-shorter rest (length b.input) left
    (segment-with-bytes-has-longer-input n b.input (single-dot-is-not-empty segment h)))
    (λ _. cond_both (is_double_dot segment) _ _ (λ (x : Buffers). length x.input < length b.input)
    (λ h. or_slash-of-shorter-is-shorter rest (length b.input) left
    (segment-with-bytes-has-longer-input n b.input (double-dot-is-not-empty segment h)))
    (λ _. left))

-- removing dot segments: as many steps as the input has bytes empty it; b: input and output
enough-steps-empty-input : (n : ℕ) (b : Buffers) → length b.input ≤ n → (run n b).input ≡ []
unfolding run
enough-steps-empty-input zero b h = nil_from_length b.input (omega arith)
enough-steps-empty-input (suc n) b h = ⊎_elim
    (λ e. ap (λ (x : Buffers). x.input) (cond-true _ _ _ e) ∙ empty-text-is-nil b.input e)
    (λ e. ap (λ (x : Buffers). x.input) (cond-false _ _ _ e)
    ∙ (let less = step-shortens-input b e in enough-steps-empty-input n (step b) (omega arith)))
    (cases_Bool (is_empty b.input))

-- removing dot segments: at the end of the loop of RFC 3986, section 5.2.4,
-- nothing is left in the input buffer
pub removal-loop-empties-its-input : (path : List ℕ) → (buffers_after_removal path).input ≡ []
removal-loop-empties-its-input path = enough-steps-empty-input (length path + 1)
    (record { input = path; output = []; underflowed = false }) (omega arith)
