-- The loop of section 5.2.4: each pass shortens the input buffer, so that the loop empties it.
use Rattle.uri_basic.proofs.Common.{◌≡◌, ℕ, zero, suc, ◌<◌, ◌≤◌, true, false, not, List, [], rules, ◌++◌, length, drop, refl, sym, ap, ◌∙◌, arith, ⊎_elim, ◌==◌, codes, bytes_eq, cases_Bool, cond-true, cond-false, cond_both, not_from_false, length-drop, length-take, nil_from_length, bytes_eq-Decides, is_one_of, is_empty, Buffers, after_first_segment, has_prefix, output_of, run, step}
use Rattle.std.proofs.lemmas.Bool.Decides.{nat_tests}
use Rattle.uri_ops.proofs.Offered.{not-empty-has-length}

-- removing dot segments: two texts that pass the test of equality have equal lengths
equal-bytes-have-equal-lengths : (a b : List ℕ) → bytes_eq a b ≡ true → length a ≡ length b
equal-bytes-have-equal-lengths a b e = ap length ((bytes_eq-Decides a b).0 e)

prefix-is-no-longer : (prefix buffer : List ℕ) → has_prefix prefix buffer ≡ true
    → length prefix ≤ length buffer
prefix-is-no-longer prefix buffer e = search (rules, equal-bytes-have-equal-lengths, length-take)

-- paths: a byte that is not `/` (47) ends no segment
pub other-byte-ends-no-segment : (c : ℕ) → (c == 47) ≡ false → not (is_one_of (codes "/") c) ≡ true
other-byte-ends-no-segment c e = grind (arith, not_from_false, nat_tests)

buffer-after-first-segment-is-shorter : (buffer : List ℕ) → is_empty buffer ≡ false
    → length (after_first_segment buffer) < length buffer
buffer-after-first-segment-is-shorter buffer e = grind (arith, length-drop)

replaced-prefix-shortens : (n : ℕ) (buffer : List ℕ) → 1 < n → n ≤ length buffer
    → length (codes "/" ++ drop n buffer) < length buffer
replaced-prefix-shortens n buffer more within = omega (arith, more, within, length-drop n buffer)

step-shortens-input : (b : Buffers) → is_empty b.input ≡ false
    → length (step b).input < length b.input
step-shortens-input b e =
    let some = not-empty-has-length b.input e in
    let Q : Buffers → Type 0 = λ x. length x.input < length b.input in
    cond_both (has_prefix (codes "../") b.input) _ _ Q
    (λ _. omega (arith, some, length-drop 3 b.input))
    (λ _. cond_both (has_prefix (codes "./") b.input) _ _ Q
    (λ _. omega (arith, some, length-drop 2 b.input))
    (λ _. cond_both (has_prefix (codes "/./") b.input) _ _ Q
    (λ h. replaced-prefix-shortens 3 b.input (omega arith)
    (prefix-is-no-longer (codes "/./") b.input h))
    (λ _. cond_both (bytes_eq b.input (codes "/.")) _ _ Q
    (λ h. omega (arith, equal-bytes-have-equal-lengths b.input (codes "/.") h))
    (λ _. cond_both (has_prefix (codes "/../") b.input) _ _ Q
    (λ h. replaced-prefix-shortens 4 b.input (omega arith)
    (prefix-is-no-longer (codes "/../") b.input h))
    (λ _. cond_both (bytes_eq b.input (codes "/..")) _ _ Q
    (λ h. omega (arith, equal-bytes-have-equal-lengths b.input (codes "/..") h))
    (search (rules, cond_both, buffer-after-first-segment-is-shorter)))))))

more-passes-change-nothing : (n m : ℕ) (b : Buffers) → length b.input ≤ n → length b.input ≤ m
    → run n b ≡ run m b
unfolding run
more-passes-change-nothing zero zero b h k = refl
more-passes-change-nothing zero (suc m) b h k = sym (cond-true (is_empty b.input) b (run m (step b))
    (ap is_empty (nil_from_length b.input (omega arith))))
more-passes-change-nothing (suc n) zero b h k = cond-true (is_empty b.input) b (run n (step b))
    (ap is_empty (nil_from_length b.input (omega arith)))
more-passes-change-nothing (suc n) (suc m) b h k = ⊎_elim
    (λ e. cond-true (is_empty b.input) b (run n (step b)) e
    ∙ sym (cond-true (is_empty b.input) b (run m (step b)) e))
    (λ e. cond-false (is_empty b.input) b (run n (step b)) e
    ∙ (let less = step-shortens-input b e in
    more-passes-change-nothing n m (step b) (omega arith) (omega arith))
    ∙ sym (cond-false (is_empty b.input) b (run m (step b)) e))
    (cases_Bool (is_empty b.input))

pub output-after-step : (b : Buffers) → is_empty b.input ≡ false → output_of b ≡ output_of (step b)
unfolding output_of run
output-after-step b e = search (rules, step-shortens-input, more-passes-change-nothing, cond-false)

-- removing dot segments: with an empty input buffer the loop is done
pub output-of-empty-input : (output : List ℕ)
    → output_of (record { input = []; output = output }) ≡ output
unfolding output_of run
output-of-empty-input output = refl
