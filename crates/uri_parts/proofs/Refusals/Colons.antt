-- The last `:` before a position.
use Rattle.uri_parts.proofs.Common.{◌≡◌, ℕ, zero, suc, ◌+◌, ◌-◌, ◌<◌, ◌≤◌, true, false, List, length, get_or, drop, ap, ◌∙◌, arith, ⊎_elim, ◌⊎◌, inl, inr, add-one, add-zero, cases_Bool, cond-true, cond-false, eq-eqb, ne_eqb, drop_more, nat_tests, starts, last_colon}

-- parse errors: a `:` (58) at i begins what is left there
colon-byte-begins-suffix : (text : List ℕ) (i : ℕ) → i < length text → get_or text i 0 ≡ 58
    → starts 58 (drop i text) ≡ true
colon-byte-begins-suffix text i l e = ap (starts 58) (drop_more text i 0 l) ∙ eq-eqb _ 58 e

-- parse errors: another byte at i does not begin what is left there with `:` (58)
other-byte-begins-no-colon : (text : List ℕ) (i : ℕ) → i < length text → (get_or text i 0 ≡ 58 → ⊥)
    → starts 58 (drop i text) ≡ false
other-byte-begins-no-colon text i l e = ap (starts 58) (drop_more text i 0 l) ∙ ne_eqb _ 58 e

-- parse errors: the last `:` (58) before n + 1 is at n, if one is there
last_colon-is-colon-just-before : (text : List ℕ) (n : ℕ) → n < length text → get_or text n 0 ≡ 58
    → last_colon text (suc n) ≡ n
unfolding last_colon
last_colon-is-colon-just-before text n l e = cond-true _ _ _ (colon-byte-begins-suffix text n l e)

-- parse errors: the last `:` (58) before n + 1 is the one before n, if another byte is there
last_colon-skips-other-byte : (text : List ℕ) (n : ℕ) → n < length text → (get_or text n 0 ≡ 58 → ⊥)
    → last_colon text (suc n) ≡ last_colon text n
unfolding last_colon
last_colon-skips-other-byte text n l e = cond-false _ _ _ (other-byte-begins-no-colon text n l e)

-- parse errors: the last `:` (58) before an index is the byte just before it, if that is `:`
pub last_colon-at-colon : (text : List ℕ) (i n : ℕ) → 0 < i → i ≤ length text → n ≡ i - 1
    → get_or text n 0 ≡ 58 → n ≡ last_colon text i
last_colon-at-colon text zero n l k e c = absurd (omega arith)
last_colon-at-colon text (suc i) n l k e c =
    grind (arith, nat_tests, last_colon-is-colon-just-before)

-- parse errors: another byte than `:` (58) leaves the last `:` before it where it was
pub last_colon-stays-past-other-byte : (text : List ℕ) (i n : ℕ) → 0 < i → i ≤ length text
    → n ≡ i - 1 → (get_or text n 0 ≡ 58 → ⊥) → last_colon text i ≡ last_colon text n
last_colon-stays-past-other-byte text zero n l k e c = absurd (omega arith)
last_colon-stays-past-other-byte text (suc i) n l k e c =
    grind (arith, nat_tests, last_colon-skips-other-byte)

-- parse errors: the last `:` before a position i above 0 is below i
pub last_colon_is_below_position : (text : List ℕ) (i : ℕ) → 0 < i → last_colon text i < i
unfolding last_colon
last_colon_is_below_position text zero l = absurd (omega arith)
last_colon_is_below_position text (suc zero) l = grind (arith, nat_tests)
last_colon_is_below_position text (suc (suc i)) l = ⊎_elim
    (λ e. rw (cond-true (starts 58 (drop (suc i) text)) _ _ e) (omega arith))
    (λ e. rw (cond-false (starts 58 (drop (suc i) text)) _ _ e)
    (let h = last_colon_is_below_position text (suc i) (omega arith) in omega arith))
    (cases_Bool (starts 58 (drop (suc i) text)))

-- parse errors: after a `:` (58) at n, the last one is at n
pub last_colon-after-colon-is-that-colon : (text : List ℕ) (n : ℕ) → starts 58 (drop n text) ≡ true
    → last_colon text (n + 1) ≡ n
unfolding last_colon
last_colon-after-colon-is-that-colon text n e = ap (last_colon text) (add-one n) ∙ cond-true _ _ _ e

-- parse errors: after k bytes without a `:` (58), the last one is that before them
pub last_colon-without-colons-after : (text : List ℕ) (n k : ℕ) → ((j : ℕ)
    → j < k → starts 58 (drop (n + j) text) ≡ false) → last_colon text (n + k) ≡ last_colon text n
unfolding last_colon
last_colon-without-colons-after text n zero h = ap (last_colon text) (add-zero n)
last_colon-without-colons-after text n (suc k) h =
    let s : n + suc k ≡ suc (n + k) = omega arith in
    ap (last_colon text) s ∙ cond-false _ _ _ (h k (omega arith))
    ∙ last_colon-without-colons-after text n k (λ j l. h j (omega arith))

-- parse errors: k bytes further on, the last `:` is the same or is among them
pub last_colon-same-or-later : (text : List ℕ) (n k : ℕ)
    → (last_colon text (n + k) ≡ last_colon text n) ⊎ (n ≤ last_colon text (n + k))
unfolding last_colon
last_colon-same-or-later text n zero = inl (ap (last_colon text) (add-zero n))
last_colon-same-or-later text n (suc k) =
    let s : n + suc k ≡ suc (n + k) = omega arith in
    let e = ap (last_colon text) s in
    ⊎_elim (λ c. inr (let t = e ∙ cond-true _ _ _ c in omega (arith, t))) (λ c. let t = e
    ∙ cond-false _ _ _ c in ⊎_elim (λ h. inl (t ∙ h)) (λ h. inr (omega (arith, t, h)))
    (last_colon-same-or-later text n k)) (cases_Bool (starts 58 (drop (n + k) text)))
