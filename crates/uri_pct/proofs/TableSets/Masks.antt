-- Two words as a set of ASCII characters.
use Rattle.uri_pct.proofs.Common.{◌≡◌, ℕ, ◌+◌, ◌-◌, ◌*◌, ◌/◌, ◌%◌, ◌^◌, ◌<◌, ◌≤◌, min, Bool, true, false, not, eqb, ltb, List, refl, sym, ap, ◌∙◌, arith, bit_and, bit_or, ◌&&◌, ◌||◌, ⊎_elim, w64, slice_index_or, bit_at, bit_not, or-false, and_mask, shr_and_one, bit_at-zero, bit_at-lt, bit_at_or, bit_at_and, bit_at_not, bit_at_set_same, bit_at_set_other, same_from_bits_below, cases_lt, cases_eq, cond-true, cond-false, lt-ltb, le-ltb, eq-eqb, ne_eqb, or_from, or_right, agree_below, agree_below_at, nat_tests, has_bit}

-- tables: below 64 the low word decides whether a character is in the set
pub has_bit_below_64_is_bit_of_low : (low high c : ℕ) → c < 64 → has_bit low high c
    ≡ eqb (bit_at low c) 1
unfolding has_bit
has_bit_below_64_is_bit_of_low low high c h = cond-true _ _ _ (lt-ltb c 64 h)

pub has_bit_from_64_is_bit_of_high : (low high c : ℕ) → 64 ≤ c → c < 128
    → has_bit low high c ≡ eqb (bit_at high (c - 64)) 1
unfolding has_bit
has_bit_from_64_is_bit_of_high low high c from below = cond-false _ _ _ (le-ltb c 64 from)
    ∙ ap (λ b. b && eqb (bit_at high (c - 64)) 1) (lt-ltb c 128 below)

-- tables: the two words have no character past ASCII
pub has_bit_past_ascii_is_false : (low high c : ℕ) → 128 ≤ c → has_bit low high c ≡ false
unfolding has_bit
has_bit_past_ascii_is_false low high c h = cond-false _ _ _ (le-ltb c 64 (omega arith))
    ∙ ap (λ b. b && eqb (bit_at high (c - 64)) 1) (le-ltb c 128 h)

-- tables: the two words have ASCII characters only
pub has_bit-only-ascii : (low high c : ℕ) → has_bit low high c ≡ true → c < 128
has_bit-only-ascii low high c e = grind (arith, nat_tests, has_bit_past_ascii_is_false)

-- tables: the bit of `%` (37) is in the low word
pub has_bit_of_percent_is_bit_of_low : (low high : ℕ) → has_bit low high 37 ≡ eqb (bit_at low 37) 1
unfolding has_bit
has_bit_of_percent_is_bit_of_low low high = refl

-- tables: the bit of a byte that the code reads, out of four words
abbrev pub tested_bit : List ℕ → ℕ → Bool
tested_bit words b = eqb (bit_and (slice_index_or words (b / 64) 0 / 2 ^ bit_and b 63) 1) 1

-- tables: a tested bit is a bit of one of the two words; q: which
tested_bit_is_bit_of_its_word : (words : List ℕ) (b q : ℕ) → b / 64 ≡ q
    → tested_bit words b ≡ eqb (bit_at (slice_index_or words q 0) (b - 64 * q)) 1
tested_bit_is_bit_of_its_word words b q e =
    let place : bit_and b 63 ≡ b - 64 * q = and_mask b 6 ∙ omega arith in
    grind (arith, nat_tests, shr_and_one)

-- bits, for tables: the word 0 has none
zero_word_has_no_bit : (w k : ℕ) → w ≡ 0 → eqb (bit_at w k) 1 ≡ false
zero_word_has_no_bit w k e = ap (λ v. eqb (bit_at v k) 1) e ∙ ap (λ v. eqb v 1) (bit_at-zero k)

-- tables: if the last two of four words are zero, the first two are those of the table
pub tested_bit-is-has_bit : (words : List ℕ) (b : ℕ) → slice_index_or words 2 0 ≡ 0
    → slice_index_or words 3 0 ≡ 0 → b < 256
    → tested_bit words b ≡ has_bit (slice_index_or words 0 0) (slice_index_or words 1 0) b
tested_bit-is-has_bit words b third fourth h =
    let low = slice_index_or words 0 0 in
    let high = slice_index_or words 1 0 in
    ⊎_elim (λ (below : b < 64). tested_bit_is_bit_of_its_word words b 0 (omega arith)
    ∙ ap (λ k. eqb (bit_at low k) 1) (omega arith)
    ∙ sym (has_bit_below_64_is_bit_of_low low high b below)) (grind (
      arith,
      nat_tests,
      tested_bit_is_bit_of_its_word,
      has_bit_from_64_is_bit_of_high,
      zero_word_has_no_bit,
      has_bit_past_ascii_is_false,
    )) (cases_lt b 64)

-- tables: the bits of two words are a test of characters if those of `low` agree
-- with it below 64, those of `high` below 128, and the test fails from 128 on
has_bit_is_test_if_words_agree : (low high : ℕ) (f : ℕ → Bool)
    → ((c : ℕ) → c < 64 → eqb (bit_at low c) 1 ≡ f c)
    → ((c : ℕ) → 64 ≤ c → c < 128 → eqb (bit_at high (c - 64)) 1 ≡ f c)
    → ((c : ℕ) → 128 ≤ c → f c ≡ false) → (c : ℕ) → has_bit low high c ≡ f c
has_bit_is_test_if_words_agree low high f first second third c =
    grind (
      arith,
      has_bit_below_64_is_bit_of_low,
      has_bit_from_64_is_bit_of_high,
      has_bit_past_ascii_is_false,
    )

-- bits, for differences of tables: the smaller of a bit and another's complement is `and not`
min_with_complement_is_and_not : (x y : ℕ) → x < 2 → y < 2 → eqb (min x (1 - y)) 1
    ≡ (eqb x 1 && not (eqb y 1))
min_with_complement_is_and_not x y p q = grind (arith, nat_tests)

-- bits, for unions of tables: a bit of `or` is in one of both words
pub bit_of_bit_or : (a b i : ℕ)
    → eqb (bit_at (bit_or a b) i) 1 ≡ (eqb (bit_at a i) 1 || eqb (bit_at b i) 1)
bit_of_bit_or a b i = grind (arith, bit_at_or, nat_tests, bit_at-lt)

-- bits, for tables: a bit of `and` is in both words
pub bit_of_bit_and : (a b i : ℕ)
    → eqb (bit_at (bit_and a b) i) 1 ≡ (eqb (bit_at a i) 1 && eqb (bit_at b i) 1)
bit_of_bit_and a b i = grind (arith, bit_at_and, nat_tests, bit_at-lt)

-- bits, for differences of tables: a bit of `and not` is in the first word alone
pub bit_of_bit_and_not : (a b i : ℕ) → b < 2 ^ 64 → i < 64 → eqb
    (bit_at (bit_and a (bit_not w64 b)) i) 1 ≡ (eqb (bit_at a i) 1 && not (eqb (bit_at b i) 1))
bit_of_bit_and_not a b i fits within = ap (λ n. eqb n 1) (bit_at_and a (bit_not w64 b) i)
    ∙ ap (λ n. eqb (min (bit_at a i) n) 1) (bit_at_not w64 b i fits within)
    ∙ min_with_complement_is_and_not (bit_at a i) (bit_at b i) (bit_at-lt a i) (bit_at-lt b i)

-- tables: the union of two pairs of words has the characters of both
pub has_bit_of_joined_masks_is_or : (low high low' high' c : ℕ)
    → has_bit (bit_or low low') (bit_or high high') c ≡ (has_bit low high c || has_bit low' high' c)
has_bit_of_joined_masks_is_or low high low' high' =
    grind (
      arith,
      bit_of_bit_or,
      has_bit_below_64_is_bit_of_low,
      has_bit_from_64_is_bit_of_high,
      has_bit_past_ascii_is_false,
    )

-- tables: the difference of two pairs of words has the characters
-- of the first that the second lacks
pub has_bit_of_mask_difference_is_and_not : (low high low' high' c : ℕ) → low' < 2 ^ 64
    → high' < 2 ^ 64 → has_bit (bit_and low (bit_not w64 low')) (bit_and high (bit_not w64 high')) c
    ≡ (has_bit low high c && not (has_bit low' high' c))
has_bit_of_mask_difference_is_and_not low high low' high' c fits fits' =
    grind (
      arith,
      bit_of_bit_and_not,
      has_bit_below_64_is_bit_of_low,
      has_bit_from_64_is_bit_of_high,
      has_bit_past_ascii_is_false,
    )

bit_after_one_bit_is_set : (n k i : ℕ) → k < 64
    → eqb (bit_at (bit_or n (1 * 2 ^ k % 2 ^ 64)) i) 1 ≡ (eqb (bit_at n i) 1 || eqb k i)
bit_after_one_bit_is_set n k i within =
    ⊎_elim (λ (e : k ≡ i). ap (λ j. eqb (bit_at (bit_or n (1 * 2 ^ k % 2 ^ 64)) j) 1) (sym e)
    ∙ ap (λ b. eqb b 1) (bit_at_set_same w64 n k within)
    ∙ sym (or_right (eqb (bit_at n i) 1) (eqb k i) (eq-eqb k i e))) (λ (ne : k ≡ i
    → ⊥). ap (λ b. eqb b 1) (bit_at_set_other w64 n k within i (λ (e : i ≡ k). ne (sym e)))
    ∙ sym (or-false (eqb (bit_at n i) 1)) ∙ ap (λ b. eqb (bit_at n i) 1 || b) (sym (ne_eqb k i ne)))
    (cases_eq k i)

-- tables: setting a bit of the low word adds the character k
pub has_bit_after_low_bit_is_set : (low high k c : ℕ) → k < 64
    → has_bit (bit_or low (1 * 2 ^ k % 2 ^ 64)) high c ≡ (has_bit low high c || eqb k c)
has_bit_after_low_bit_is_set low high k c within =
    has_bit_is_test_if_words_agree (bit_or low (1 * 2 ^ k % 2 ^ 64)) high
    (λ c. has_bit low high c || eqb k c) (λ c h. bit_after_one_bit_is_set low k c within
    ∙ ap (λ a. a || eqb k c) (sym (has_bit_below_64_is_bit_of_low low high c h)))
    (grind (arith, nat_tests, has_bit_from_64_is_bit_of_high, or-false))
    (λ c h. or_from (has_bit low high c) (eqb k c)
    (has_bit_past_ascii_is_false low high c h) (ne_eqb k c (λ (e : k ≡ c). omega arith))) c

-- tables: setting a bit of the high word adds the character k
pub has_bit_after_high_bit_is_set : (low high k c : ℕ) → 64 ≤ k → k < 128
    → has_bit low (bit_or high (1 * 2 ^ (k - 64) % 2 ^ 64)) c ≡ (has_bit low high c || eqb k c)
has_bit_after_high_bit_is_set low high k c from within =
    grind (
      arith,
      has_bit_below_64_is_bit_of_low,
      bit_after_one_bit_is_set,
      has_bit_from_64_is_bit_of_high,
      has_bit_past_ascii_is_false,
    )

-- tables: two words that are zero have no character
pub has_bit-zero-masks : (c : ℕ) → has_bit 0 0 c ≡ false
has_bit-zero-masks = has_bit_is_test_if_words_agree 0 0 (λ c. false)
    (λ c h. zero_word_has_no_bit 0 c refl)
    (λ c h k. zero_word_has_no_bit 0 (c - 64) refl) (λ c h. refl)

pub bit_that_is_not_one_is_zero : (n i : ℕ) → eqb (bit_at n i) 1 ≡ false → bit_at n i ≡ 0
bit_that_is_not_one_is_zero n i e = grind (arith, nat_tests, bit_at-lt)

-- bits, for tables: a word without any is 0
number_without_set_bits_is_zero : (n : ℕ) → n < 2 ^ 64
    → ((i : ℕ) → i < 64 → eqb (bit_at n i) 1 ≡ false) → n ≡ 0
number_without_set_bits_is_zero n fits none = same_from_bits_below 64 n 0 fits
    (omega arith) (λ i h. bit_that_is_not_one_is_zero n i (none i h) ∙ sym (bit_at-zero i))

pub low_mask_without_bits_is_zero : (low high : ℕ) → low < 2 ^ 64
    → ((c : ℕ) → has_bit low high c ≡ false) → low ≡ 0
low_mask_without_bits_is_zero low high fits none = number_without_set_bits_is_zero low fits
    (λ i h. sym (has_bit_below_64_is_bit_of_low low high i h) ∙ none i)

pub high_mask_without_bits_is_zero : (low high : ℕ) → high < 2 ^ 64
    → ((c : ℕ) → has_bit low high c ≡ false) → high ≡ 0
high_mask_without_bits_is_zero low high fits none = number_without_set_bits_is_zero high fits
    (λ i h. ap (λ j. eqb (bit_at high j) 1) (omega arith) ∙ sym
    (has_bit_from_64_is_bit_of_high low high (i + 64) (omega arith) (omega arith)) ∙ none (i + 64))

pub has_bit-by-agreement : (low high : ℕ) (test : ℕ → Bool)
    → agree_below (has_bit low high) test 128 ≡ true
    → ((c : ℕ) → 128 ≤ c → test c ≡ false) → (c : ℕ) → has_bit low high c ≡ test c
has_bit-by-agreement low high test same none c =
    ⊎_elim (λ (below : c < 128). agree_below_at (has_bit low high) test 128 c same below)
    (λ (past : 128 ≤ c). has_bit_past_ascii_is_false low high c past ∙ sym (none c past))
    (cases_lt c 128)

-- tables: two words of which all bits are set have each ASCII character
pub has_bit-full-masks : (c : ℕ) → has_bit 0xFFFFFFFFFFFFFFFF 0xFFFFFFFFFFFFFFFF c ≡ ltb c 128
unfolding has_bit
has_bit-full-masks c = has_bit-by-agreement 0xFFFFFFFFFFFFFFFF 0xFFFFFFFFFFFFFFFF
    (λ b. ltb b 128) refl (λ b h. le-ltb b 128 h) c

-- tables: two words that have all bits of two others have their characters
pub has_bit_of_words_with_all_bits : (low high low' high' c : ℕ) → bit_and low low' ≡ low'
    → bit_and high high' ≡ high' → has_bit low' high' c ≡ true → has_bit low high c ≡ true
has_bit_of_words_with_all_bits low high low' high' c lows highs e =
    grind (
      arith,
      bit_of_bit_and,
      has_bit_below_64_is_bit_of_low,
      has_bit_from_64_is_bit_of_high,
      has_bit_past_ascii_is_false,
    )
