-- The lanes at which octets begin, and those that are parts of octets.
use Rattle.uri_pct.proofs.Common.{◌≡◌, ℕ, ◌+◌, ◌-◌, ◌*◌, ◌/◌, ◌%◌, ◌^◌, ◌<◌, ◌≤◌, min, Bool, true, false, not, eqb, leb, List, get_or, refl, sym, ap, ◌∙◌, arith, w64, bit_and, bit_or, ◌&&◌, ◌||◌, ⊎_elim, bit_at, bit_not, is_ascii_hexdigit, or_lt, bit_at_and, bit_at_above, cases_lt, both_ways, eqb-true, eq-eqb, and_from, or_from, or_parts, and_right, cases_Bool, le-leb, lt-leb, and-true, or-false, HEXDIG_LOW, HEXDIG_HIGH, has_hex_digits_after, is_lane_of_octet, has_bit, nat_tests}
use Rattle.uri_pct.proofs.TableSets.Masks.{bit_of_bit_or, bit_of_bit_and, bit_of_bit_and_not}
use Rattle.uri_pct.proofs.TableSets.Constants.{hexdig_masks_are_hexdig_set}
use Rattle.uri_pct.proofs.LaneScans.LaneRuns.{MarksFailingLanes}
use Rattle.uri_pct.proofs.LaneScans.LaneBits.{is_set_bit, bit_of_right_shift, bit_of_left_shift, low_bit_of_left_shift_is_clear, clear_lane_passes_test}

-- sixteen bytes at a time: the two words of the table of digits have hexadecimal digits only
pub char_of_hex_masks_is_hexdigit : (c : ℕ) → has_bit HEXDIG_LOW HEXDIG_HIGH c ≡ true
    → is_ascii_hexdigit c ≡ true
char_of_hex_masks_is_hexdigit c e = sym (ap (λ s. s.ascii c) hexdig_masks_are_hexdig_set) ∙ e

-- general fact on booleans, for sixteen bytes at a time
and_not_is_true_of_both_parts : (a b : Bool) → (a && not b) ≡ true → (a ≡ true) × (b ≡ false)
and_not_is_true_of_both_parts true true e = (refl, sym e)
and_not_is_true_of_both_parts true false e = (refl, refl)
and_not_is_true_of_both_parts false b e = absurd (both_ways _ refl e)

-- general fact on booleans, for sixteen bytes at a time
pub first_is_false_if_and_is_false : (a b : Bool) → (a && b) ≡ false → b ≡ true → a ≡ false
first_is_false_if_and_is_false true b e h = absurd (both_ways _ e h)
first_is_false_if_and_is_false false b e h = refl

-- where octets begin that end among sixteen lanes
module _ (bs : List ℕ) (i percents others : ℕ)
    (is : (k : ℕ) → k < 16 → is_set_bit percents k ≡ eqb (get_or bs (i + k) 0) 37)
    (small : percents < 2 ^ 16)
    (marks : MarksFailingLanes (has_bit HEXDIG_LOW HEXDIG_HIGH) bs i 16 others) where
  -- each lane of this mask has a `%` with two hexadecimal digits after it, all in the load
  pub octet_begins_at_set_lane : (k : ℕ)
      → bit_at
      (bit_and percents
      (bit_not w64 (bit_or (bit_or others 196608 / 2) (bit_or others 196608 / 4)))) k
      ≡ 1
      → (k + 3 ≤ 16) × (get_or bs (i + k) 0 ≡ 37) × (has_hex_digits_after bs (i + k) ≡ true)
  unfolding has_hex_digits_after
  octet_begins_at_set_lane k e =
      let all = bit_or others 196608 in
      let masked = bit_and percents (bit_not w64 (bit_or (all / 2) (all / 4))) in
      let both : min (bit_at percents k) (bit_at (bit_not w64 (bit_or (all / 2) (all / 4))) k) ≡ 1 =
      sym (bit_at_and percents (bit_not w64 (bit_or (all / 2) (all / 4))) k)
      ∙ e in
      let inside : k < 16 = ⊎_elim (λ (h : k < 16). h)
      (λ (h : 16 ≤ k). let z = bit_at_above percents 16 k small h in
      absurd (omega (arith, both))) (cases_lt k 16) in
      let wide : all < 2 ^ 64 = or_lt 64 others 196608 (omega (arith, marks.below)) (omega arith) in
      let fits : bit_or (all / 2) (all / 4) < 2 ^ 64 =
      or_lt 64 (all / 2) (all / 4) (omega arith) (omega arith) in
      let split = and_not_is_true_of_both_parts (is_set_bit percents k)
      (is_set_bit (bit_or (all / 2) (all / 4)) k)
      (sym (bit_of_bit_and_not percents (bit_or (all / 2) (all / 4)) k fits (omega arith))
      ∙ eq-eqb _ _ e) in
      let suffix = or_parts (is_set_bit (all / 2) k) (is_set_bit (all / 4) k)
      (sym (bit_of_bit_or (all / 2) (all / 4) k) ∙ split.1) in
      let first = or_parts (is_set_bit others (1 + k)) (is_set_bit 196608 (1 + k))
      (sym (bit_of_bit_or others 196608 (1 + k)) ∙ sym (bit_of_right_shift all 1 k) ∙ suffix.0) in
      let second = or_parts (is_set_bit others (2 + k)) (is_set_bit 196608 (2 + k))
      (sym (bit_of_bit_or others 196608 (2 + k)) ∙ sym (bit_of_right_shift all 2 k) ∙ suffix.1) in
      let not_15 : k ≡ 15 → ⊥ = λ d. both_ways _ (sym (ap (λ m. is_set_bit 196608 (1 + m)) d)
      ∙ first.1) refl in
      let not_14 : k ≡ 14 → ⊥ = λ d. both_ways _ (sym (ap (λ m. is_set_bit 196608 (2 + m)) d)
      ∙ second.1) refl in
      let room : k + 3 ≤ 16 = grind (arith, nat_tests) in
      let at_1 = char_of_hex_masks_is_hexdigit _
      (clear_lane_passes_test _ bs i 16 others (1 + k) marks (omega arith) first.0) in
      let at_2 = char_of_hex_masks_is_hexdigit _
      (clear_lane_passes_test _ bs i 16 others (2 + k) marks (omega arith) second.0) in (
        room,
        eqb-true _ _ (sym (is k inside) ∙ split.0),
        and_from _ _ (ap (λ m. is_ascii_hexdigit (get_or bs m 0)) (omega arith) ∙ at_1)
            (ap (λ m. is_ascii_hexdigit (get_or bs m 0)) (omega arith) ∙ at_2),
      )

-- sixteen bytes at a time: the lanes of the octets that begin at the lanes of `begun`
abbrev pub lanes_covered_by_octets : ℕ → ℕ
lanes_covered_by_octets begun = bit_or (bit_or begun (begun * 2 ^ 1 % 2 ^ 64))
    (begun * 2 ^ 2 % 2 ^ 64)

-- sixteen bytes at a time: the lanes of `misses` that are in no octet
abbrev pub lanes_left_uncovered : ℕ → ℕ → ℕ
lanes_left_uncovered misses begun = bit_and misses (bit_not w64 (lanes_covered_by_octets begun))

lane_of_shifted_starts : (begun s k : ℕ) → k < 64
    → is_set_bit (begun * 2 ^ s % 2 ^ 64) k ≡ (leb s k && is_set_bit begun (k - s))
lane_of_shifted_starts begun s k h =
    grind (arith, nat_tests, low_bit_of_left_shift_is_clear, is_set_bit, bit_of_left_shift)

pub uncovered_lane_is_miss_outside_octets : (misses begun k : ℕ) → begun < 2 ^ 64 → k < 64
    → is_set_bit (lanes_left_uncovered misses begun) k
    ≡ (is_set_bit misses k && not (is_lane_of_octet begun k))
uncovered_lane_is_miss_outside_octets misses begun k fits h =
    let one : ℕ = begun * 2 ^ 1 % 2 ^ 64 in
    let two : ℕ = begun * 2 ^ 2 % 2 ^ 64 in
    bit_of_bit_and_not misses (lanes_covered_by_octets begun) k
    (or_lt 64 _ _ (or_lt 64 _ _ fits (omega arith)) (omega arith)) h
    ∙ ap (λ b. is_set_bit misses k && not b) (bit_of_bit_or (bit_or begun one) two k
    ∙ ap (λ b. b || is_set_bit two k) (bit_of_bit_or begun one k
    ∙ ap (λ b. is_set_bit begun k || b) (lane_of_shifted_starts begun 1 k h))
    ∙ ap (λ b. (is_set_bit begun k || (leb 1 k && is_set_bit begun (k - 1))) || b)
    (lane_of_shifted_starts begun 2 k h))

pub lane_without_origin_is_in_no_octet : (begun k : ℕ) → is_set_bit begun k ≡ false
    → ((j : ℕ) → j < k → k ≤ j + 2 → is_set_bit begun j ≡ false) → is_lane_of_octet begun k ≡ false
lane_without_origin_is_in_no_octet begun k here before = or_from _ _
    (or_from _ _ here (none 1 (omega arith) (omega arith))) (none 2 (omega arith) (omega arith))
  where
    none : (s : ℕ) → 1 ≤ s → s ≤ 2 → (leb s k && is_set_bit begun (k - s)) ≡ false
    none s one two = ⊎_elim (λ (l : k < s). ap (λ b. b && is_set_bit begun (k - s)) (lt-leb s k l))
        (λ (l : s ≤ k). and_right (leb s k) _ (before (k - s) (omega arith) (omega arith)))
        (cases_lt k s)

pub no_octet_begins_before_lane_outside : (begun k j : ℕ) → is_lane_of_octet begun k ≡ false
    → j ≤ k → k ≤ j + 2 → is_set_bit begun j ≡ false
no_octet_begins_before_lane_outside begun k j e from to =
    let outer : ((is_set_bit begun k || (leb 1 k && is_set_bit begun (k - 1))) ≡ false)
    × ((leb 2 k && is_set_bit begun (k - 2)) ≡ false) = or_parts _ _ e in
    let inner : (is_set_bit begun k ≡ false) × ((leb 1 k && is_set_bit begun (k - 1)) ≡ false) =
    or_parts _ _ outer.0 in
    ⊎_elim (λ (l : j < k). ⊎_elim (λ (m : j + 1 < k). earlier 2 (omega arith) (omega arith) outer.1)
    (λ (m : k ≤ j + 1). earlier 1 (omega arith) (omega arith) inner.1) (cases_lt (j + 1) k))
    (λ (l : k ≤ j). let here : j ≡ k = omega arith in ap (is_set_bit begun) here ∙ inner.0)
    (cases_lt j k)
  where
    earlier : (s : ℕ) → j + s ≡ k → s ≤ k → (leb s k && is_set_bit begun (k - s)) ≡ false
        → is_set_bit begun j ≡ false
    earlier s at l f = let there : j ≡ k - s = omega arith in ap (is_set_bit begun) there
        ∙ sym (ap (λ b. b && is_set_bit begun (k - s)) (le-leb s k l)) ∙ f

pub octets_before_lane_outside_are_whole : (begun n : ℕ)
    → n ≤ 16 → ((k : ℕ) → is_set_bit begun k ≡ true → k + 3 ≤ 16) → (n < 16
    → is_lane_of_octet begun n ≡ false) → (k : ℕ) → k < n → is_set_bit begun k ≡ true → k + 3 ≤ n
octets_before_lane_outside_are_whole begun n few room ends k h o =
    ⊎_elim (λ (near : n < k + 3). ⊎_elim (λ (l : n < 16). absurd (both_ways _
    (no_octet_begins_before_lane_outside begun n k (ends l) (omega arith) (omega arith)) o))
    (λ (l : 16 ≤ n). omega (arith, room k o, l, near)) (cases_lt n 16))
    (λ (far : k + 3 ≤ n). far) (cases_lt n (k + 3))

pub miss_outside_digits_is_in_octet_that_begins_there : (misses starts k : ℕ)
    → ((j : ℕ) → bit_at starts j ≡ 1 → (bit_at misses (j + 1) ≡ 0) × (bit_at misses (j + 2) ≡ 0))
    → (is_set_bit misses k && not (is_set_bit starts k))
    ≡ (is_set_bit misses k && not (is_lane_of_octet (bit_and starts misses) k))
miss_outside_digits_is_in_octet_that_begins_there misses starts k digits = ⊎_elim
    (λ (set : is_set_bit misses k ≡ true). ap (λ b. is_set_bit misses k && not b) (sym (here set)))
    (λ (clear : is_set_bit misses k ≡ false). ap (λ b. b && not (is_set_bit starts k)) clear
    ∙ sym (ap (λ b. b && not (is_lane_of_octet begun k)) clear)) (cases_Bool (is_set_bit misses k))
  where
    begun : ℕ
    begun = bit_and starts misses

    before : is_set_bit misses k ≡ true → (s : ℕ) → ((j : ℕ) → is_set_bit starts j ≡ true
        → is_set_bit misses (j + s) ≡ false) → (leb s k && is_set_bit begun (k - s)) ≡ false
    before set s none = grind (arith, nat_tests, is_set_bit, bit_of_bit_and)

    here : is_set_bit misses k ≡ true → is_lane_of_octet begun k ≡ is_set_bit starts k
    here set = grind (arith, nat_tests, is_set_bit, or-false, bit_of_bit_and, and-true)
