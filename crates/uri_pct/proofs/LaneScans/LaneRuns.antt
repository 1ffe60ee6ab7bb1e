-- From the mask of a load to the bytes under it.
use Rattle.std.proofs.lemmas.Grind.{common_steps}
use Rattle.uri_pct.proofs.Common.{◌≡◌, ℕ, ◌+◌, ◌-◌, ◌/◌, ◌%◌, ◌^◌, ◌<◌, ◌≤◌, Bool, true, false, not, cond, List, map, length, get_or, refl, sym, ap, subst, ◌∙◌, arith, w64, pow_mono, bit_at, trailing_zeros, mask_l, chunk, shr-shr, shr_below, bit_at-zero, bit_at_above, bit_at-trailing_zeros, bit_mask_l, mask_l-lt, has_bit, IsLongestRun, nat_tests}

-- sixteen bytes at a time: bit k of the mask is set where the byte at i + k fails, for w bytes
pub record MarksFailingLanes (test : ℕ → Bool) (bs : List ℕ) (i w mask : ℕ) : Type 0 where
  pub lane : (k : ℕ) → k < w → bit_at mask k ≡ cond (not (test (get_or bs (i + k) 0))) 1 0
  pub below : mask < 2 ^ w

pub load_mask_marks_failing_lanes : (test : ℕ → Bool) (bs : List ℕ) (i w : ℕ) → i + w ≤ length bs
    → MarksFailingLanes test bs i w (mask_l (map (λ b. not (test b)) (chunk i w bs)))
load_mask_marks_failing_lanes test bs i w room = grind (arith, common_steps, bit_mask_l, mask_l-lt)

pub set_mask_marks_lanes_outside : (low high : ℕ) (bs : List ℕ) (i mask : ℕ) → i + 16 ≤ length bs
    → mask ≡ mask_l (map (λ b. not (has_bit low high b)) (chunk i 16 bs))
    → MarksFailingLanes (has_bit low high) bs i 16 mask
set_mask_marks_lanes_outside low high bs i mask room e =
    subst (MarksFailingLanes (has_bit low high) bs i 16) (sym e)
    (load_mask_marks_failing_lanes (has_bit low high) bs i 16 room)

shifted_mask_marks_later_lanes : (test : ℕ → Bool) (bs : List ℕ) (i w s mask : ℕ)
    → MarksFailingLanes test bs i (w + s) mask → MarksFailingLanes test bs (i + s) w (mask / 2 ^ s)
shifted_mask_marks_later_lanes test bs i w s mask m = record {
  lane = λ k h. ap (λ n. n % 2) (shr-shr mask s k) ∙ m.lane (s + k) (omega arith)
      ∙ ap (λ n. cond (not (test (get_or bs n 0))) 1 0) (omega arith);
  below = shr_below mask w s m.below;
}

-- sixteen bytes at a time: a load of the last sixteen bytes, shifted right,
-- marks the lanes from i on
pub last_load_marks_failing_lanes : (test : ℕ → Bool) (bs : List ℕ) (i mask : ℕ) → 16 ≤ length bs
    → i ≤ length bs → length bs ≤ i + 16 → MarksFailingLanes test bs (length bs - 16) 16 mask
    → MarksFailingLanes test bs i (length bs - i) (mask / 2 ^ (i - (length bs - 16)))
last_load_marks_failing_lanes test bs i mask long within near m =
    let s : ℕ = i - (length bs - 16) in
    let whole : length bs - i + s ≡ 16 = omega arith in
    let here : length bs - 16 + s ≡ i = omega arith in
    subst (λ n. MarksFailingLanes test bs n (length bs - i) (mask / 2 ^ s)) here
    (shifted_mask_marks_later_lanes test bs (length bs - 16) (length bs - i) s mask
    (subst (λ n. MarksFailingLanes test bs (length bs - 16) n mask) (sym whole) m))

abbrev mask_bit_of_lane : Bool → ℕ
mask_bit_of_lane b = cond (not b) 1 0

unmarked_lane_passes : (b : Bool) → mask_bit_of_lane b ≡ 0 → b ≡ true
unmarked_lane_passes true e = refl
unmarked_lane_passes false e = absurd (omega arith)

marked_lane_fails : (b : Bool) → mask_bit_of_lane b ≡ 1 → b ≡ false
marked_lane_fails true e = absurd (omega arith)
marked_lane_fails false e = refl

module _ (test : ℕ → Bool) (bs : List ℕ) (i w mask : ℕ)
    (m : MarksFailingLanes test bs i w mask) where
  clear_bit_is_passing_byte : (k : ℕ) → i ≤ k → k < i + w → bit_at mask (k - i) ≡ 0
      → test (get_or bs k 0) ≡ true
  clear_bit_is_passing_byte k from to e = unmarked_lane_passes _
      (ap (λ n. cond (not (test (get_or bs n 0))) 1 0) (omega arith)
      ∙ sym (m.lane (k - i) (omega arith)) ∙ e)

  all_bytes_pass_if_mask_is_zero : mask ≡ 0 → (k : ℕ) → i ≤ k → k < i + w
      → test (get_or bs k 0) ≡ true
  all_bytes_pass_if_mask_is_zero e k from to = clear_bit_is_passing_byte k from to
      (ap (λ n. bit_at n (k - i)) e ∙ bit_at-zero (k - i))

  module _ (some : 0 < mask) (small : w ≤ 64) where
    trailing_zeros_is_first_marked_lane : (trailing_zeros w64 mask < 64)
        × (bit_at mask (trailing_zeros w64 mask) ≡ 1)
        × ((j : ℕ) → j < trailing_zeros w64 mask → bit_at mask j ≡ 0)
    trailing_zeros_is_first_marked_lane = bit_at-trailing_zeros w64 mask some
        (omega (arith, m.below, pow_mono {i = w} {j = 64} small))

    first_marked_lane_is_within_width : trailing_zeros w64 mask < w
    first_marked_lane_is_within_width =
        grind (arith, nat_tests, bit_at_above, trailing_zeros_is_first_marked_lane)

    bytes_before_first_mark_pass : (k : ℕ) → i ≤ k → k < i + trailing_zeros w64 mask
        → test (get_or bs k 0) ≡ true
    bytes_before_first_mark_pass k from to = clear_bit_is_passing_byte k from
        (omega (arith, first_marked_lane_is_within_width))
        (trailing_zeros_is_first_marked_lane.2 (k - i) (omega arith))

    byte_at_first_mark_fails : test (get_or bs (i + trailing_zeros w64 mask) 0) ≡ false
    byte_at_first_mark_fails = marked_lane_fails _
        (sym (m.lane (trailing_zeros w64 mask) first_marked_lane_is_within_width)
        ∙ trailing_zeros_is_first_marked_lane.1)

-- sixteen bytes at a time: if two adjacent runs of bytes pass a test, all their bytes pass it
adjacent_passing_runs_join : (test : ℕ → Bool) (bs : List ℕ) (a m b : ℕ)
    → ((k : ℕ) → a ≤ k → k < m → test (get_or bs k 0) ≡ true) → ((k : ℕ) → m ≤ k
    → k < b → test (get_or bs k 0) ≡ true) → (k : ℕ) → a ≤ k → k < b → test (get_or bs k 0) ≡ true
adjacent_passing_runs_join test bs a m b low high k from to = grind (arith, nat_tests)

-- where no lane is marked the run goes on, and else it ends at the first that is
module _ (test : ℕ → Bool) (bs : List ℕ) (start i w mask : ℕ)
    (m : MarksFailingLanes test bs i w mask)
    (passed : (k : ℕ) → start ≤ k → k < i → test (get_or bs k 0) ≡ true) where
  pub run_goes_on_past_unmarked_lanes : mask ≡ 0 → (k : ℕ) → start ≤ k → k < i + w
      → test (get_or bs k 0) ≡ true
  run_goes_on_past_unmarked_lanes e = adjacent_passing_runs_join test bs start i (i + w) passed
      (all_bytes_pass_if_mask_is_zero test bs i w mask m e)

  pub run_ends_at_first_marked_lane : 0 < mask → w ≤ 64 → start ≤ i → i + w ≤ length bs
      → IsLongestRun test bs start (i + trailing_zeros w64 mask)
  run_ends_at_first_marked_lane some small from room =
      let first = first_marked_lane_is_within_width test bs i w mask m some small in
      record {
        from = omega arith;
        within = omega arith;
        pass = adjacent_passing_runs_join test bs start i (i + trailing_zeros w64 mask) passed
            (bytes_before_first_mark_pass test bs i w mask m some small);
        stop = λ h. byte_at_first_mark_fails test bs i w mask m some small;
      }
