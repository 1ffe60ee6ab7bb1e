-- Masks of lanes, bit by bit: shifted, and as the lanes of a load.
use Rattle.uri_pct.proofs.Common.{◌≡◌, ℕ, zero, suc, ◌+◌, ◌-◌, ◌*◌, ◌/◌, ◌%◌, ◌^◌, ◌<◌, ◌≤◌, min, Bool, true, false, not, cond, eqb, List, map, length, get_or, refl, sym, ap, subst, ◌∙◌, arith, w64, ⊎_elim, bit_at, trailing_zeros, shr-shr, and_mask, pow_pos, bit_at-lt, bit_at_and, bit_at_ones, bit_at_cat_high, bit_at_cat_low, bit_at-zero, bit_at_above, bit_at-trailing_zeros, mask_l, chunk, cases_lt, bit_mask_l, mask_l-lt, get_or-chunk, length-chunk, get_or_default, length-map, get_or-map}
use Rattle.uri_pct.proofs.LaneScans.LaneRuns.{MarksFailingLanes}

-- sixteen bytes at a time, bits: the bit of the number is set
abbrev pub is_set_bit : ℕ → ℕ → Bool
is_set_bit n k = eqb (bit_at n k) 1

-- sixteen bytes at a time, bits: shifting right by s bits makes bit s + k bit k
pub bit_of_right_shift : (n s k : ℕ) → is_set_bit (n / 2 ^ s) k ≡ is_set_bit n (s + k)
bit_of_right_shift n s k = ap (λ m. eqb (m % 2) 1) (shr-shr n s k)

pub bit_of_left_shift : (n s k : ℕ) → k < 64 → s ≤ k → is_set_bit (n * 2 ^ s % 2 ^ 64) k
    ≡ is_set_bit n (k - s)
bit_of_left_shift n s k h l =
    let b : bit_at (n * 2 ^ s) k < 2 = bit_at-lt (n * 2 ^ s) k in
    let z : n * 2 ^ s + 0 ≡ n * 2 ^ s = omega arith in
    ap (λ m. eqb m 1) (ap (λ m. bit_at m k) (sym (and_mask (n * 2 ^ s) 64)) ∙ bit_at_and (n
    * 2 ^ s) (2 ^ 64 - 1) k ∙ ap (λ m. min (bit_at (n * 2 ^ s) k) m) (bit_at_ones 64 k h)
    ∙ omega arith ∙ ap (λ m. bit_at m k) (sym z) ∙ bit_at_cat_high n s 0 k (pow_pos s) l)

pub low_bit_of_left_shift_is_clear : (n s k : ℕ) → k < 64 → k < s
    → is_set_bit (n * 2 ^ s % 2 ^ 64) k ≡ false
low_bit_of_left_shift_is_clear n s k h l =
    let z : n * 2 ^ s + 0 ≡ n * 2 ^ s = omega arith in
    let none : bit_at (n * 2 ^ s) k ≡ 0 = ap (λ m. bit_at m k) (sym z) ∙ bit_at_cat_low n s 0 k l
    ∙ bit_at-zero k in
    let e : bit_at (n * 2 ^ s % 2 ^ 64) k ≡ 0 = ap (λ m. bit_at m k) (sym (and_mask (n * 2 ^ s) 64))
    ∙ bit_at_and (n * 2 ^ s) (2 ^ 64 - 1) k ∙ omega arith in
    ap (λ m. eqb m 1) e

pub clear_lane_passes_test : (test : ℕ → Bool) (bs : List ℕ) (i w mask k : ℕ)
    → MarksFailingLanes test bs i w mask
    → k < w → is_set_bit mask k ≡ false → test (get_or bs (i + k) 0) ≡ true
clear_lane_passes_test test bs i w mask k m h e =
    unset (test (get_or bs (i + k) 0)) (sym (ap (λ b. eqb b 1) (m.lane k h)) ∙ e)
  where
    unset : (b : Bool) → eqb (cond (not b) 1 0) 1 ≡ false → b ≡ true
    unset true f = refl
    unset false f = sym f

-- sixteen bytes at a time: a lane is set in the mask of a test exactly if its byte passes the test
pub mask_bit_is_test_of_byte : (test : ℕ → Bool) (bs : List ℕ) (i k : ℕ) → i + 16 ≤ length bs
    → k < 16 → is_set_bit (mask_l (map test (chunk i 16 bs))) k ≡ test (get_or bs (i + k) 0)
mask_bit_is_test_of_byte test bs i k room h =
    let v = chunk i 16 bs in
    let ms = map test v in
    let long : length ms ≡ 16 = length-map v test ∙ length-chunk i 16 bs room in
    ap (λ m. eqb m 1) (bit_mask_l ms k ∙ ap (λ b. cond b 1 0) (get_or_default ms k false
    (test 0) (omega (arith, long)) ∙ get_or-map test v k 0 ∙ ap test (get_or-chunk i 16 bs k 0 h)))
    ∙ one_if (test (get_or bs (i + k) 0))
  where
    one_if : (b : Bool) → eqb (cond b 1 0) 1 ≡ b
    one_if true = refl
    one_if false = refl

-- sixteen bytes at a time: a lane is set in the mask exactly if its byte equals the given one
pub mask_bit_is_equality_of_byte : (byte : ℕ) (bs : List ℕ) (i k : ℕ) → i + 16 ≤ length bs → k < 16
    → is_set_bit (mask_l (map (λ b. eqb b byte) (chunk i 16 bs))) k ≡ eqb (get_or bs (i + k) 0) byte
mask_bit_is_equality_of_byte byte bs i k room h = mask_bit_is_test_of_byte
    (λ b. eqb b byte) bs i k room h

-- sixteen bytes at a time: the mask of the lanes that equal a byte has sixteen bits
pub equality_mask_is_below_2_16 : (byte : ℕ) (bs : List ℕ) (i : ℕ) → i + 16 ≤ length bs
    → mask_l (map (λ b. eqb b byte) (chunk i 16 bs)) < 2 ^ 16
equality_mask_is_below_2_16 byte bs i room =
    let ms = map (λ b. eqb b byte) (chunk i 16 bs) in
    subst (λ n. mask_l ms < 2 ^ n)
    (length-map (chunk i 16 bs) (λ b. eqb b byte) ∙ length-chunk i 16 bs room) (mask_l-lt ms)

pub trailing_zeros_is_first_set_lane : (mask : ℕ) → mask < 2 ^ 16 → (mask ≡ 0 → ⊥)
    → (trailing_zeros w64 mask < 16) × (bit_at mask (trailing_zeros w64 mask) ≡ 1)
    × ((k : ℕ) → k < trailing_zeros w64 mask → bit_at mask k ≡ 0)
trailing_zeros_is_first_set_lane mask below some =
    let pos : 0 < mask = pos-from-nonzero mask some in
    let z = bit_at-trailing_zeros w64 mask pos (omega (arith, below)) in
    let set : bit_at mask (trailing_zeros w64 mask) ≡ 1 = z.1 in (
      ⊎_elim (λ (h : trailing_zeros w64 mask < 16). h) (λ (h : 16 ≤ trailing_zeros w64 mask).
          let none = bit_at_above mask 16 (trailing_zeros w64 mask) below h in
          absurd (omega (arith, none, set))) (cases_lt (trailing_zeros w64 mask) 16),
      set,
      z.2,
    )
  where
    pos-from-nonzero : (n : ℕ) → (n ≡ 0 → ⊥) → 0 < n
    pos-from-nonzero zero e = absurd (e refl)
    pos-from-nonzero (suc n) e = omega arith
