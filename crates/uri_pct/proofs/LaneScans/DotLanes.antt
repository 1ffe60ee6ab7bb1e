-- The lanes of each `/` that has a `.` or a `%` after it.
use Rattle.uri_pct.proofs.Common.{◌≡◌, ℕ, ◌+◌, ◌<◌, ◌≤◌, Bool, false, eqb, List, map, length, get_or, sym, ap, ◌∙◌, arith, w64, bit_and, bit_or, ◌&&◌, ◌||◌, bit_at, trailing_zeros, mask_l, chunk, and_le_l, bit_at-zero, and_parts, eq-eqb, eqb-true, nat_tests}
use Rattle.uri_pct.proofs.TableSets.Masks.{bit_of_bit_and, bit_of_bit_or}
use Rattle.uri_pct.proofs.LaneScans.LaneBits.{is_set_bit, mask_bit_is_equality_of_byte, equality_mask_is_below_2_16, trailing_zeros_is_first_set_lane}

abbrev mask_of_lanes_equal_to : ℕ → List ℕ → ℕ → ℕ
mask_of_lanes_equal_to byte bs i = mask_l (map (λ b. eqb b byte) (chunk i 16 bs))

-- sixteen bytes at a time: a `/` is at index k, and a `.` or `%` after it
abbrev is_slash_before_dot_or_percent : List ℕ → ℕ → Bool
is_slash_before_dot_or_percent bs k = eqb (get_or bs k 0) 47
    && (eqb (get_or bs (k + 1) 0) 46 || eqb (get_or bs (k + 1) 0) 37)

pub no_slash_dot_where_no_slash : (bs : List ℕ) (i slashes : ℕ) → i + 16 < length bs → slashes
    ≡ mask_of_lanes_equal_to 47 bs i
    → slashes ≡ 0 → (k : ℕ) → k < 16 → is_slash_before_dot_or_percent bs (i + k) ≡ false
no_slash_dot_where_no_slash bs i slashes room s none k h =
    grind (arith, nat_tests, is_set_bit, mask_bit_is_equality_of_byte, bit_at-zero)

module _ (bs : List ℕ) (i : ℕ) (room : i + 16 < length bs) (slashes dots octets : ℕ)
    (s : slashes ≡ mask_of_lanes_equal_to 47 bs i) (d : dots ≡ mask_of_lanes_equal_to 46 bs (i + 1))
    (o : octets ≡ mask_of_lanes_equal_to 37 bs (i + 1)) where
  abbrev slash_dot_mask : ℕ
  slash_dot_mask = bit_and slashes (bit_or dots octets)

  mask_bit_is_slash_dot_at_lane : (k : ℕ) → k < 16 → is_set_bit slash_dot_mask k
      ≡ is_slash_before_dot_or_percent bs (i + k)
  mask_bit_is_slash_dot_at_lane k h =
      let next : i + 1 + k ≡ i + k + 1 = omega arith in
      grind (arith, nat_tests, bit_of_bit_and, mask_bit_is_equality_of_byte, bit_of_bit_or)

  pub no_slash_dot_where_mask_is_zero : slash_dot_mask ≡ 0 → (k : ℕ) → k < 16
      → is_slash_before_dot_or_percent bs (i + k) ≡ false
  no_slash_dot_where_mask_is_zero e k h = sym (mask_bit_is_slash_dot_at_lane k h)
      ∙ ap (λ m. eqb (bit_at m k) 1) e ∙ ap (λ m. eqb m 1) (bit_at-zero k)

  module _ (some : slash_dot_mask ≡ 0 → ⊥) where
    trailing_zeros_is_first_slash_dot_lane : (trailing_zeros w64 slash_dot_mask < 16)
        × (bit_at slash_dot_mask (trailing_zeros w64 slash_dot_mask) ≡ 1)
        × ((k : ℕ) → k < trailing_zeros w64 slash_dot_mask → bit_at slash_dot_mask k ≡ 0)
    trailing_zeros_is_first_slash_dot_lane =
        trailing_zeros_is_first_set_lane slash_dot_mask (omega (
          arith,
          s,
          equality_mask_is_below_2_16 47 bs i (omega (arith, room)),
          and_le_l slashes (bit_or dots octets),
        )) some

    pub first_slash_dot_lane_is_at_most_16 : trailing_zeros w64 slash_dot_mask ≤ 16
    first_slash_dot_lane_is_at_most_16 = omega (arith, trailing_zeros_is_first_slash_dot_lane.0)

    pub no_slash_dot_before_first_lane : (k : ℕ) → k < trailing_zeros w64 slash_dot_mask
        → is_slash_before_dot_or_percent bs (i + k) ≡ false
    no_slash_dot_before_first_lane k h = sym (mask_bit_is_slash_dot_at_lane k
        (omega (arith, h, trailing_zeros_is_first_slash_dot_lane.0)))
        ∙ ap (λ m. eqb m 1) (trailing_zeros_is_first_slash_dot_lane.2 k h)

    pub slash_is_at_first_slash_dot_lane : get_or bs (i + trailing_zeros w64 slash_dot_mask) 0 ≡ 47
    slash_is_at_first_slash_dot_lane = eqb-true _ _
        (and_parts _ _ (sym (mask_bit_is_slash_dot_at_lane (trailing_zeros w64 slash_dot_mask)
        trailing_zeros_is_first_slash_dot_lane.0)
        ∙ eq-eqb _ _ trailing_zeros_is_first_slash_dot_lane.1)).0
