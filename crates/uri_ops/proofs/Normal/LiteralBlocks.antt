-- Blocks of a text by a test of its indices: what a mask of lanes says of those of a block.
use Rattle.uri_ops.proofs.Common.{◌≡◌, ℕ, ◌+◌, ◌-◌, ◌/◌, ◌^◌, ◌<◌, ◌≤◌, Bool, true, not, eqb, ap, sym, ◌∙◌, ◌&&◌, ◌||◌, List, length, map, get_or, bit_and, bit_or, arith, w64, ⊎_elim, subst, pow_mono, bit_at, trailing_zeros, cases_lt, bit_of_right_shift, is_set_bit, equality_mask_is_below_2_16, mask_bit_is_equality_of_byte, is_literal_at, common_steps}
use Rattle.std.specs.Int.Bits.{and_lt}
use Rattle.std.specs.Simd.Lanes.{chunk, mask_l}
use Rattle.std.proofs.lemmas.Nat.{or_lt, shr_below}
use Rattle.std.proofs.lemmas.Nat.Bits.{bit_at_above, bit_at-trailing_zeros}
use Rattle.uri_pct.proofs.Offered.{bit_of_bit_and, bit_of_bit_or}

-- literal blocks: bit k of the mask is set where index i + k fails the test, for w indices
pub record MarksIndices (test : ℕ → Bool) (i w mask : ℕ) : Type 0 where
  pub lane : (k : ℕ) → k < w → is_set_bit mask k ≡ not (test (i + k))
  pub below : mask < 2 ^ w

pub shifted-mask-marks-later-indices : (test : ℕ → Bool) (last i mask : ℕ) → last ≤ i
    → i ≤ last + 16 → MarksIndices test last 16 mask
    → MarksIndices test i (last + 16 - i) (mask / 2 ^ (i - last))
shifted-mask-marks-later-indices test last i mask from near m =
    let s : ℕ = i - last in
    let w : ℕ = last + 16 - i in
    let width : 16 ≡ w + s = omega (arith, from, near) in
    record {
      lane = λ k h.
          let place : last + (s + k) ≡ i + k = omega (arith, from) in
          bit_of_right_shift mask s k ∙ m.lane (s + k) (omega (arith, h, from))
          ∙ ap (λ n. not (test n)) place;
      below = shr_below mask w s (subst (λ n. mask < 2 ^ n) width m.below);
    }

-- literal blocks: the indices of a block, after others that pass the test
module _ (test : ℕ → Bool) (start i w mask : ℕ) (m : MarksIndices test i w mask)
    (passed : (k : ℕ) → start ≤ k → k < i → test k ≡ true) where
  index-of-clear-bit-passes : (k : ℕ) → i ≤ k → k < i + w → bit_at mask (k - i) ≡ 0
      → test k ≡ true
  index-of-clear-bit-passes k from to e = grind arith

  -- all pass if no bit is set
  pub indices-pass-where-mask-is-zero : mask ≡ 0 → (k : ℕ) → start ≤ k → k < i + w → test k ≡ true
  indices-pass-where-mask-is-zero e k from to = grind (arith, index-of-clear-bit-passes)

  module _ (some : 0 < mask) (small : w ≤ 16) where
    first-bit : (trailing_zeros w64 mask < 64) × (bit_at mask (trailing_zeros w64 mask) ≡ 1)
        × ((j : ℕ) → j < trailing_zeros w64 mask → bit_at mask j ≡ 0)
    first-bit = bit_at-trailing_zeros w64 mask some
        (omega (arith, m.below, pow_mono {i = w} {j = 16} small))

    -- the first bit that is set is one of the block
    pub first-bit-is-of-block : trailing_zeros w64 mask < w
    first-bit-is-of-block =
        ⊎_elim (λ (h : trailing_zeros w64 mask < w). h) (λ (h : w ≤ trailing_zeros w64 mask).
        let none = bit_at_above mask w (trailing_zeros w64 mask) m.below h in
        absurd (omega (arith, none, first-bit.1))) (cases_lt (trailing_zeros w64 mask) w)

    -- the indices before it pass
    pub indices-before-first-bit-pass : (k : ℕ) → start ≤ k → k < i + trailing_zeros w64 mask
        → test k ≡ true
    indices-before-first-bit-pass k from to = ⊎_elim (λ (h : k < i). passed k from h)
        (λ (h : i ≤ k). index-of-clear-bit-passes k h (omega (arith, to, first-bit-is-of-block))
        (first-bit.2 (k - i) (omega (arith, h, to)))) (cases_lt k i)

special-is-not-literal : (special slash dot : Bool) → (special || (slash && dot))
    ≡ not (not special && not (dot && slash))
special-is-not-literal special slash dot = grind (arith, common_steps)

-- literal blocks: the masks of a block of a text: of `%`, of the byte E2, of dots, and of a `/`
-- before each byte
module _ (bs : List ℕ) (at percents leads slashes dots : ℕ) (later : 0 < at)
    (room : at + 16 ≤ length bs)
    (of_percents : percents ≡ mask_l (map (λ b. eqb b 37) (chunk at 16 bs)))
    (of_leads : leads ≡ mask_l (map (λ b. eqb b 0xE2) (chunk at 16 bs)))
    (of_slashes : slashes ≡ mask_l (map (λ b. eqb b 47) (chunk (at - 1) 16 bs)))
    (of_dots : dots ≡ mask_l (map (λ b. eqb b 46) (chunk at 16 bs))) where
  -- they mark the indices that are not literal
  pub special-lanes-are-not-literal : (k : ℕ) → k < 16
      → is_set_bit (bit_or (bit_or percents leads) (bit_and slashes dots)) k
      ≡ not (is_literal_at bs (at + k))
  special-lanes-are-not-literal k h =
      let b = get_or bs (at + k) 0 in
      let before = get_or bs (at + k - 1) 0 in
      let place : at - 1 + k ≡ at + k - 1 = omega (arith, later) in
      let percent : is_set_bit percents k ≡ eqb b 37 = ap (λ m. is_set_bit m k) of_percents
      ∙ mask_bit_is_equality_of_byte 37 bs at k room h in
      let lead : is_set_bit leads k ≡ eqb b 0xE2 = ap (λ m. is_set_bit m k) of_leads
      ∙ mask_bit_is_equality_of_byte 0xE2 bs at k room h in
      let slash : is_set_bit slashes k ≡ eqb before 47 = ap (λ m. is_set_bit m k) of_slashes
      ∙ mask_bit_is_equality_of_byte 47 bs (at - 1) k (omega (arith, room)) h
      ∙ ap (λ i. eqb (get_or bs i 0) 47) place in
      let dot : is_set_bit dots k ≡ eqb b 46 = ap (λ m. is_set_bit m k) of_dots
      ∙ mask_bit_is_equality_of_byte 46 bs at k room h in
      let special = bit_of_bit_or percents leads k ∙ (λ i. percent i || lead i) in
      let after = bit_of_bit_and slashes dots k ∙ (λ i. slash i && dot i) in
      bit_of_bit_or (bit_or percents leads) (bit_and slashes dots) k
      ∙ (λ i. special i || after i)
      ∙ special-is-not-literal (eqb b 37 || eqb b 0xE2) (eqb before 47) (eqb b 46)

  -- and no others
  pub special-mask-is-below : bit_or (bit_or percents leads) (bit_and slashes dots) < 2 ^ 16
  special-mask-is-below = or_lt 16 (bit_or percents leads) (bit_and slashes dots) (or_lt 16 percents
      leads (subst (λ m. m < 2 ^ 16) (sym of_percents) (equality_mask_is_below_2_16 37 bs at room))
      (subst (λ m. m < 2 ^ 16) (sym of_leads) (equality_mask_is_below_2_16 0xE2 bs at room)))
      (and_lt 16 slashes dots (subst (λ m. m < 2 ^ 16)
      (sym of_slashes) (equality_mask_is_below_2_16 47 bs (at - 1) (omega (arith, room))))
      (subst (λ m. m < 2 ^ 16) (sym of_dots) (equality_mask_is_below_2_16 46 bs at room)))
