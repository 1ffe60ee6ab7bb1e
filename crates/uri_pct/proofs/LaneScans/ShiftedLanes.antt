-- Lanes of a mask, which may be shifted right, and what holds where they are clear.
use Rattle.uri_pct.proofs.Common.{◌≡◌, ℕ, ◌+◌, ◌-◌, ◌/◌, ◌%◌, ◌^◌, ◌<◌, ◌≤◌, sym, ap, subst, ◌∙◌, arith, w64, pow_mono, ⊎_elim, bit_at, trailing_zeros, shr-shr, shr_below, bit_at-zero, bit_at_above, cases_lt}
use Rattle.uri_pct.proofs.LaneScans.LaneBits.{trailing_zeros_is_first_set_lane}

-- if a fact holds in two adjacent ranges, it holds in both together
pub adjacent_ranges_join : (holds : ℕ → Type 0) (a m b : ℕ) → ((k : ℕ) → a ≤ k → k < m → holds k)
    → ((k : ℕ) → m ≤ k → k < b → holds k) → (k : ℕ) → a ≤ k → k < b → holds k
adjacent_ranges_join holds a m b low high k from to =
    ⊎_elim (λ (h : k < m). low k from h) (λ (h : m ≤ k). high k h to) (cases_lt k m)

module _ (holds : ℕ → Type 0) (block mask : ℕ) (below : mask < 2 ^ 16)
    (lane : (k : ℕ) → k < 16 → bit_at mask k ≡ 0 → holds (block + k)) where
  clear_lanes_hold : (n : ℕ) → n ≤ 16 → ((k : ℕ) → k < n → bit_at mask k ≡ 0)
      → (x : ℕ) → block ≤ x → x < block + n → holds x
  clear_lanes_hold n room clear x from to =
      let k : ℕ = x - block in
      let e : block + k ≡ x = omega arith in
      subst holds e (lane k (omega arith) (clear k (omega arith)))

  -- all lanes are clear
  pub empty_mask_holds : mask ≡ 0 → (x : ℕ) → block ≤ x → x < block + 16 → holds x
  empty_mask_holds none x from to = clear_lanes_hold 16 (omega arith)
      (λ k h. ap (λ n. bit_at n k) none ∙ bit_at-zero k) x from to

  -- the first lane that is set is one of the block, and those before it are clear
  pub first_set_lane : (mask ≡ 0 → ⊥) → (trailing_zeros w64 mask < 16)
      × ((x : ℕ) → block ≤ x → x < block + trailing_zeros w64 mask → holds x)
  first_set_lane some =
      let f = trailing_zeros_is_first_set_lane mask below some in
      (f.0, clear_lanes_hold (trailing_zeros w64 mask) (omega (arith, f.0)) f.2)

module _ (holds : ℕ → Type 0) (block s mask : ℕ) (few : s ≤ 16) (below : mask < 2 ^ 16)
    (lane : (k : ℕ) → k < 16 → bit_at mask k ≡ 0 → holds (block + k)) where
  clear_shifted_lanes_hold : (n : ℕ) → s + n ≤ 16
      → ((k : ℕ) → k < n → bit_at (mask / 2 ^ s) k ≡ 0)
      → (x : ℕ) → block + s ≤ x → x < block + s + n → holds x
  clear_shifted_lanes_hold n room clear x from to =
      let k : ℕ = x - (block + s) in
      let e : block + (s + k) ≡ x = omega arith in
      subst holds e (lane (s + k) (omega arith)
      (ap (λ m. m % 2) (sym (shr-shr mask s k)) ∙ clear k (omega arith)))

  -- all lanes are clear
  pub empty_shifted_mask_holds : mask / 2 ^ s ≡ 0
      → (x : ℕ) → block + s ≤ x → x < block + 16 → holds x
  empty_shifted_mask_holds none x from to = clear_shifted_lanes_hold
      (16 - s) (omega arith) (λ k h. ap (λ n. bit_at n k) none ∙ bit_at-zero k) x from (omega arith)

  -- the first lane that is set is one of the block, and those before it are clear
  pub first_set_shifted_lane : (mask / 2 ^ s ≡ 0 → ⊥) → (s + trailing_zeros w64 (mask / 2 ^ s) < 16)
      × ((x : ℕ) → block + s ≤ x → x < block + s + trailing_zeros w64 (mask / 2 ^ s) → holds x)
  first_set_shifted_lane some =
      let n = trailing_zeros w64 (mask / 2 ^ s) in
      let f = trailing_zeros_is_first_set_lane (mask / 2 ^ s) (shr_below mask 16 s
      (omega (arith, below, pow_mono {i = 16} {j = 16 + s} (omega arith)))) some in
      let whole : 16 - s + s ≡ 16 = omega arith in
      let narrow : mask / 2 ^ s < 2 ^ (16 - s) =
      shr_below mask (16 - s) s (subst (λ w. mask < 2 ^ w) (sym whole) below) in
      let near : s + n < 16 = grind (arith, bit_at_above) in
      (near, clear_shifted_lanes_hold n (omega (arith, near)) f.2)
