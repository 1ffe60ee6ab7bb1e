-- Sixteen bytes without `/`.
use Rattle.uri_ops.proofs.Common.{◌≡◌, ℕ, zero, suc, ◌+◌, ◌<◌, ◌≤◌, false, eqb, List, length, drop, get_or, map, ◌-◌, ◌/◌, ◌%◌, ◌^◌, w64, ⊎_elim, sym, ap, ◌∙◌, arith, drop-cons, bit_at, leading_zeros, cases_lt, eqb-true, or_from, is_set_bit, mask_bit_is_equality_of_byte, has_slash}
use Rattle.std.specs.Simd.Lanes.{mask_l, chunk}
use Rattle.std.proofs.Math.Nat.{pow-suc}
use Rattle.std.proofs.lemmas.Nat.{leading_top}
use Rattle.std.proofs.lemmas.Nat.Bits.{bit_at-suc, bit_at_above, bit_at_lowest}

-- paths: if n bytes from at on have no `/`, and none is after them, none is from at on
run-without-slash-extends-slashless-suffix : (n : ℕ) (bs : List ℕ) (at : ℕ) → at + n ≤ length bs
    → ((k : ℕ) → k < n → eqb (get_or bs (at + k) 0) 47 ≡ false)
    → has_slash (drop (at + n) bs) ≡ false → has_slash (drop at bs) ≡ false
run-without-slash-extends-slashless-suffix zero bs at room each suffix = grind arith
run-without-slash-extends-slashless-suffix (suc n) bs at room each suffix =
    let here : at ≡ at + 0 = omega arith in
    let next : suc at + n ≡ at + suc n = omega arith in
    let first = ap (λ m. eqb (get_or bs m 0) 47) here ∙ each 0 (omega arith) in
    let rest = run-without-slash-extends-slashless-suffix n bs (suc at) (omega (arith, room))
    (λ k h.
    let same : suc at + k ≡ at + suc k = omega arith in
    ap (λ m. eqb (get_or bs m 0) 47) same ∙ each (suc k) (omega (arith, h)))
    (ap (λ m. has_slash (drop m bs)) next ∙ suffix) in
    ap has_slash (drop-cons bs at 0 (omega (arith, room))) ∙ or_from _ _ first rest

-- paths, sixteen bytes at a time: if a block has no `/` (its mask is 0), none is after at,
-- if none is after the block
pub zero-mask-block-extends-slashless-suffix : (bs : List ℕ) (at mask : ℕ) → at + 16 ≤ length bs
    → mask ≡ mask_l (map (λ b. eqb b 47) (chunk at 16 bs)) → mask ≡ 0
    → has_slash (drop (at + 16) bs) ≡ false → has_slash (drop at bs) ≡ false
zero-mask-block-extends-slashless-suffix bs at mask room places none suffix =
    grind (arith, run-without-slash-extends-slashless-suffix, mask_bit_is_equality_of_byte)

highest-bit-is-set : (j n : ℕ) → 2 ^ j ≤ n → n < 2 ^ suc j → bit_at n j ≡ 1
highest-bit-is-set zero n low high =
    let one : n ≡ 1 = omega (arith, low, high) in bit_at_lowest n ∙ ap (λ m. m % 2) one
highest-bit-is-set (suc j) n low high = bit_at-suc n j ∙ highest-bit-is-set j (n
    / 2) (omega (arith, low, pow-suc 2 j)) (omega (arith, high, pow-suc 2 (suc j)))

-- sixteen bytes at a time: the number of leading zeros gives the last lane that is set
pub highest-lane-of-mask : (mask : ℕ) → 0 < mask → mask < 2 ^ 16 → (leading_zeros w64 mask ≤ 63)
    × (63 - leading_zeros w64 mask < 16) × (bit_at mask (63 - leading_zeros w64 mask) ≡ 1)
    × ((k : ℕ) → 63 - leading_zeros w64 mask < k → bit_at mask k ≡ 0)
highest-lane-of-mask mask some below =
    let top = leading_top 64 mask some (omega (arith, below)) in
    let j = top.0 in
    let lane : 63 - leading_zeros w64 mask ≡ j = omega (arith, top.1) in
    let set : bit_at mask j ≡ 1 = highest-bit-is-set j mask top.2 top.3 in
    let within : j < 16 = ⊎_elim (λ (h : j < 16). h)
    (λ (h : 16 ≤ j). let none = bit_at_above mask 16 j below h in
    absurd (omega (arith, none, set))) (cases_lt j 16) in (
      omega (arith, top.1),
      omega (arith, lane, within),
      ap (bit_at mask) lane ∙ set,
      λ k h. bit_at_above mask (suc j) k top.3 (omega (arith, h, lane)),
    )

-- paths, sixteen bytes at a time: the last lane of a block that has a `/` (47) is the last `/`,
-- if none is after the block
pub last-lane-of-block-is-last-slash : (bs : List ℕ) (at mask lane : ℕ) → at + 16 ≤ length bs
    → mask ≡ mask_l (map (λ b. eqb b 47) (chunk at 16 bs)) → lane < 16 → bit_at mask lane ≡ 1
    → ((k : ℕ) → lane < k → bit_at mask k ≡ 0) → has_slash (drop (at + 16) bs) ≡ false
    → (get_or bs (at + lane) 0 ≡ 47) × (has_slash (drop (at + lane + 1) bs) ≡ false)
last-lane-of-block-is-last-slash bs at mask lane room places within set above none =
    let lane_is : (k : ℕ) → k < 16 → eqb (get_or bs (at + k) 0) 47 ≡ eqb (bit_at mask k) 1 = λ k h.
    sym (mask_bit_is_equality_of_byte 47 bs at k room h) ∙ ap (λ m. is_set_bit m k) (sym places) in
    let end : at + lane + 1 + (15 - lane) ≡ at + 16 = omega (arith, within) in (
      eqb-true (get_or bs (at + lane) 0) 47 (lane_is lane within ∙ ap (λ b. eqb b 1) set),
      run-without-slash-extends-slashless-suffix
          (15 - lane) bs (at + lane + 1) (omega (arith, end, room)) (λ k h.
          let same : at + lane + 1 + k ≡ at + (lane + 1 + k) = omega arith in
          ap (λ m. eqb (get_or bs m 0) 47) same
          ∙ lane_is (lane + 1 + k) (omega (arith, h, within)) ∙ ap (λ b. eqb b 1)
          (above (lane + 1 + k) (omega arith))) (ap (λ m. has_slash (drop m bs)) end ∙ none),
    )
