-- Two words as the sixteen bytes of a vector, and the lanes of a load that have no bit in them.
use Rattle.uri_pct.proofs.Common.{◌≡◌, ℕ, zero, suc, ◌+◌, ◌-◌, ◌*◌, ◌/◌, ◌%◌, ◌^◌, ◌<◌, ◌≤◌, min, true, false, not, cond, eqb, List, [], ◌∷◌, map, length, get_or, replicate, refl, sym, ap, ◌∙◌, arith, ⊎_elim, w8, bit_and, Fits, ◌||◌, T, ltb, bit_at, zip2, mask_l, top, digits_l, Each1, shr-shr, and_mask, pow_pos, bit_at-lt, bit_at_and, bit_at_ones, bit_at_cat_low, bit_at_cat_high, and_pow, swz_l, SwzOk, SwzOk-from_Each1, Each1-from_get_or, Each1-get_or, length-swz_l, get_or-swz_l, zip2_of_maps, bitmask_splat, map-map, cases_lt, cond-true, cond-false, lt-ltb, le-ltb, ne_eqb, agree_below_at, eqb-true, ext_get_or, length-map, get_or-map, has_bit, bytes_of_masks, bit_in_mask_byte}
use mir.Val.{zeroes}
use Rattle.std.specs.Int.Bits.{and_zero_r}
use Rattle.std.proofs.lemmas.Grind.{get_or_default_zero}
use Rattle.uri_pct.proofs.TableSets.Masks.{has_bit_below_64_is_bit_of_low, has_bit_from_64_is_bit_of_high, has_bit_past_ascii_is_false}

byte_of_number_is_its_eight_bits : (n x j : ℕ) → j < n → get_or (digits_l (2 ^ 8) n x) j 0
    ≡ x / 2 ^ (8 * j) % 2 ^ 8
byte_of_number_is_its_eight_bits zero x j h = absurd (omega arith)
byte_of_number_is_its_eight_bits (suc n) x zero h = ap (λ y. y % 2 ^ 8) (omega arith)
byte_of_number_is_its_eight_bits (suc n) x (suc j) h =
    let e : 8 + 8 * j ≡ 8 * suc j = omega arith in
    byte_of_number_is_its_eight_bits n (x / 2 ^ 8) j (omega arith)
    ∙ ap (λ y. y % 2 ^ 8) (shr-shr x 8 (8 * j) ∙ ap (λ k. x / 2 ^ k) e)

bit_of_byte_is_bit_of_number : (x j k : ℕ) → k < 8 → bit_at (x / 2 ^ (8 * j) % 2 ^ 8) k
    ≡ bit_at x (8 * j + k)
bit_of_byte_is_bit_of_number x j k h =
    let m : ℕ = x / 2 ^ (8 * j) in
    let l : bit_at m k < 2 = bit_at-lt m k in
    ap (λ y. bit_at y k) (sym (and_mask m 8)) ∙ bit_at_and m (2 ^ 8 - 1) k
    ∙ ap (λ b. min (bit_at m k) b) (bit_at_ones 8 k h) ∙ omega arith
    ∙ ap (λ y. y % 2) (shr-shr x (8 * j) k)

-- sixteen bytes at a time: the bit of an ASCII character in the two words as one number
has_bit_is_bit_of_joined_masks : (low high c : ℕ) → low < 2 ^ 64 → c < 128
    → has_bit low high c ≡ eqb (bit_at (low + 2 ^ 64 * high) c) 1
has_bit_is_bit_of_joined_masks low high c fits below =
    let turned : high * 2 ^ 64 + low ≡ low + 2 ^ 64 * high = omega arith in
    ⊎_elim (λ (h : c < 64). has_bit_below_64_is_bit_of_low low high c h
    ∙ ap (λ b. eqb b 1) (sym (bit_at_cat_low high 64 low c h) ∙ ap (λ n. bit_at n c) turned))
    (λ (h : 64 ≤ c). has_bit_from_64_is_bit_of_high low high c h below
    ∙ ap (λ b. eqb b 1) (sym (bit_at_cat_high high 64 low c fits h) ∙ ap (λ n. bit_at n c) turned))
    (cases_lt c 64)

-- sixteen bytes at a time, bits: a bit times a power of two is zero exactly if the bit is
shifted_bit_is_zero_iff_clear : (b k : ℕ) → b < 2 → eqb (b * 2 ^ k) 0 ≡ not (eqb b 1)
shifted_bit_is_zero_iff_clear zero k h = let e : 0 * 2 ^ k ≡ 0 = omega arith in ap (λ x. eqb x 0) e
shifted_bit_is_zero_iff_clear (suc zero) k h = let l : 0 < 2 ^ k = pow_pos k in
    ne_eqb (1 * 2 ^ k) 0 (λ (e : 1 * 2 ^ k ≡ 0). omega arith)
shifted_bit_is_zero_iff_clear (suc (suc b)) k h = absurd (omega arith)

and_with_zero_is_zero : (n k : ℕ) → k ≡ 0 → eqb (bit_and n k) 0 ≡ true
and_with_zero_is_zero n k e = rw e (ap (λ x. eqb x 0) (and_zero_r n))

-- sixteen bytes at a time: a byte's bit is not in the bytes of
-- a table exactly if the table lacks it
mask_byte_lacks_bit_iff_char_is_outside : (low high b : ℕ) → low < 2 ^ 64
    → eqb (bit_and (get_or (bytes_of_masks low high) (b / 8 % 16) 0) (bit_in_mask_byte b)) 0
    ≡ not (has_bit low high b)
unfolding bit_in_mask_byte
mask_byte_lacks_bit_iff_char_is_outside low high b fits = ⊎_elim (λ (below : b < 128).
    let n : ℕ = low + 2 ^ 64 * high in
    let j : ℕ = b / 8 % 16 in
    let k : ℕ = b % 8 in
    let place : 8 * j + k ≡ b = omega arith in
    let byte : get_or (bytes_of_masks low high) j 0 ≡ n / 2 ^ (8 * j) % 2 ^ 8 =
    ap (λ m. get_or (digits_l (2 ^ 8) 16 m) j 0) (omega arith)
    ∙ byte_of_number_is_its_eight_bits 16 n j (omega arith) in
    ap (λ x. eqb (bit_and (get_or (bytes_of_masks low high) j 0) x) 0) (cond-true _ _ _
    (lt-ltb b 128 below))
    ∙ ap (λ x. eqb x 0) (ap (λ y. bit_and y (2 ^ k)) byte ∙ and_pow (n / 2 ^ (8 * j) % 2 ^ 8) k)
    ∙ shifted_bit_is_zero_iff_clear _ k (bit_at-lt (n / 2 ^ (8 * j) % 2 ^ 8) k)
    ∙ ap (λ x. not (eqb x 1)) (bit_of_byte_is_bit_of_number n j k (omega arith)
    ∙ ap (bit_at n) place) ∙ ap not (sym (has_bit_is_bit_of_joined_masks low high b fits below)))
    (λ (past : 128 ≤ b). and_with_zero_is_zero _ _ (cond-false _ _ _ (le-ltb b 128 past))
    ∙ ap not (sym (has_bit_past_ascii_is_false low high b past))) (cases_lt b 128)

-- positions computed lane by lane, and what is there
module _ (xs v : List ℕ) (f g : ℕ → ℕ) (long : length v ≡ 16) (fits : Each1 (Fits w8) v) where
  mapped_lane : (i : ℕ) → i < 16 → get_or (map f v) i 0 ≡ f (get_or v i 0)
  mapped_lane i h = sym (get_or_default_zero (map f v) i (f 0) (omega (arith, length-map v f)))
      ∙ get_or-map f v i 0

  lane_is_below_256 : (i : ℕ) → i < 16 → get_or v i 0 < 256
  lane_is_below_256 i h = (Each1-get_or (Fits w8) v i 0 (omega arith) fits).fits

  pub lanes_fit_swizzle : ((b : ℕ) → b < 256 → (zeroes 16 w8 (f b) || ltb (f b) 16) ≡ true)
      → SwzOk w8 16 16 0 (map f v)
  lanes_fit_swizzle ok = SwzOk-from_Each1 w8 16 1 16 0 _ refl
      (omega (arith, length-map v f)) (Each1-from_get_or (λ j. T (zeroes 16 w8 j || ltb j 16))
      (map f v) 0 (grind (arith, length-map, mapped_lane, lane_is_below_256)))

  pub swizzle_is_lookup : ((b : ℕ) → b < 256 → cond (zeroes 16 w8 (f b)) 0 (get_or xs (f b) 0)
      ≡ g b) → swz_l w8 16 xs 0 (map f v) ≡ map g v
  swizzle_is_lookup is =
      let both = length-swz_l w8 16 xs 0 (map f v) ∙ length-map v f in
      ext_get_or 0 _ _ (both ∙ sym (length-map v g)) (λ i inside.
      let h : i < 16 = omega (arith, both) in
      get_or-swz_l w8 16 xs 0 (map f v) i (omega (arith, length-map v f))
      ∙ ap (λ j. cond (zeroes 16 w8 (get_or (map f v) i 0)) 0 (get_or xs j 0)) (omega arith)
      ∙ ap (λ j. cond (zeroes 16 w8 j) 0 (get_or xs j 0)) (mapped_lane i h)
      ∙ is (get_or v i 0) (lane_is_below_256 i h) ∙ sym (sym (get_or_default_zero (map g v) i
      (g 0) (omega (arith, length-map v g))) ∙ get_or-map g v i 0))

-- indices below 16, and what is there
module _ (xs is : List ℕ) (long : length is ≡ 16)
    (small : (i : ℕ) → i < 16 → get_or is i 0 < 16) where
  pub small_indices_fit_swizzle : SwzOk w8 16 16 0 is
  small_indices_fit_swizzle =
      SwzOk-from_Each1 w8 16 1 16 0 _ refl (omega (arith, long))
      (Each1-from_get_or (λ j. T (zeroes 16 w8 j || ltb j 16)) is 0 (grind arith))

  pub swizzle_by_small_indices_is_lookup : swz_l w8 16 xs 0 is ≡ map (λ i. get_or xs i 0) is
  swizzle_by_small_indices_is_lookup =
      let g : ℕ → ℕ = λ i. get_or xs i 0 in
      let both = length-swz_l w8 16 xs 0 is ∙ long in
      ext_get_or 0 _ _ (both ∙ sym (length-map is g ∙ long)) (λ i inside.
      let h : i < 16 = omega (arith, both) in
      get_or-swz_l w8 16 xs 0 is i (omega (arith, long))
      ∙ ap (λ j. cond (zeroes 16 w8 (get_or is i 0)) 0 (get_or xs j 0)) (omega arith) ∙ cond-false
      _ _ _ (agree_below_at (zeroes 16 w8) (λ c. false) 16 (get_or is i 0) refl (small i h))
      ∙ sym (sym (get_or_default_zero (map g is) i (g 0) (omega (arith, length-map is g)))
      ∙ get_or-map g is i 0))

-- sixteen bytes at a time: the indices by which bytes are looked up are below 16
pub index_of_mask_byte_is_small : (v is : List ℕ) → is ≡ map (λ b. b / 8 % 16) v → (i : ℕ)
    → get_or is i 0 < 16
index_of_mask_byte_is_small v is e i =
    let there : get_or is i 0 ≡ get_or v i 0 / 8 % 16 = ap (λ l. get_or l i 0) e
    ∙ get_or-map (λ b. b / 8 % 16) v i 0 in
    omega (arith, there)

-- sixteen bytes at a time: an index into the vector of bits is below 16, or has bit 7 set,
-- for which the vector gives 0
pub bit_index_fits_swizzle : (b : ℕ) → b < 256
    → (zeroes 16 w8 (bit_and b 143) || ltb (bit_and b 143) 16) ≡ true
bit_index_fits_swizzle b h = agree_below_at
    (λ c. zeroes 16 w8 (bit_and c 143) || ltb (bit_and c 143) 16) (λ c. true) 256 b refl h

-- sixteen bytes at a time: the vector that has the bit of a byte by its four lowest bits
abbrev pub swizzle_bits : List ℕ
swizzle_bits = 1 ∷ 2 ∷ 4 ∷ 8 ∷ 16 ∷ 32 ∷ 64 ∷ 128 ∷ 1 ∷ 2 ∷ 4 ∷ 8 ∷ 16 ∷ 32 ∷ 64 ∷ 128 ∷ []

-- sixteen bytes at a time: a vector gives the bit that a byte has in the mask of a table
pub swizzle_reads_bit_of_byte : (b : ℕ) → b < 256 → cond (zeroes 16 w8
    (bit_and b 143)) 0 (get_or swizzle_bits (bit_and b 143) 0) ≡ bit_in_mask_byte b
unfolding bit_in_mask_byte
swizzle_reads_bit_of_byte b h =
    eqb-true _ _ (agree_below_at (λ c. eqb (cond (zeroes 16 w8 (bit_and c 143)) 0
    (get_or swizzle_bits (bit_and c 143) 0)) (bit_in_mask_byte c)) (λ c. true) 256 b refl h)

-- sixteen bytes at a time: the mask marks the lanes whose characters are not in the set
pub swizzle_mask_is_outside_set : (low high : ℕ) (v : List ℕ) → length v ≡ 16
    → low < 2 ^ 64 → mask_l (map (top 7) (zip2 (λ a b. cond (eqb a b) 255 0) (zip2 bit_and
    (map (λ b. get_or (bytes_of_masks low high) (b / 8 % 16) 0) v) (map bit_in_mask_byte v))
    (replicate 16 0))) % 2 ^ 64 ≡ mask_l (map (λ b. not (has_bit low high b)) v)
swizzle_mask_is_outside_set low high v long fits =
    let mapped_lane : ℕ → ℕ = λ b. get_or (bytes_of_masks low high) (b / 8 % 16) 0 in
    let m : ℕ → ℕ = λ b. bit_and (mapped_lane b) (bit_in_mask_byte b) in
    ap (λ l. mask_l (map (top 7) (zip2 (λ a b. cond (eqb a b) 255 0) l (replicate 16 0)))
    % 2 ^ 64) (zip2_of_maps bit_and mapped_lane bit_in_mask_byte v refl refl) ∙ bitmask_splat w8 eqb
    (map m v) 16 0 (length-map v m ∙ long) (omega arith) ∙ ap mask_l (map-map (λ x. eqb x 0) m v)
    ∙ ap (λ f. mask_l (map f v)) (λ i b. mask_byte_lacks_bit_iff_char_is_outside low high b fits i)
