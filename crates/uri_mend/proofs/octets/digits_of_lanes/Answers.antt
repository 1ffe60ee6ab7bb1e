use Rattle.uri_mend.proofs.Common.{common_steps, arith, ◌≡◌, ◌/◌, ◌%◌, ◌^◌, ◌<◌, ◌||◌, refl, map, length, List, ℕ, [], bit_and, cond, get_or, ltb, true, w8, ◌∷◌, replicate, zip2, chunk, agree_below_at, zip2_splat}
use mir.Val.{zeroes}
use Rattle.std.specs.Fmt.{digit_glyph}
use Rattle.uri_pct.proofs.Offered.{lanes_fit_swizzle, swizzle_is_lookup}
use Rattle.uri_mend.proofs.octets.digits_of_lanes.Goals as goal

digits : List ℕ
digits = 48 ∷ 49 ∷ 50 ∷ 51 ∷ 52 ∷ 53 ∷ 54 ∷ 55 ∷ 56 ∷ 57 ∷ 65 ∷ 66 ∷ 67 ∷ 68 ∷ 69 ∷ 70 ∷ []

module _ (bytes : List ℕ) (at : ℕ) (long : length (chunk at 16 bytes) ≡ 16) where
  -- octets: the upper halves of sixteen bytes
  shifted : zip2 (λ a b. a / 2 ^ b) (chunk at 16 bytes) (replicate 16 4)
      ≡ map (λ b. b / 2 ^ 4) (chunk at 16 bytes)
  shifted = zip2_splat (λ a b. a / 2 ^ b) (chunk at 16 bytes) 16 4 long

  -- octets: the lower halves of sixteen bytes
  masked : zip2 bit_and (chunk at 16 bytes) (replicate 16 15)
      ≡ map (λ b. bit_and b 15) (chunk at 16 bytes)
  masked = zip2_splat bit_and (chunk at 16 bytes) 16 15 long

first-fits : (b : ℕ) → b < 256 → (zeroes 16 w8 (b / 2 ^ 4) || ltb (b / 2 ^ 4) 16) ≡ true
first-fits b h = agree_below_at (λ c. zeroes 16 w8 (c / 2 ^ 4) || ltb (c / 2 ^ 4) 16) (λ c. true)
    256 b refl h

second-fits : (b : ℕ) → b < 256 → (zeroes 16 w8 (bit_and b 15) || ltb (bit_and b 15) 16) ≡ true
second-fits b h = agree_below_at (λ c. zeroes 16 w8 (bit_and c 15) || ltb (bit_and c 15) 16)
    (λ c. true) 256 b refl h

first-is-digit : (b : ℕ) → b < 256
    → cond (zeroes 16 w8 (b / 2 ^ 4)) 0 (get_or digits (b / 2 ^ 4) 0) ≡ digit_glyph true (b / 16)
unfolding digits
first-is-digit b h = grind (arith, digits)

second-is-digit : (b : ℕ) → b < 256
    → cond (zeroes 16 w8 (bit_and b 15)) 0 (get_or digits (bit_and b 15) 0)
    ≡ digit_glyph true (b % 16)
unfolding digits
second-is-digit b h = grind (arith, common_steps, digits)

pub swizzle : goal.swizzle
unfolding digits
swizzle c = grind (arith, shifted, lanes_fit_swizzle, digits, first-fits)

pub swizzle-2 : goal.swizzle-2
unfolding digits
swizzle-2 c = grind (arith, masked, lanes_fit_swizzle, digits, second-fits)

pub returns-clause-first : goal.returns-clause-first
unfolding digits
returns-clause-first c = grind (arith, digits, shifted, swizzle_is_lookup, first-is-digit)

pub returns-clause-second : goal.returns-clause-second
unfolding digits
returns-clause-second c = grind (arith, digits, masked, swizzle_is_lookup, second-is-digit)
