-- Two masks as the sixteen bytes of a vector, and masks of its lanes: no RFC has this.
use Rattle.std.specs.Prelude.{ℕ, Bool, List, [], ◌∷◌, ◌-◌, ◌^◌, ◌%◌, ◌==◌, ◌&&◌, ◌||◌, nat_lt, nat_le, if◌then◌else◌}
use Rattle.std.specs.Int.{bit_at}
use Rattle.std.specs.Simd.Lanes.{number_l, digits_l}

-- the sixteen bytes of two masks of 64 bits, as a vector has them: the lowest byte of the lower
-- mask first
abbrev pub bytes_of_masks : ℕ → ℕ → List ℕ
bytes_of_masks low high = digits_l (2 ^ 8) 16 (number_l (2 ^ 64) (low ∷ high ∷ []))

-- the bit of a character in its byte of a mask: 2 to the power of its code modulo 8, or 0 past
-- ASCII
unfoldable pub bit_in_mask_byte : ℕ → ℕ
bit_in_mask_byte b = if nat_lt b 128 then 2 ^ (b % 8) else 0

-- lane k is one of an octet of three lanes that begins at a lane of this mask
abbrev pub is_lane_of_octet : ℕ → ℕ → Bool
is_lane_of_octet starts k =
    (bit_at starts k == 1 || (nat_le 1 k && bit_at starts (k - 1) == 1))
    || (nat_le 2 k && bit_at starts (k - 2) == 1)
