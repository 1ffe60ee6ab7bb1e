use Rattle.uri_pct.proofs.Common.{◌≡◌, ◌≤◌, ℕ, not, eqb, arith, ◌&&◌, nat_le, and-true, nat_tests, has_bit, is_char_byte}
use Rattle.uri_pct.proofs.TableSets.Masks.{has_bit_past_ascii_is_false}
use Rattle.uri_pct.proofs.lanes.is_char_byte.Goals as goal

-- what is past ASCII is in no set
past : (low high b : ℕ) → 128 ≤ b
    → is_char_byte (has_bit low high) b ≡ (nat_le b 237 && not (eqb b 194))
past low high b h = grind (arith, nat_tests, has_bit_past_ascii_is_false, and-true)

pub returns-then-byte-le237 : goal.returns-then-byte-le237
returns-then-byte-le237 c = grind (arith, nat_tests, past)

pub returns-else-byte-le237 : goal.returns-else-byte-le237
returns-else-byte-le237 c = grind (arith, nat_tests, past)
