-- The bit of an index after its byte was written.
use Rattle.fluent_uri_c.proofs.Common.{common_steps, ◌≡◌, ◌≢◌, ℕ, ◌/◌, ◌%◌, ◌<◌, List, length, get_or, set, ap, arith, get_or-set_same, bit_of}
use Rattle.std.specs.Int.{bit_at}

-- columns for C: after a byte of validity bits was written, the bit of index i is the one written
pub bit_of-same : (bytes : List ℕ) (i value : ℕ) → i / 8 < length bytes
    → bit_of (set bytes (i / 8) value) i ≡ bit_at value (i % 8)
bit_of-same bytes i value inside =
    ap (λ byte. bit_at byte (i % 8)) (get_or-set_same bytes (i / 8) value 0 inside)

-- columns for C: a byte written for index i leaves the bit of every other index j
pub bit_of-other : (bytes : List ℕ) (i value j : ℕ) → i / 8 < length bytes → j ≢ i
    → ((bit : ℕ) → bit < 8 → bit ≢ i % 8 → bit_at value bit ≡ bit_at (get_or bytes (i / 8) 0) bit)
    → bit_of (set bytes (i / 8) value) j ≡ bit_of bytes j
bit_of-other bytes i value j inside apart kept = grind (arith, common_steps, set)
