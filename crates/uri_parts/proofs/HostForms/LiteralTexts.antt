-- The first characters of an address in brackets, and the digits of one.
use Rattle.uri_parts.proofs.Common.{◌≡◌, ℕ, ◌+◌, ◌<◌, ◌≤◌, true, false, eqb, List, [], ◌∷◌, length, get_or, refl, arith, ◌||◌, codes, IsTrue, IsUtf8, IsCharBoundary, digit_value, IsCharBoundary-after_ascii, and_left, nat_tests, is_one_of, starts, is_ipv_future, eq_true_from_IsTrue}

-- parsing IP literals: 118 and 86 are `v` and `V`, which begin an IPvFuture address
pub byte-118-or-86-is-version-letter : (c : ℕ) → (eqb c 118 || eqb c 86) ≡ true
    → is_one_of (codes "vV") c ≡ true
byte-118-or-86-is-version-letter c e = grind (arith, nat_tests)

-- parsing IP literals: `v` (118) and `V` (86) are ASCII
pub version-letter-byte-is-ascii : (c : ℕ) → (eqb c 118 || eqb c 86) ≡ true → c < 128
version-letter-byte-is-ascii c e = grind (arith, nat_tests)

-- parsing IP literals: a byte that is neither 118 nor 86 is neither `v` nor `V`
other-byte-is-no-version-letter : (c : ℕ) → (eqb c 118 || eqb c 86) ≡ false
    → is_one_of (codes "vV") c ≡ false
other-byte-is-no-version-letter c e = grind (arith, nat_tests)

pub text-without-version-letter-is-no-ipvfuture : (text : List ℕ)
    → (starts 118 text || starts 86 text) ≡ false → is_ipv_future text ≡ false
unfolding is_ipv_future
text-without-version-letter-is-no-ipvfuture [] e = refl
text-without-version-letter-is-no-ipvfuture (letter ∷ rest) e = and_left _ _
    (other-byte-is-no-version-letter letter e)

pub digit-is-ascii : (c radix : ℕ) → radix ≤ 36 → digit_value c < radix → c < 128
digit-is-ascii c radix most h = grind (arith, nat_tests)

-- parsing IP literals: after an ASCII byte at index i, a character begins
pub boundary-after-ascii-byte : (text bytes : List ℕ) (i byte : ℕ) → bytes ≡ text → IsUtf8 text → i
    < length bytes → byte < 128 → IsTrue (eqb (get_or bytes i 0) byte) → IsCharBoundary text (i + 1)
boundary-after-ascii-byte text bytes i byte e u inside ascii h =
    grind (arith, nat_tests, eq_true_from_IsTrue, IsCharBoundary-after_ascii)
