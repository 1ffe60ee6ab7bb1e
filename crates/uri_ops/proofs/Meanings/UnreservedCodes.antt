-- The unreserved characters, entry by entry, and one that is written.
use Rattle.uri_ops.proofs.Common.{◌≡◌, ℕ, ◌<◌, ◌≤◌, Bool, true, false, List, [], ◌∷◌, cond, eqb, get_or, refl, arith, append-nil, encode_utf8, agree_below_at, eqb-true, lowercase_ascii, nat_tests, decode_octet, is_unreserved, Octet, print, lowered_if, lowered_code_if, common_steps}
use Rattle.uri_ops.specs.declared.normalize.octets.TheConstants.{LOWERED_CODES, UNRESERVED_CODES}

-- meanings, decoded by a table: the constant with the code of each byte that is unreserved
abbrev pub code_table : Bool → List ℕ
code_table lowers = cond lowers LOWERED_CODES.now UNRESERVED_CODES.now

-- meanings, decoded by a table: the entry of the byte is its code if it is unreserved, and else 128
abbrev is_entry : Bool → ℕ → Bool
is_entry lowers b =
    eqb (get_or (code_table lowers) b 0) (cond (is_unreserved b) (lowered_code_if lowers b) 128)

-- meanings, decoded by a table: each entry passes the test of entries; lowers: whether letters are
-- lowered
code_table-entries-pass-test : (lowers : Bool) (b : ℕ) → b < 256 → is_entry lowers b ≡ true
code_table-entries-pass-test true b small = agree_below_at (is_entry true)
    (λ _. true) 256 b refl small
code_table-entries-pass-test false b small = agree_below_at (is_entry false)
    (λ _. true) 256 b refl small

-- meanings, decoded by a table: an entry is the code of an unreserved character, and else 128
code_table-entry-of-byte : (lowers : Bool) (b : ℕ) → b < 256
    → get_or (code_table lowers) b 0 ≡ cond (is_unreserved b) (lowered_code_if lowers b) 128
code_table-entry-of-byte lowers b small = eqb-true _ _
    (code_table-entries-pass-test lowers b small)

pub ascii-entry-is-unreserved : (lowers : Bool) (b : ℕ) → b < 256 → get_or (code_table lowers) b 0
    < 128 → (get_or (code_table lowers) b 0 ≡ lowered_code_if lowers b) × (is_unreserved b ≡ true)
ascii-entry-is-unreserved lowers b small ascii = grind (arith, nat_tests, code_table-entry-of-byte)

pub lowered-code-of-ascii-is-ascii : (lowers : Bool) (b : ℕ) → b < 128
    → lowered_code_if lowers b < 128
lowered-code-of-ascii-is-ascii lowers b small = grind (arith, common_steps, lowercase_ascii)

pub entry-past-ascii-is-not-unreserved : (lowers : Bool) (b : ℕ)
    → b < 256 → 128 ≤ get_or (code_table lowers) b 0 → is_unreserved b ≡ false
entry-past-ascii-is-not-unreserved lowers b small past =
    grind (arith, nat_tests, code_table-entry-of-byte, lowered-code-of-ascii-is-ascii)

-- meanings, decoded: the octet of an unreserved character is written as the character, in lower
-- case if lowers
pub unreserved-octet-prints-its-code : (lowers : Bool) (value : ℕ) → is_unreserved value ≡ true
    → print (lowered_if lowers (decode_octet (Octet value) ∷ []))
    ≡ encode_utf8 (lowered_code_if lowers value)
unreserved-octet-prints-its-code lowers value e = grind (arith, common_steps, append-nil)
