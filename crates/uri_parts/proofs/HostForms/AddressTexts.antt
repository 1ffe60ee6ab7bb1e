-- The text of an IPv6 address, piece by piece: RFC 5952.
use Rattle.uri_parts.proofs.Common.{◌≡◌, ℕ, ◌/◌, ◌%◌, ◌<◌, ◌≤◌, ◌^◌, Bool, List, [], ◌∷◌, ◌++◌, ltb, length, All, arith, inl, inr, cases_lt, cond, rules, nat_tests, codes, digit_char, decimal, hex, IsAscii, IsUtf8, IsAscii-append, IsUtf8-from_ascii, IsHexOrColon, IsDigitOrDot, All-get_or, get_or_past, bracketed}
use Rattle.std.proofs.lemmas.Fmt.{decimal_digit, decimal_step}

-- writing IPv6: a digit, or nothing for a leading zero
abbrev pub unless_leading : Bool → ℕ → List ℕ
unless_leading leading d = cond leading [] (digit_char d ∷ [])

-- writing IPv6: a group is its hexadecimal digits, without leading zeros
pub hex_has_no_leading_zeros : (n : ℕ) → hex n
    ≡ unless_leading (ltb n 0x1000) (n / 0x1000) ++ (unless_leading (ltb n 0x100) (n / 0x100 % 16)
    ++ (unless_leading (ltb n 0x10) (n / 0x10 % 16) ++ digit_char (n % 16) ∷ []))
unfolding hex
hex_has_no_leading_zeros n = grind (arith, nat_tests)

-- writing IPv6: a number below 1000 is its decimal digits, without leading zeros
pub decimal_has_no_leading_zeros : (n : ℕ) → n < 1000 → decimal n ≡ unless_leading (ltb n 100) (n
    / 100) ++ (unless_leading (ltb n 10) (n / 10 % 10) ++ digit_char (n % 10) ∷ [])
decimal_has_no_leading_zeros n small = elim (cases_lt n 10) [
  | inl one ↦ rw (decimal_digit n one) (grind (arith, nat_tests))
  | inr more ↦ elim (cases_lt n 100) [
    | inl two ↦
        let fits : n < 2 ^ 64 = omega arith in
        let tens : n / 10 < 10 = omega arith in
        rw (decimal_step n more fits, decimal_digit (n / 10) tens) (grind (arith, nat_tests))
    | inr three ↦
        let fits : n < 2 ^ 64 = omega arith in
        let tens : 10 ≤ n / 10 = omega arith in
        let fits_tens : n / 10 < 2 ^ 64 = omega arith in
        let hundreds : n / 10 / 10 < 10 = omega arith in
        let same : n / 10 / 10 ≡ n / 100 = omega arith in
        rw (
          decimal_step n more fits,
          decimal_step (n / 10) tens fits_tens,
          decimal_digit (n / 10 / 10) hundreds,
          same,
        ) (grind (arith, nat_tests))
  ]
]

-- writing IPv6: hexadecimal digits and colons are ASCII
pub hex_is_ascii : (text : List ℕ) → All IsHexOrColon text → IsAscii text
hex_is_ascii text all i = elim (cases_lt i (length text)) [
  | inl inside ↦ elim (All-get_or IsHexOrColon text i 0 inside all) [
    | inl low ↦ omega arith
    | inr high ↦ omega arith
  ]
  | inr past ↦ rw (get_or_past text i 0 past) (omega arith)
]

pub digits_and_dots_are_ascii : (text : List ℕ) → All IsDigitOrDot text → IsAscii text
digits_and_dots_are_ascii text all i = elim (cases_lt i (length text)) [
  | inl inside ↦ elim (All-get_or IsDigitOrDot text i 0 inside all) [
    | inl digit ↦ omega arith
    | inr dot ↦ omega arith
  ]
  | inr past ↦ rw (get_or_past text i 0 past) (omega arith)
]

one_is_ascii : (byte : ℕ) → byte < 128 → IsAscii (byte ∷ [])
one_is_ascii byte small i = search (rules, arith)

-- writing IPv6: what is before the IPv4 address of an IPv4-mapped one is ASCII
pub prefix_of_mapped_is_ascii : IsAscii (codes "::ffff:")
prefix_of_mapped_is_ascii i = search (rules, arith)

-- writing IPv6: an address in brackets is UTF-8
pub bracketed-ascii-is-utf8 : (address : List ℕ) → IsAscii address → IsUtf8 (bracketed address)
bracketed-ascii-is-utf8 address ascii =
    grind (arith, IsUtf8-from_ascii, IsAscii-append, codes, one_is_ascii)
