-- Hexadecimal digits by a table, and how many of them a text begins with.
use Rattle.uri_parts.proofs.Common.{◌≡◌, ℕ, zero, suc, ◌+◌, ◌<◌, ◌≤◌, min, Bool, true, ◌&&◌, List, get_or, refl, arith, eqb, ◌≢◌, ◌*◌, drop, get_or-drop, length-take-le, lit≤, eqb-true, Decides-below_and, nat_tests, digits_more, digits_value-lt, digits_value_more, get_or_past, digit_value, AreLeadingHexDigits, BeginsNumber}
use Rattle.std.proofs.Math.Nat.{pow-le-pow_right}
use Rattle.uri_parts.specs.declared.address_parser.TheConstants.{DIGIT_VALUES}

-- parsing IPv6: the table's entry of a byte is its value as a digit, or 16
abbrev is_value : ℕ → Bool
is_value b = eqb (get_or DIGIT_VALUES.now b 0) (min (digit_value b) 16)

-- parsing IPv6: the table's entries are right for each byte below a number
abbrev are_values : ℕ → Bool
are_values zero = true
are_values (suc n) = is_value n && are_values n

pub table-entry-is-digit-value : (b : ℕ) → b < 256 → get_or DIGIT_VALUES.now b 0
    ≡ min (digit_value b) 16
table-entry-is-digit-value b small = eqb-true _ _ ((Decides-below_and is_value (λ n. is_value n
    ≡ true) are_values (λ n. (λ e. e, λ e. e)) refl (λ _. refl) 256).0 refl b small)

pub three-digits-are-below-4096 : (text : List ℕ) (count value : ℕ) → BeginsNumber text count value
    → count < 4 → value < 4096
three-digits-are-below-4096 text count value h few =
    grind (arith, nat_tests, digits_value-lt, length-take-le, pow-le-pow_right)

-- parsing IPv6: a digit after those at the start makes one more
pub next-digit-extends-number : (text : List ℕ) (start count value byte digit : ℕ)
    → BeginsNumber (drop start text) count value → byte ≡ get_or text (start + count) 0
    → digit ≡ min (digit_value byte) 16 → digit ≢ 16
    → BeginsNumber (drop start text) (count + 1) (value * 16 + digit)
next-digit-extends-number text start count value byte digit h at of other =
    grind (arith, nat_tests, get_or-drop, digits_more, digits_value_more, get_or_past, lit≤)

-- parsing IPv6: the digits that come first end at a byte that is no digit
pub number-ends-at-other-byte : (text : List ℕ) (start count value byte digit : ℕ)
    → BeginsNumber (drop start text) count value → byte ≡ get_or text (start + count) 0
    → digit ≡ min (digit_value byte) 16 → digit ≡ 16 → count ≤ 5
    → AreLeadingHexDigits (drop start text) count
number-ends-at-other-byte text start count value byte digit h at of none few =
    grind (arith, nat_tests, get_or-drop)

-- parsing IPv6: five digits are enough to count, as a group has four at most
pub five-digits-are-leading-digits : (text : List ℕ) (value : ℕ) → BeginsNumber text 5 value
    → AreLeadingHexDigits text 5
five-digits-are-leading-digits text value h = grind (arith, nat_tests)
