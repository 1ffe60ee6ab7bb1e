-- The value of each digit, entry by entry.
use Rattle.uri_pct.proofs.Common.{◌≡◌, ℕ, zero, suc, ◌<◌, Bool, true, not, ◌&&◌, ◌||◌, eqb, ltb, get_or, refl, subst, digit_value, is_ascii_hexdigit, and_parts, eqb-true, ltb-true, Decides-below_and, DIGIT_VALUES}

abbrev digit_table_entry : ℕ → ℕ
digit_table_entry b = get_or DIGIT_VALUES.now b 0

-- decoding octets: the entry of a byte in the table is its value as a digit, below 16
abbrev is_entry_value_of_digit : ℕ → Bool
is_entry_value_of_digit b = eqb (digit_table_entry b) (digit_value b) && ltb
    (digit_table_entry b) 16

-- decoding octets: the table has the value of each hexadecimal digit below a number
abbrev digit_entries_match_below : ℕ → Bool
digit_entries_match_below zero = true
digit_entries_match_below (suc n) = (not (is_ascii_hexdigit n) || is_entry_value_of_digit n)
    && digit_entries_match_below n

pub hex_digit_entry_is_value : (b : ℕ) → b < 256 → is_ascii_hexdigit b ≡ true
    → (get_or DIGIT_VALUES.now b 0 ≡ digit_value b) × (get_or DIGIT_VALUES.now b 0 < 16)
hex_digit_entry_is_value b small digit =
    let found = (Decides-below_and (λ n. not (is_ascii_hexdigit n) || is_entry_value_of_digit n)
    (λ n. (not (is_ascii_hexdigit n) || is_entry_value_of_digit n) ≡ true) digit_entries_match_below
    (λ n. (λ e. e, λ e. e)) refl (λ _. refl) 256).0 refl b small in
    let is = and_parts _ _ (subst (λ h. (not h || is_entry_value_of_digit b) ≡ true) digit found) in
    (eqb-true _ _ is.0, ltb-true _ _ is.1)
