-- What is next at a position in a text.
use Rattle.uri_parts.proofs.Common.{◌≡◌, ℕ, ◌+◌, ◌<◌, ◌≤◌, true, false, eqb, ltb, List, [], ◌∷◌, length, get_or, drop, refl, sym, ap, ◌∙◌, arith, ◌&&◌, ◌||◌, ⊎_elim, codes, cases_lt, cond-false, eq-eqb, ne_eqb, drop_more, drop_all, drop-drop, nat_tests, TableSet, is_one_of, valid_prefix, after, nothing_is_scanned_after_valid_prefix, unscanned_percent_has_no_hex_digits, starts, is_end, Kind, is_empty_or_begins_with_any, name_and_port_length, port_length}
use Rattle.uri_pct.specs.Texts.{IsStrayPercent}

-- parsing: what is left from index i begins with a byte exactly if this is the byte at i
pub starts_at_position : (mark i : ℕ) (text : List ℕ)
    → starts mark (drop i text) ≡ (ltb i (length text) && eqb (get_or text i 0) mark)
starts_at_position mark i text = grind (arith, nat_tests, drop_more, drop_all)

-- parsing: a `%` (37) at which a scan ends, at n, begins no octet
pub stray_percent_ends_scan : (set : TableSet) (text : List ℕ) (i n : ℕ) → set.pct_encoded ≡ true
    → n ≡ i + valid_prefix set (drop i text) → n < length text → get_or text n 0 ≡ 37
    → IsStrayPercent text n
stray_percent_ends_scan set text i n o e h p =
    grind (
      arith,
      drop-drop (valid_prefix set (drop i text)) i text,
      unscanned_percent_has_no_hex_digits,
      nothing_is_scanned_after_valid_prefix set (drop i text),
    )

-- parsing: nothing is left exactly where the position is the length
pub text_ends_where_position_is_length : (i : ℕ) (text : List ℕ) → i ≤ length text
    → is_end (drop i text) ≡ eqb i (length text)
unfolding is_end
text_ends_where_position_is_length i text l = ⊎_elim (λ h. ap is_end (drop_more text i 0 h)
    ∙ sym (ne_eqb i (length text) (λ e. omega arith))) (λ h. ap is_end (drop_all i text h)
    ∙ sym (eq-eqb i (length text) (omega arith))) (cases_lt i (length text))

-- parsing: an authority ends at `/` (47), `?` (63) or `#` (35)
authority-ends-at-slash-question-or-hash : (b : ℕ) → is_one_of (codes "/?#") b
    ≡ ((eqb b 47 || eqb b 63) || eqb b 35)
authority-ends-at-slash-question-or-hash b = grind (arith, nat_tests)

pub authority_may_end_at_end : (i : ℕ) (text : List ℕ) → length text ≤ i
    → is_empty_or_begins_with_any (codes "/?#") (drop i text) ≡ true
unfolding is_empty_or_begins_with_any
authority_may_end_at_end i text h = ap (is_empty_or_begins_with_any (codes "/?#"))
    (drop_all i text h)

-- parsing: an authority may end at `/` (47), `?` (63) or `#` (35)
pub authority_may_end_at_byte : (i : ℕ) (text : List ℕ) → i < length text
    → is_empty_or_begins_with_any (codes "/?#") (drop i text)
    ≡ ((eqb (get_or text i 0) 47 || eqb (get_or text i 0) 63) || eqb (get_or text i 0) 35)
unfolding is_empty_or_begins_with_any
authority_may_end_at_byte i text h = ap (is_empty_or_begins_with_any (codes "/?#"))
    (drop_more text i 0 h) ∙ authority-ends-at-slash-question-or-hash (get_or text i 0)

-- parsing: an authority may end where `/` (47) is next
pub authority_may_end_at_slash : (rest : List ℕ) → starts 47 rest ≡ true
    → is_empty_or_begins_with_any (codes "/?#") rest ≡ true
unfolding is_empty_or_begins_with_any
authority_may_end_at_slash [] e = refl
authority_may_end_at_slash (b ∷ rest) e = authority-ends-at-slash-question-or-hash b
    ∙ ap (λ t. (t || eqb b 63) || eqb b 35) e

-- parsing: what ends an authority is no colon (58)
mark-after-authority-is-no-colon : (b : ℕ) → is_one_of (codes "/?#") b ≡ true → eqb b 58 ≡ false
mark-after-authority-is-no-colon b e = grind (arith, nat_tests)

no-port-where-authority-may-end : (rest : List ℕ)
    → is_empty_or_begins_with_any (codes "/?#") rest ≡ true → port_length rest ≡ 0
unfolding is_empty_or_begins_with_any port_length
no-port-where-authority-may-end [] e = refl
no-port-where-authority-may-end (b ∷ rest) e =
    cond-false _ _ _ (mark-after-authority-is-no-colon b e)

pub name_has_no_port_where_authority_may_end : (kind : Kind) (rest : List ℕ)
    → is_empty_or_begins_with_any (codes "/?#") (after kind.reg_name rest) ≡ true
    → name_and_port_length kind rest ≡ valid_prefix kind.reg_name rest
unfolding name_and_port_length
name_has_no_port_where_authority_may_end kind rest e =
    omega (arith, no-port-where-authority-may-end (after kind.reg_name rest) e)
