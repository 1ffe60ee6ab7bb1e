-- Sets as two masks and three flags.
use Rattle.uri_pct.proofs.Common.{◌≡◌, ℕ, ◌^◌, ◌<◌, Bool, true, false, not, eqb, refl, sym, ap, arith, bit_or, ◌&&◌, ◌||◌, All, List, get_or, and_le_r, ne_eqb, list_any_none, AllPass-from_list_all, list_all, TableSet, difference, IsSubset, is_one_of, has_bit, is_unencoded_ascii, empty_set, nat_tests}
use Rattle.std.specs.Int.Bits.{or_add_and}
use Rattle.uri_pct.proofs.TableSets.Masks.{has_bit-zero-masks, low_mask_without_bits_is_zero, high_mask_without_bits_is_zero}

-- tables: the set of the characters that pass a test, with three flags
abbrev pub record_set : (ℕ → Bool) → Bool → Bool → Bool → TableSet
record_set test pct_encoded ucschar iprivate =
    record { ascii = test; pct_encoded = pct_encoded; ucschar = ucschar; iprivate = iprivate }

-- sets: two are equal if their tests agree everywhere, and their flags are the same
pub sets_equal_by_agreement : (test test' : ℕ → Bool) (pct_encoded ucschar iprivate : Bool)
    → ((c : ℕ) → test c ≡ test' c)
    → record_set test pct_encoded ucschar iprivate ≡ record_set test' pct_encoded ucschar iprivate
sets_equal_by_agreement test test' pct_encoded ucschar iprivate same =
    λ i. record_set (λ c. same c i) pct_encoded ucschar iprivate

-- general fact on booleans, for subsets: if `a` without `b` is nothing, `a` implies `b`
second_is_true_if_and_not_is_false : (a b : Bool) → (a && not b) ≡ false → a ≡ true → b ≡ true
second_is_true_if_and_not_is_false true true e h = refl
second_is_true_if_and_not_is_false true false e h = sym e
second_is_true_if_and_not_is_false false b e h = absurd (cc)

-- general fact on booleans, for differences of sets
and_not_is_false_if_first_implies_second : (a b : Bool) → (a ≡ true → b ≡ true)
    → (a && not b) ≡ false
and_not_is_false_if_first_implies_second true b h = ap not (h refl)
and_not_is_false_if_first_implies_second false b h = refl

-- tables: a set is within another if it has nothing that the other lacks
pub subset_if_difference_is_empty : (s t : TableSet) → difference s t ≡ empty_set → IsSubset s t
subset_if_difference_is_empty s t e = record {
  ascii = λ c. second_is_true_if_and_not_is_false (s.ascii c) (t.ascii c)
      (ap (λ (r : TableSet). r.ascii c) e);
  pct_encoded = second_is_true_if_and_not_is_false s.pct_encoded t.pct_encoded
      (ap (λ (r : TableSet). r.pct_encoded) e);
  ucschar = second_is_true_if_and_not_is_false s.ucschar t.ucschar
      (ap (λ (r : TableSet). r.ucschar) e);
  iprivate = second_is_true_if_and_not_is_false s.iprivate t.iprivate
      (ap (λ (r : TableSet). r.iprivate) e);
}

-- tables: a set within another has nothing that the other lacks
pub difference_from_superset_is_empty : (s t : TableSet) → IsSubset s t → difference s t ≡ empty_set
difference_from_superset_is_empty s t h = grind (arith, and_not_is_false_if_first_implies_second)

-- tables: no bit of the two words and none of the three flags is set
abbrev pub is_clear : ℕ → ℕ → Bool → Bool → Bool → Bool
is_clear low high pct_encoded ucschar iprivate =
    eqb (bit_or low high) 0 && not (pct_encoded || ucschar || iprivate)

-- tables: the set of the characters whose bits are set in two words, with three flags
abbrev pub set_of_masks : ℕ → ℕ → Bool → Bool → Bool → TableSet
set_of_masks low high = record_set (has_bit low high)

-- tables: two zero words without flags are the empty set
pub clear_masks_are_empty_set : (low high : ℕ) (pct_encoded ucschar iprivate : Bool)
    → is_clear low high pct_encoded ucschar iprivate ≡ true
    → set_of_masks low high pct_encoded ucschar iprivate ≡ empty_set
clear_masks_are_empty_set low high pct_encoded ucschar iprivate h =
    grind (arith, or_add_and, and_le_r, has_bit-zero-masks)

-- tables: if the set of a table is empty, its two words are zero and it has no flag
pub empty_set_has_clear_masks : (low high : ℕ) (pct_encoded ucschar iprivate : Bool) → low < 2 ^ 64
    → high < 2 ^ 64 → set_of_masks low high pct_encoded ucschar iprivate ≡ empty_set
    → is_clear low high pct_encoded ucschar iprivate ≡ true
empty_set_has_clear_masks low high pct_encoded ucschar iprivate fits fits' e =
    let none : (c : ℕ) → has_bit low high c ≡ false = λ c. ap (λ (r : TableSet). r.ascii c) e in
    grind (arith, nat_tests, low_mask_without_bits_is_zero, high_mask_without_bits_is_zero)

pub byte_unlike_all_is_not_one_of_them : (bytes : List ℕ) (c : ℕ) → All (λ b. b ≡ c → ⊥) bytes
    → is_one_of bytes c ≡ false
byte_unlike_all_is_not_one_of_them bytes c h = list_any_none (λ x. eqb x c) bytes
    (λ k d within. ne_eqb (get_or bytes k d) c (h k d within))

-- tables: the bytes of a text that a caller writes to make one are ASCII, and none is `%` (37)
pub unencoded_ascii_is_below_128_and_no_percent : (bytes : List ℕ)
    → list_all is_unencoded_ascii bytes ≡ true → All (λ b. (b < 128) × (b ≡ 37 → ⊥)) bytes
unencoded_ascii_is_below_128_and_no_percent bytes h =
    grind (arith, nat_tests, AllPass-from_list_all)
