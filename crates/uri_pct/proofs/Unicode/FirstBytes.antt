-- Which bytes may follow a first byte, row by row: Unicode, table 3-7.
use Rattle.uri_pct.proofs.Common.{◌≡◌, ℕ, suc, ◌<◌, ◌≤◌, List, [], ◌∷◌, ◌++◌, length, refl, ap, arith, Some, take_at, drop_at, nat_tests, WellFormed, ByteRange, continuation, following_ranges, len_in_ranges, pieces_from, utf8_pieces}
use Rattle.uri_pct.proofs.Unicode.Pieces.{pieces_from_are_pieces_after_skipped_bytes}

-- UTF-8: the bytes fit a row of the table, whatever follows them
abbrev FitRanges : List ByteRange → List ℕ → Type 0
FitRanges [] [] = Unit {0}
FitRanges [] (b ∷ rest) = ⊥
FitRanges (range ∷ ranges) [] = ⊥
FitRanges (range ∷ ranges) (b ∷ rest) = ((range.0 ≤ b) × (b ≤ range.1)) × FitRanges ranges rest

fitting_bytes_are_as_many_as_ranges : (ranges : List ByteRange) (tail : List ℕ)
    → FitRanges ranges tail → length tail ≡ length ranges
fitting_bytes_are_as_many_as_ranges [] [] fits = refl
fitting_bytes_are_as_many_as_ranges [] (b ∷ tail) fits = absurd fits
fitting_bytes_are_as_many_as_ranges (range ∷ ranges) [] fits = absurd fits
fitting_bytes_are_as_many_as_ranges (range ∷ ranges) (b ∷ tail) fits = ap suc
    (fitting_bytes_are_as_many_as_ranges ranges tail fits.1)

-- UTF-8: bytes that fit ranges fit all of them, whatever follows
fitting_bytes_reach_all_ranges : (ranges : List ByteRange) (tail rest : List ℕ)
    → FitRanges ranges tail → len_in_ranges ranges (tail ++ rest) ≡ length ranges
fitting_bytes_reach_all_ranges [] tail rest fits = refl
fitting_bytes_reach_all_ranges (range ∷ ranges) [] rest fits = absurd fits
fitting_bytes_reach_all_ranges (range ∷ ranges) (b ∷ tail) rest fits =
    grind (arith, fitting_bytes_reach_all_ranges ranges tail rest fits.1)

pub fitting_bytes_are_well_formed_first_piece : (b : ℕ) (ranges : List ByteRange)
    (tail rest : List ℕ) → following_ranges b ≡ Some ranges → FitRanges ranges tail
    → utf8_pieces ((b ∷ tail) ++ rest) ≡ WellFormed (b ∷ tail) ∷ utf8_pieces rest
unfolding pieces_from
fitting_bytes_are_well_formed_first_piece b ranges tail rest row fits = grind (
  arith,
  nat_tests,
  fitting_bytes_are_as_many_as_ranges,
  fitting_bytes_reach_all_ranges,
  take_at,
  pieces_from_are_pieces_after_skipped_bytes,
  drop_at,
)

pub no_range_follows_ascii_byte : (b : ℕ) → b < 0x80 → following_ranges b ≡ Some []
unfolding following_ranges
no_range_follows_ascii_byte b high = grind (arith, nat_tests)

-- UTF-8: the bytes that may follow C2 to DF (Unicode, table 3-7)
pub following_ranges_of_c2_to_df : (b : ℕ) → 0xC2 ≤ b → b ≤ 0xDF → following_ranges b
    ≡ Some (continuation ∷ [])
unfolding following_ranges
following_ranges_of_c2_to_df b low high = grind (arith, nat_tests)

-- UTF-8: the bytes that may follow E0 (Unicode, table 3-7)
pub following_ranges_of_e0 : (b : ℕ) → b ≡ 0xE0 → following_ranges b
    ≡ Some ((0xA0, 0xBF) ∷ continuation ∷ [])
unfolding following_ranges
following_ranges_of_e0 b e = ap following_ranges e

-- UTF-8: the bytes that may follow E1 to EC (Unicode, table 3-7)
pub following_ranges_of_e1_to_ec : (b : ℕ) → 0xE1 ≤ b → b ≤ 0xEC → following_ranges b
    ≡ Some (continuation ∷ continuation ∷ [])
unfolding following_ranges
following_ranges_of_e1_to_ec b low high = grind (arith, nat_tests)

-- UTF-8: the bytes that may follow ED (Unicode, table 3-7)
pub following_ranges_of_ed : (b : ℕ) → b ≡ 0xED → following_ranges b
    ≡ Some ((0x80, 0x9F) ∷ continuation ∷ [])
unfolding following_ranges
following_ranges_of_ed b e = ap following_ranges e

-- UTF-8: the bytes that may follow EE and EF (Unicode, table 3-7)
pub following_ranges_of_ee_to_ef : (b : ℕ) → 0xEE ≤ b → b ≤ 0xEF → following_ranges b
    ≡ Some (continuation ∷ continuation ∷ [])
unfolding following_ranges
following_ranges_of_ee_to_ef b low high = grind (arith, nat_tests)

-- UTF-8: the bytes that may follow F0 (Unicode, table 3-7)
pub following_ranges_of_f0 : (b : ℕ) → b ≡ 0xF0
    → following_ranges b ≡ Some ((0x90, 0xBF) ∷ continuation ∷ continuation ∷ [])
unfolding following_ranges
following_ranges_of_f0 b e = ap following_ranges e

-- UTF-8: the bytes that may follow F1 to F3 (Unicode, table 3-7)
pub following_ranges_of_f1_to_f3 : (b : ℕ) → 0xF1 ≤ b → b ≤ 0xF3
    → following_ranges b ≡ Some (continuation ∷ continuation ∷ continuation ∷ [])
unfolding following_ranges
following_ranges_of_f1_to_f3 b low high = grind (arith, nat_tests)

-- UTF-8: the bytes that may follow F4 (Unicode, table 3-7)
pub following_ranges_of_f4 : (b : ℕ) → b ≡ 0xF4
    → following_ranges b ≡ Some ((0x80, 0x8F) ∷ continuation ∷ continuation ∷ [])
unfolding following_ranges
following_ranges_of_f4 b e = ap following_ranges e
