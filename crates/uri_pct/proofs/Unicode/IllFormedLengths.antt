-- The length of an ill-formed piece is the number of its bytes that fit a row, as that of std.
use Rattle.uri_pct.proofs.Common.{◌≡◌, ℕ, suc, ◌<◌, ◌≤◌, ◌⊎◌, List, [], ◌∷◌, ◌++◌, length, refl, sym, ap, ◌∙◌, arith, ⊎_elim, Option, Some, None, subst, inl, inr, unwrap_or, utf8_invalid_len, utf8_error_len, error_len_after_one, second_byte_min, second_byte_max, cases_Bool, cond-true, cases_lt, nat_tests, IllFormed, ByteRange, is_in_byte_range, continuation, following_ranges, len_in_ranges, first_piece_tail_len, first_piece}
use Rattle.uri_pct.proofs.Unicode.FirstBytes.{no_range_follows_ascii_byte, following_ranges_of_c2_to_df, following_ranges_of_e0, following_ranges_of_e1_to_ec, following_ranges_of_ed, following_ranges_of_ee_to_ef, following_ranges_of_f0, following_ranges_of_f1_to_f3, following_ranges_of_f4}

-- ill-formed UTF-8: std takes one byte for ill-formed, if it begins no character
invalid_len_without_lead_is_one : (b : ℕ) (rest : List ℕ) → (b < 0xC2) ⊎ (0xF4 < b)
    → utf8_invalid_len (b ∷ rest) ≡ 1
unfolding utf8_error_len
invalid_len_without_lead_is_one b rest (inl h) = grind (arith, nat_tests)
invalid_len_without_lead_is_one b rest (inr h) = grind (arith, nat_tests)

-- ill-formed UTF-8: what std takes for ill-formed,
-- from a first byte C2 to F4 on, ends at its first error, or with the bytes
invalid_len_from_lead_is_error_len : (b : ℕ) (rest : List ℕ) → 0xC2 ≤ b → b ≤ 0xF4
    → utf8_invalid_len (b ∷ rest) ≡ unwrap_or (error_len_after_one (b ∷ rest)) (suc (length rest))
unfolding utf8_error_len
invalid_len_from_lead_is_error_len b rest low high = grind (arith, nat_tests)

-- ill-formed UTF-8: where std finds the first error is
-- how many bytes fit the ranges of two that may follow b
error_len_is_len_in_two_ranges : (b : ℕ) (rest : List ℕ)
    → unwrap_or (error_len_after_one (b ∷ rest)) (suc (length rest))
    ≡ suc (len_in_ranges ((second_byte_min b, second_byte_max b) ∷ continuation ∷ []) rest)
error_len_is_len_in_two_ranges b [] = refl
error_len_is_len_in_two_ranges b (s ∷ []) = ⊎_elim (λ e. rw e refl) (λ e. rw e refl)
    (cases_Bool (is_in_byte_range (second_byte_min b, second_byte_max b) s))
error_len_is_len_in_two_ranges b (s ∷ t ∷ []) = grind (arith, nat_tests)
error_len_is_len_in_two_ranges b (s ∷ t ∷ u ∷ rest) = grind (arith, nat_tests)

-- UTF-8: no more bytes fit ranges than there are ranges
len_in_ranges_is_at_most_range_count : (ranges : List ByteRange) (text : List ℕ)
    → len_in_ranges ranges text ≤ length ranges
len_in_ranges_is_at_most_range_count [] text = omega arith
len_in_ranges_is_at_most_range_count (range ∷ ranges) [] = omega arith
len_in_ranges_is_at_most_range_count (range ∷ ranges) (b ∷ rest) =
    grind (arith, nat_tests, len_in_ranges_is_at_most_range_count ranges rest)

longer_row_fits_no_more_bytes : (ranges more : List ByteRange) (text : List ℕ)
    → len_in_ranges ranges text < length ranges → len_in_ranges (ranges ++ more) text
    ≡ len_in_ranges ranges text
longer_row_fits_no_more_bytes [] more text h = absurd (omega arith)
longer_row_fits_no_more_bytes (range ∷ ranges) more [] h = refl
longer_row_fits_no_more_bytes (range ∷ ranges) more (b ∷ rest) h = ⊎_elim
    (λ e. let short : suc (len_in_ranges ranges rest) < suc (length ranges) =
    subst (λ n. n < suc (length ranges)) (cond-true _ _ _ e) h in
    rw e (ap suc (longer_row_fits_no_more_bytes ranges more rest (omega arith))))
    (λ e. rw e refl) (cases_Bool (is_in_byte_range range b))

row_without_unused_last_range_fits_as_many : (ranges : List ByteRange)
    (last : ByteRange) (text : List ℕ) → len_in_ranges (ranges ++ last ∷ []) text ≤ length ranges
    → len_in_ranges (ranges ++ last ∷ []) text ≡ len_in_ranges ranges text
row_without_unused_last_range_fits_as_many [] last text h = omega arith
row_without_unused_last_range_fits_as_many (range ∷ ranges) last [] h = refl
row_without_unused_last_range_fits_as_many (range ∷ ranges) last (b ∷ rest) h = ⊎_elim
    (λ e. let short : suc (len_in_ranges (ranges ++ last ∷ []) rest) ≤ suc (length ranges) =
    subst (λ n. n ≤ suc (length ranges)) (cond-true _ _ _ e) h in
    rw e (ap suc (row_without_unused_last_range_fits_as_many ranges last rest (omega arith))))
    (λ e. rw e refl) (cases_Bool (is_in_byte_range range b))

ill_formed_piece_misses_a_range : (b : ℕ) (ranges : List ByteRange) (rest bytes : List ℕ)
    → first_piece (Some ranges) b rest ≡ IllFormed bytes → len_in_ranges ranges rest < length ranges
ill_formed_piece_misses_a_range b ranges rest bytes e =
    grind (arith, nat_tests, len_in_ranges_is_at_most_range_count)

-- ill-formed UTF-8: a piece whose first byte has this row is as long as std takes it
abbrev pub HasStdInvalidLen : ℕ → Option (List ByteRange) → Type 0
HasStdInvalidLen b row = (rest bytes : List ℕ) → first_piece row b rest ≡ IllFormed bytes
    → suc (first_piece_tail_len row rest) ≡ utf8_invalid_len (b ∷ rest)

-- ill-formed UTF-8: what std takes for ill-formed,
-- from a first byte C2 to F4 on, fits the ranges of two bytes that may follow
invalid_len_from_lead_is_len_in_two_ranges : (b : ℕ) (second : ByteRange) (rest : List ℕ)
    → 0xC2 ≤ b → b ≤ 0xF4 → second_byte_min b ≡ second.0 → second_byte_max b ≡ second.1
    → utf8_invalid_len (b ∷ rest) ≡ suc (len_in_ranges (second ∷ continuation ∷ []) rest)
invalid_len_from_lead_is_len_in_two_ranges b second rest low high least most =
    grind (arith, nat_tests, invalid_len_from_lead_is_error_len, error_len_is_len_in_two_ranges)

-- ill-formed UTF-8: a byte that begins no character is ill-formed by itself, as for std
ill_formed_len_is_std_len_without_row : (b : ℕ) → (b < 0xC2) ⊎ (0xF4 < b) → HasStdInvalidLen b None
ill_formed_len_is_std_len_without_row b other rest bytes e = sym
    (invalid_len_without_lead_is_one b rest other)

ill_formed_len_is_std_len_of_one_byte_row : (b : ℕ) → HasStdInvalidLen b (Some [])
ill_formed_len_is_std_len_of_one_byte_row b rest bytes e = absurd
    (omega (arith, ill_formed_piece_misses_a_range b [] rest bytes e))

-- ill-formed UTF-8: an ill-formed piece is as long as for std, if its first byte calls for one more
ill_formed_len_is_std_len_of_two_byte_row : (b : ℕ) (second : ByteRange) → 0xC2 ≤ b → b ≤ 0xF4
    → second_byte_min b ≡ second.0
    → second_byte_max b ≡ second.1 → HasStdInvalidLen b (Some (second ∷ []))
ill_formed_len_is_std_len_of_two_byte_row b second low high least most rest bytes e =
    ap suc (sym (longer_row_fits_no_more_bytes (second ∷ []) (continuation ∷ []) rest
    (ill_formed_piece_misses_a_range b (second ∷ []) rest bytes e)))
    ∙ sym (invalid_len_from_lead_is_len_in_two_ranges b second rest low high least most)

-- ill-formed UTF-8: an ill-formed piece is as long as for std, if its first byte calls for two more
ill_formed_len_is_std_len_of_three_byte_row : (b : ℕ) (second : ByteRange) → 0xC2 ≤ b → b ≤ 0xF4
    → second_byte_min b ≡ second.0
    → second_byte_max b ≡ second.1 → HasStdInvalidLen b (Some (second ∷ continuation ∷ []))
ill_formed_len_is_std_len_of_three_byte_row b second low high least most rest bytes e = sym
    (invalid_len_from_lead_is_len_in_two_ranges b second rest low high least most)

-- ill-formed UTF-8: an ill-formed piece is as long
-- as for std, if its first byte calls for three more
ill_formed_len_is_std_len_of_four_byte_row : (b : ℕ) (second : ByteRange) → 0xC2 ≤ b → b ≤ 0xF4
    → second_byte_min b ≡ second.0 → second_byte_max b ≡ second.1
    → HasStdInvalidLen b (Some (second ∷ continuation ∷ continuation ∷ []))
ill_formed_len_is_std_len_of_four_byte_row b second low high least most rest bytes e =
    let short : len_in_ranges (second ∷ continuation ∷ continuation ∷ []) rest < 3 =
    ill_formed_piece_misses_a_range b (second ∷ continuation ∷ continuation ∷ []) rest bytes e in
    ap suc (row_without_unused_last_range_fits_as_many (second ∷ continuation ∷ []) continuation
    rest (omega arith))
    ∙ sym (invalid_len_from_lead_is_len_in_two_ranges b second rest low high least most)

-- UTF-8: no character begins with a byte from 80 to C1 (Unicode, table 3-7)
pub no_row_from_80_to_c1 : (b : ℕ) → 0x80 ≤ b → b < 0xC2 → following_ranges b ≡ None
unfolding following_ranges
no_row_from_80_to_c1 b low high = grind (arith, nat_tests)

-- UTF-8: no character begins with a byte past F4 (Unicode, table 3-7)
pub no_row_past_f4 : (b : ℕ) → 0xF4 < b → following_ranges b ≡ None
unfolding following_ranges
no_row_past_f4 b low = grind (arith, nat_tests)

ill_formed_len_is_std_len_below_e1 : (b : ℕ) → b < 0xE1 → HasStdInvalidLen b (following_ranges b)
ill_formed_len_is_std_len_below_e1 b high = ⊎_elim (λ h. subst (HasStdInvalidLen b)
    (sym (no_range_follows_ascii_byte b h)) (ill_formed_len_is_std_len_of_one_byte_row b))
    (λ l1. ⊎_elim (λ h. subst (HasStdInvalidLen b) (sym (no_row_from_80_to_c1 b l1 h))
    (ill_formed_len_is_std_len_without_row b (inl h))) (λ l2. ⊎_elim
    (λ h. subst (HasStdInvalidLen b) (sym (following_ranges_of_c2_to_df b l2 (omega arith)))
    (ill_formed_len_is_std_len_of_two_byte_row b continuation l2 (omega arith)
    (grind (arith, nat_tests)) (grind (arith, nat_tests)))) (λ l3. subst (HasStdInvalidLen b)
    (sym (following_ranges_of_e0 b (omega arith))) (ill_formed_len_is_std_len_of_three_byte_row
    b (0xA0, 0xBF) l2 (omega arith) (grind (arith, nat_tests)) (grind (arith, nat_tests))))
    (cases_lt b 0xE0)) (cases_lt b 0xC2)) (cases_lt b 0x80)

-- ill-formed UTF-8: an ill-formed piece is as long as for std, if its first byte is F0 or greater
ill_formed_len_is_std_len_from_f0 : (b : ℕ) → 0xF0 ≤ b → HasStdInvalidLen b (following_ranges b)
ill_formed_len_is_std_len_from_f0 b low = ⊎_elim (λ h. subst (HasStdInvalidLen b)
    (sym (following_ranges_of_f0 b (omega arith))) (ill_formed_len_is_std_len_of_four_byte_row b
    (0x90, 0xBF) (omega arith) (omega arith) (grind (arith, nat_tests)) (grind (arith, nat_tests))))
    (λ l1. ⊎_elim (λ h. subst (HasStdInvalidLen b) (sym (following_ranges_of_f1_to_f3 b l1
    (omega arith))) (ill_formed_len_is_std_len_of_four_byte_row b continuation
    (omega arith) (omega arith) (grind (arith, nat_tests)) (grind (arith, nat_tests))))
    (λ l2. ⊎_elim (λ h. subst (HasStdInvalidLen b) (sym (following_ranges_of_f4 b (omega arith)))
    (ill_formed_len_is_std_len_of_four_byte_row b (0x80, 0x8F) (omega arith) (omega arith)
    (grind (arith, nat_tests)) (grind (arith, nat_tests)))) (λ l3. subst (HasStdInvalidLen b)
    (sym (no_row_past_f4 b (omega arith))) (ill_formed_len_is_std_len_without_row b
    (inr (omega arith)))) (cases_lt b 0xF5)) (cases_lt b 0xF4)) (cases_lt b 0xF1)

-- ill-formed UTF-8: an ill-formed piece is as long as the part that std replaces
pub ill_formed_len_is_std_len : (b : ℕ) → HasStdInvalidLen b (following_ranges b)
ill_formed_len_is_std_len b =
    grind (
      arith,
      ill_formed_len_is_std_len_below_e1,
      following_ranges_of_e1_to_ec,
      ill_formed_len_is_std_len_of_three_byte_row,
      nat_tests,
      following_ranges_of_ed,
      following_ranges_of_ee_to_ef,
      ill_formed_len_is_std_len_from_f0,
    )
