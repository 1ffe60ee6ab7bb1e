-- What a set allows to its end, and what is cut at a mark: the two agree where the set excludes the
-- marks.
use Rattle.uri_pct.proofs.Common.{◌≡◌, ℕ, zero, suc, ◌+◌, ◌<◌, ◌≤◌, Bool, true, false, cond, eqb, not, List, [], ◌∷◌, length, get_or, take, refl, sym, ap, ◌∙◌, arith, ◌&&◌, ⊎_elim, nat_lt, take_all, list_all, is_ascii_hexdigit, IsUtf8, continuation_len, IsUtf8-take, prefix_len_is, cases_Bool, cond-true, cond-false, and_left, and_right, and_from, and_parts, eqb-true, ltb-true, not_from_false, not-true, false≢true, nat_tests, TableSet, LacksPercent, is_one_of, is_valid_for, begins_with_hex_digits, allows_first, valid_prefix_from, valid_prefix}
use Rattle.uri_pct.proofs.Unicode.Characters.{hexdigit_is_ascii}
use Rattle.uri_pct.proofs.TableSets.Percent.{lacks_percent}
use Rattle.uri_pct.proofs.ValidTexts.Validity.{valid_from, validity_by_first_byte, validity_of_tokens_is_validity_of_bytes, ascii_first_byte_is_allowed_iff_in_set}
use Rattle.uri_pct.proofs.ValidTexts.MarksInTexts.{length_before_marks, test_holds_of_each, length_before_mark_at_start_is_zero, length_before_marks_counts_other_byte, passes_no_mark_within_chars, AreAscii, chars_of_text_hold_no_mark_within, ascii_byte_is_skipped_at_once, cut_at_mark_keeps_whether_first_is_allowed, skips_after_percent_begins_anew, first_mark_is_at_boundary}

-- cuts of valid texts: an ASCII character that the set lacks,
-- and that neither begins an octet nor is in one
abbrev is_excluded : TableSet → ℕ → Bool
is_excluded set mark = nat_lt mark 128
    && (not (set.ascii mark) && (not (is_ascii_hexdigit mark) && not (eqb mark 37)))

-- cuts of valid texts: the set excludes each of the delimiters, at which its texts may be cut
abbrev pub excludes : TableSet → List ℕ → Bool
excludes set marks = list_all (is_excluded set) marks

-- general fact on booleans, for cuts of valid texts
and_of_three_nots_gives_each : (a b c d : Bool) → (a && (not b && (not c && not d))) ≡ true
    → (a ≡ true) × (b ≡ false) × (c ≡ false) × (d ≡ false)
and_of_three_nots_gives_each true false false false e = (refl, refl, refl, refl)
and_of_three_nots_gives_each false b c d e = absurd (false≢true e)
and_of_three_nots_gives_each true true c d e = absurd (false≢true e)
and_of_three_nots_gives_each true false true d e = absurd (false≢true e)
and_of_three_nots_gives_each true false false true e = absurd (false≢true e)

module _ (set : TableSet) where
  excluded_byte_is_ascii_outside_set : (b : ℕ) → is_excluded set b ≡ true → (nat_lt b 128 ≡ true)
      × (set.ascii b ≡ false) × (is_ascii_hexdigit b ≡ false) × (eqb b 37 ≡ false)
  excluded_byte_is_ascii_outside_set b e = and_of_three_nots_gives_each (nat_lt b 128) (set.ascii b)
      (is_ascii_hexdigit b) (eqb b 37) e

  each_excluded_mark_is_excluded : (marks : List ℕ) → excludes set marks ≡ true → (b : ℕ)
      → is_one_of marks b ≡ true → is_excluded set b ≡ true
  each_excluded_mark_is_excluded marks e b m = test_holds_of_each (is_excluded set) marks e b m

  excluded_mark_is_ascii : (marks : List ℕ) → excludes set marks ≡ true → (b : ℕ)
      → is_one_of marks b ≡ true → b < 128
  excluded_mark_is_ascii marks e b m = ltb-true b 128
      (excluded_byte_is_ascii_outside_set b (each_excluded_mark_is_excluded marks e b m)).0

  pub excluded_mark_is_not_in_set : (marks : List ℕ) → excludes set marks ≡ true → (b : ℕ)
      → is_one_of marks b ≡ true → set.ascii b ≡ false
  excluded_mark_is_not_in_set marks e b m =
      (excluded_byte_is_ascii_outside_set b (each_excluded_mark_is_excluded marks e b m)).1

  excluded_mark_is_no_hexdigit : (marks : List ℕ) → excludes set marks ≡ true → (b : ℕ)
      → is_one_of marks b ≡ true → is_ascii_hexdigit b ≡ false
  excluded_mark_is_no_hexdigit marks e b m =
      (excluded_byte_is_ascii_outside_set b (each_excluded_mark_is_excluded marks e b m)).2

  pub excluded_mark_is_no_percent : (marks : List ℕ) → excludes set marks ≡ true → (b : ℕ)
      → is_one_of marks b ≡ true → eqb b 37 ≡ false
  excluded_mark_is_no_percent marks e b m =
      (excluded_byte_is_ascii_outside_set b (each_excluded_mark_is_excluded marks e b m)).3

-- general fact on numbers, for cuts of valid texts
eqb_of_successors_is_eqb : (a b : ℕ) → eqb (a + 1) (suc b) ≡ eqb a b
eqb_of_successors_is_eqb a b = grind (arith, nat_tests)

-- general fact on numbers, for cuts of valid texts
zero_equals_no_successor : (b : ℕ) → eqb 0 (suc b) ≡ false
zero_equals_no_successor b = grind (arith, nat_tests)

-- scanning: how far a scan goes, by the first byte: it passes an octet or a character, or stops
pub valid_prefix_by_first_byte : (set : TableSet) (b : ℕ) (bs : List ℕ)
    → valid_prefix_from set 0 (b ∷ bs) ≡ cond (set.pct_encoded && eqb b 37)
    (cond (begins_with_hex_digits bs) (valid_prefix_from set 2 bs + 1) 0)
    (cond (allows_first set b bs) (valid_prefix_from set (continuation_len b) bs + 1) 0)
unfolding valid_prefix_from
valid_prefix_by_first_byte set b bs = refl

module _ (marks : List ℕ) (set : TableSet) (lacks : LacksPercent set)
    (outside : excludes set marks ≡ true) where
  ascii : AreAscii marks
  ascii b m = excluded_mark_is_ascii set marks outside b m

  cut_at_mark_keeps_first_hexdigit : (bs : List ℕ) → is_ascii_hexdigit
      (get_or (take (length_before_marks marks bs) bs) 0 0) ≡ is_ascii_hexdigit (get_or bs 0 0)
  cut_at_mark_keeps_first_hexdigit [] = refl
  cut_at_mark_keeps_first_hexdigit (b ∷ bs) =
      grind (arith, excluded_mark_is_no_hexdigit, length_before_marks_counts_other_byte)

  cut_at_mark_keeps_two_hexdigits : (bs : List ℕ)
      → begins_with_hex_digits (take (length_before_marks marks bs) bs) ≡ begins_with_hex_digits bs
  unfolding begins_with_hex_digits
  cut_at_mark_keeps_two_hexdigits [] = refl
  cut_at_mark_keeps_two_hexdigits (b ∷ bs) =
      ⊎_elim (λ e. rw (length_before_mark_at_start_is_zero marks b bs e)
      (sym (and_left _ _ (excluded_mark_is_no_hexdigit set marks outside b e))))
      (λ e. rw (length_before_marks_counts_other_byte marks b bs e) (ap (λ t. is_ascii_hexdigit b
      && t) (cut_at_mark_keeps_first_hexdigit bs))) (cases_Bool (is_one_of marks b))

  hexdigit_is_no_excluded_mark : (b : ℕ) → is_ascii_hexdigit b ≡ true → is_one_of marks b ≡ false
  hexdigit_is_no_excluded_mark b h = grind (arith, nat_tests, excluded_mark_is_no_hexdigit)

  -- two digits are no marks
  hex_digits_hold_no_mark : (bs : List ℕ) → begins_with_hex_digits bs ≡ true
      → passes_no_mark_within_chars marks 0 bs ≡ true
      → passes_no_mark_within_chars marks 2 bs ≡ true
  unfolding begins_with_hex_digits passes_no_mark_within_chars
  hex_digits_hold_no_mark [] e s = refl
  hex_digits_hold_no_mark (a ∷ []) e s = and_from _ _
      (not_from_false _ (hexdigit_is_no_excluded_mark a (and_parts _ _ e).0)) refl
  hex_digits_hold_no_mark (a ∷ b ∷ bs) e s =
      let p = and_parts _ _ e in
      let t = sym (ascii_byte_is_skipped_at_once marks b bs (hexdigit_is_ascii b p.1))
      ∙ sym (ascii_byte_is_skipped_at_once marks a (b ∷ bs) (hexdigit_is_ascii a p.0)) ∙ s in
      and_from _ _ (not_from_false _ (hexdigit_is_no_excluded_mark a p.0))
      (and_from _ _ (not_from_false _ (hexdigit_is_no_excluded_mark b p.1)) t)

  octet_before_cut_is_valid_iff_scanned : (b : ℕ) (bs : List ℕ) → (set.pct_encoded && eqb b 37)
      ≡ true → valid_from set 2 (take (length_before_marks marks bs) bs)
      ≡ eqb (valid_prefix_from set 2 bs) (length_before_marks marks bs) → begins_with_hex_digits bs
      ≡ true → valid_from set 0 (b ∷ take (length_before_marks marks bs) bs)
      ≡ eqb (valid_prefix_from set 0 (b ∷ bs)) (suc (length_before_marks marks bs))
  octet_before_cut_is_valid_iff_scanned b bs o ih h = validity_by_first_byte set b _
      ∙ cond-true _ _ _ (and_from _ _ o (cut_at_mark_keeps_two_hexdigits bs ∙ h)) ∙ ih
      ∙ sym (eqb_of_successors_is_eqb (valid_prefix_from set 2 bs) (length_before_marks marks bs))
      ∙ sym (ap (λ n. eqb n (suc (length_before_marks marks bs)))
      (valid_prefix_by_first_byte set b bs ∙ cond-true _ _ _ o ∙ cond-true _ _ _ h))

  percent_is_not_allowed_first : (b : ℕ) (bs : List ℕ) → eqb b 37 ≡ true
      → allows_first set b bs ≡ false
  percent_is_not_allowed_first b bs e = let d = eqb-true b
      37 e in ascii_first_byte_is_allowed_iff_in_set set b bs (omega arith) ∙ ap set.ascii d ∙ lacks

  stray_percent_before_cut_is_valid_iff_scanned : (b : ℕ) (bs : List ℕ)
      → (set.pct_encoded && eqb b 37) ≡ true → begins_with_hex_digits bs ≡ false
      → valid_from set 0 (b ∷ take (length_before_marks marks bs) bs)
      ≡ eqb (valid_prefix_from set 0 (b ∷ bs)) (suc (length_before_marks marks bs))
  stray_percent_before_cut_is_valid_iff_scanned b bs o h = validity_by_first_byte set b _
      ∙ cond-false _ _ _ (and_right _ _ (cut_at_mark_keeps_two_hexdigits bs ∙ h))
      ∙ and_left _ _ (percent_is_not_allowed_first b _ (and_parts _ _ o).1)
      ∙ sym (zero_equals_no_successor (length_before_marks marks bs))
      ∙ sym (ap (λ n. eqb n (suc (length_before_marks marks bs)))
      (valid_prefix_by_first_byte set b bs ∙ cond-true _ _ _ o ∙ cond-false _ _ _ h))

  char_before_cut_is_valid_iff_scanned : (b : ℕ) (bs : List ℕ) → (set.pct_encoded && eqb b 37)
      ≡ false → passes_no_mark_within_chars marks (continuation_len b) bs ≡ true
      → valid_from set (continuation_len b) (take (length_before_marks marks bs) bs)
      ≡ eqb (valid_prefix_from set (continuation_len b) bs) (length_before_marks marks bs)
      → valid_from set 0 (b ∷ take (length_before_marks marks bs) bs)
      ≡ eqb (valid_prefix_from set 0 (b ∷ bs)) (suc (length_before_marks marks bs))
  char_before_cut_is_valid_iff_scanned b bs o s ih =
      grind (
        arith,
        validity_by_first_byte,
        cut_at_mark_keeps_whether_first_is_allowed,
        valid_prefix_by_first_byte,
      )

  pub valid_prefix_at_mark_is_empty : (b : ℕ) (bs : List ℕ) → is_one_of marks b ≡ true
      → valid_prefix_from set 0 (b ∷ bs) ≡ 0
  valid_prefix_at_mark_is_empty b bs e = valid_prefix_by_first_byte set b bs
      ∙ cond-false _ _ _ (and_right _ _ (excluded_mark_is_no_percent set marks outside b e))
      ∙ cond-false _ _ _ (ascii_first_byte_is_allowed_iff_in_set set b bs (ascii b e)
      ∙ excluded_mark_is_not_in_set set marks outside b e)

  bytes_before_cut_are_valid_iff_scanned : (k : ℕ) (bs : List ℕ)
      → passes_no_mark_within_chars marks k bs ≡ true
      → valid_from set k (take (length_before_marks marks bs) bs)
      ≡ eqb (valid_prefix_from set k bs) (length_before_marks marks bs)
  unfolding valid_from valid_prefix_from passes_no_mark_within_chars
  bytes_before_cut_are_valid_iff_scanned zero [] s = refl
  bytes_before_cut_are_valid_iff_scanned (suc k) [] s = refl
  bytes_before_cut_are_valid_iff_scanned (suc k) (b ∷ bs) s =
      let p = and_parts _ _ s in
      let e = not-true _ p.0 in
      rw (length_before_marks_counts_other_byte marks b bs e)
      (bytes_before_cut_are_valid_iff_scanned k bs p.1
      ∙ sym (eqb_of_successors_is_eqb (valid_prefix_from set k bs) (length_before_marks marks bs)))
  bytes_before_cut_are_valid_iff_scanned zero (b ∷ bs) s = ⊎_elim
      (λ e. rw (length_before_mark_at_start_is_zero marks b bs e)
      (sym (ap (λ n. eqb n 0) (valid_prefix_at_mark_is_empty b bs e))))
      (λ e. rw (length_before_marks_counts_other_byte marks b bs e) (⊎_elim
      (λ o. let t = skips_after_percent_begins_anew marks b bs (and_parts _ _ o).1 s in
      ⊎_elim (λ h. octet_before_cut_is_valid_iff_scanned b bs o
      (bytes_before_cut_are_valid_iff_scanned 2 bs (hex_digits_hold_no_mark bs h t)) h)
      (λ h. stray_percent_before_cut_is_valid_iff_scanned b bs o h)
      (cases_Bool (begins_with_hex_digits bs))) (λ o. char_before_cut_is_valid_iff_scanned b bs o s
      (bytes_before_cut_are_valid_iff_scanned (continuation_len b) bs s))
      (cases_Bool (set.pct_encoded && eqb b 37)))) (cases_Bool (is_one_of marks b))

  valid_prefix_with_first_byte_ends_by_mark : (b : ℕ) (bs : List ℕ)
      → ((set.pct_encoded && eqb b 37) ≡ true → begins_with_hex_digits bs ≡ true
      → valid_prefix_from set 2 bs ≤ length_before_marks marks bs)
      → valid_prefix_from set (continuation_len b) bs ≤ length_before_marks marks bs
      → valid_prefix_from set 0 (b ∷ bs) ≤ suc (length_before_marks marks bs)
  valid_prefix_with_first_byte_ends_by_mark b bs two one =
      grind (arith, nat_tests, length_before_marks, valid_prefix_by_first_byte)

  valid_prefix_from_ends_by_mark : (k : ℕ) (bs : List ℕ) → passes_no_mark_within_chars marks k bs
      ≡ true → valid_prefix_from set k bs ≤ length_before_marks marks bs
  unfolding valid_prefix_from passes_no_mark_within_chars
  valid_prefix_from_ends_by_mark zero [] s = omega arith
  valid_prefix_from_ends_by_mark (suc k) [] s = omega arith
  valid_prefix_from_ends_by_mark (suc k) (b ∷ bs) s =
      let p = and_parts _ _ s in
      rw (length_before_marks_counts_other_byte marks b bs (not-true _ p.0))
      (let h = valid_prefix_from_ends_by_mark k bs p.1 in omega arith)
  valid_prefix_from_ends_by_mark zero (b ∷ bs) s =
      ⊎_elim (λ e. rw (valid_prefix_at_mark_is_empty b bs e) (omega arith))
      (λ e. rw (length_before_marks_counts_other_byte marks b bs e)
      (valid_prefix_with_first_byte_ends_by_mark b bs
      (λ o h. valid_prefix_from_ends_by_mark 2 bs (hex_digits_hold_no_mark bs h
      (skips_after_percent_begins_anew marks b bs (and_parts _ _ o).1 s)))
      (valid_prefix_from_ends_by_mark (continuation_len b) bs s))) (cases_Bool (is_one_of marks b))

  -- a scan ends at the mark exactly where what is before it is valid
  pub cut : (text : List ℕ) → IsUtf8 text
      → is_valid_for set (take (length_before_marks marks text) text)
      ≡ eqb (valid_prefix set text) (length_before_marks marks text)
  cut text u = validity_of_tokens_is_validity_of_bytes set lacks _ (IsUtf8-take text _ u
      (first_mark_is_at_boundary marks ascii text)) ∙ bytes_before_cut_are_valid_iff_scanned 0 text
      (chars_of_text_hold_no_mark_within marks ascii text u)

  -- a scan ends at the first mark, or before it
  pub valid_prefix-ends-by-mark : (text : List ℕ) → IsUtf8 text
      → valid_prefix set text ≤ length_before_marks marks text
  valid_prefix-ends-by-mark text u = valid_prefix_from_ends_by_mark 0 text
      (chars_of_text_hold_no_mark_within marks ascii text u)

-- cuts of valid texts: without delimiters, a text is cut at its end
length_before_no_marks_is_length : (text : List ℕ) → length_before_marks [] text ≡ length text
length_before_no_marks_is_length text = prefix_len_is (λ c. not (is_one_of [] c)) text
    (length text) 0 (omega arith) (λ k h. refl) (λ h. absurd (omega arith))

-- scanning: a text is valid exactly if it is scanned to its end
pub is_valid_for_is_scanned_to_end : (set : TableSet) (text : List ℕ) → LacksPercent set
    → IsUtf8 text → is_valid_for set text ≡ eqb (valid_prefix set text) (length text)
is_valid_for_is_scanned_to_end set text lacks u =
    ap (is_valid_for set) (sym (take_all (length text) text (omega arith))
    ∙ ap (λ n. take n text) (sym (length_before_no_marks_is_length text)))
    ∙ cut [] set lacks refl text u
    ∙ ap (eqb (valid_prefix set text)) (length_before_no_marks_is_length text)

-- for the scan of a whole text
pub ruleset scan_of_table_decides = (is_valid_for_is_scanned_to_end, lacks_percent)
