-- If bytes do not end in an unfinished character, their pieces are the same whatever follows. So
-- are the pieces of the bytes before an unfinished end.
use Rattle.uri_pct.proofs.Common.{◌≡◌, ℕ, zero, suc, ◌-◌, ◌<◌, ◌≤◌, true, false, cond, leb, nat_lt, List, [], ◌∷◌, ◌++◌, length, take, drop, get_or, map, refl, sym, ap, ◌∙◌, append_assoc, arith, ⊎_elim, Option, Some, None, option_map, list_all, find, append-nil, map-append, take_all, take-append-drop, cases_Bool, cond-true, cond-false, and_parts, leb-true, cases_lt, nat_tests, Chunk, Text, Byte, Decoded, parts_from, ByteRange, Row, is_in_byte_range, continuation, well_formed_rows, begins_with_continuation, following_ranges, len_in_ranges, first_piece_tail_len, pieces_from, utf8_pieces, range_count, following_byte_count, unfinished_len, CutsNoPiece}
use Rattle.uri_pct.proofs.Unicode.Pieces.{first_piece_tail_is_within_rest, utf8_pieces_are_cut_after_first_if_rest_is, utf8_pieces_are_cut_at_non_continuation}
use Rattle.uri_pct.proofs.Unicode.FirstBytes.{no_range_follows_ascii_byte, following_ranges_of_c2_to_df}
use Rattle.uri_pct.proofs.Unicode.IllFormedLengths.{no_row_from_80_to_c1, no_row_past_f4}

pub one_byte_follows_c2_to_df : (b : ℕ) → 0xC2 ≤ b → b ≤ 0xDF → following_byte_count b ≡ 1
one_byte_follows_c2_to_df b low high = ap range_count (following_ranges_of_c2_to_df b low high)

pub two_bytes_follow_e0_to_ef : (b : ℕ) → 0xE0 ≤ b → b ≤ 0xEF → following_byte_count b ≡ 2
unfolding following_ranges
two_bytes_follow_e0_to_ef b low high = grind (arith, nat_tests)

pub three_bytes_follow_f0_to_f4 : (b : ℕ) → 0xF0 ≤ b → b ≤ 0xF4 → following_byte_count b ≡ 3
unfolding following_ranges
three_bytes_follow_f0_to_f4 b low high = grind (arith, nat_tests)

pub no_byte_follows_below_c2 : (b : ℕ) → b < 0xC2 → following_byte_count b ≡ 0
no_byte_follows_below_c2 b high = ⊎_elim (λ h. ap range_count (no_range_follows_ascii_byte b h))
    (λ low. ap range_count (no_row_from_80_to_c1 b low high)) (cases_lt b 0x80)

pub no_byte_follows_past_f4 : (b : ℕ) → 0xF4 < b → following_byte_count b ≡ 0
no_byte_follows_past_f4 b low = ap range_count (no_row_past_f4 b low)

-- UTF-8: at most three bytes may follow a first one, as in each row of the table
found_row_has_at_most_three_ranges : (b : ℕ) (rows : List Row)
    → list_all (λ (row : Row). leb (length row.1) 3) rows ≡ true → range_count
    (option_map (λ (row : Row). row.1) (find (λ (row : Row). is_in_byte_range row.0 b) rows)) ≤ 3
found_row_has_at_most_three_ranges b [] h = omega arith
found_row_has_at_most_three_ranges b (row ∷ rows) h =
    let p = and_parts (leb (length row.1) 3) _ h in
    grind (arith, nat_tests, leb-true, found_row_has_at_most_three_ranges b rows p.1)

at_most_three_bytes_follow : (b : ℕ) → following_byte_count b ≤ 3
unfolding following_ranges
at_most_three_bytes_follow b = found_row_has_at_most_three_ranges b well_formed_rows refl

-- the unfinished length, by what each of the last three bytes calls for
unfoldable pub unfinished_len_by_last_three : ℕ → ℕ → ℕ → ℕ
unfinished_len_by_last_three third second last = cond (nat_lt 2 third) 3
    (cond (nat_lt 1 second) 2 (cond (nat_lt 0 last) 1 0))

unfinished_len_is_by_last_three_bytes : (bytes : List ℕ) (n : ℕ) → length bytes ≡ suc (suc (suc n))
    → unfinished_len bytes ≡ unfinished_len_by_last_three (following_byte_count (get_or bytes n 0))
    (following_byte_count (get_or bytes (suc n) 0))
    (following_byte_count (get_or bytes (suc (suc n)) 0))
unfolding unfinished_len unfinished_len_by_last_three
unfinished_len_is_by_last_three_bytes [] n e = absurd (omega arith)
unfinished_len_is_by_last_three_bytes (a ∷ []) zero e = absurd (omega arith)
unfinished_len_is_by_last_three_bytes (a ∷ b ∷ []) zero e = absurd (omega arith)
unfinished_len_is_by_last_three_bytes (a ∷ b ∷ c ∷ []) zero e = refl
unfinished_len_is_by_last_three_bytes (a ∷ b ∷ c ∷ d ∷ rest) zero e = absurd (omega arith)
unfinished_len_is_by_last_three_bytes (a ∷ rest) (suc n) e =
    let most = at_most_three_bytes_follow a in
    let enough : nat_lt (length rest) (following_byte_count a) ≡ false = grind (arith, nat_tests) in
    cond-false _ _ _ enough ∙ unfinished_len_is_by_last_three_bytes rest n (omega arith)

pub unfinished_len_is_by_counts_of_last_three : (bytes : List ℕ) (third second last : ℕ)
    → 3 ≤ length bytes → third ≡ following_byte_count (get_or bytes (length bytes - 3) 0)
    → second ≡ following_byte_count (get_or bytes (length bytes - 2) 0)
    → last ≡ following_byte_count (get_or bytes (length bytes - 1) 0)
    → unfinished_len bytes ≡ unfinished_len_by_last_three third second last
unfinished_len_is_by_counts_of_last_three bytes third second last long e3 e2 e1 =
    let n = length bytes - 3 in
    let at_2 : suc n ≡ length bytes - 2 = omega arith in
    let at_1 : suc (suc n) ≡ length bytes - 1 = omega arith in
    let called : ℕ → ℕ = λ i. following_byte_count (get_or bytes i 0) in
    grind (arith, nat_tests, unfinished_len_is_by_last_three_bytes)

-- UTF-8: if there is a byte for each range, what follows them changes nothing
suffix_of_enough_bytes_keeps_len_in_ranges : (ranges : List ByteRange) (xs ys : List ℕ)
    → length ranges ≤ length xs → len_in_ranges ranges (xs ++ ys) ≡ len_in_ranges ranges xs
suffix_of_enough_bytes_keeps_len_in_ranges [] xs ys h = refl
suffix_of_enough_bytes_keeps_len_in_ranges (range ∷ ranges) [] ys h = absurd (omega arith)
suffix_of_enough_bytes_keeps_len_in_ranges (range ∷ ranges) (x ∷ xs) ys h =
    grind (arith, suffix_of_enough_bytes_keeps_len_in_ranges ranges xs ys (omega arith))

-- UTF-8: with as many bytes as may follow,
-- the first piece ends in the same place whatever is after them
suffix_of_enough_bytes_keeps_tail_len : (row : Option (List ByteRange)) (xs ys : List ℕ)
    → range_count row ≤ length xs
    → first_piece_tail_len row (xs ++ ys) ≡ first_piece_tail_len row xs
suffix_of_enough_bytes_keeps_tail_len None xs ys h = refl
suffix_of_enough_bytes_keeps_tail_len (Some ranges) xs ys h =
    suffix_of_enough_bytes_keeps_len_in_ranges ranges xs ys h

first_byte_lacking_bytes_makes_all_unfinished : (x : ℕ) (xs : List ℕ)
    → nat_lt (length xs) (following_byte_count x) ≡ true → unfinished_len (x ∷ xs) ≡ suc (length xs)
unfolding unfinished_len
first_byte_lacking_bytes_makes_all_unfinished x xs e = cond-true _ _ _ e

first_byte_with_enough_bytes_is_finished : (x : ℕ) (xs : List ℕ)
    → nat_lt (length xs) (following_byte_count x) ≡ false
    → unfinished_len (x ∷ xs) ≡ unfinished_len xs
unfolding unfinished_len
first_byte_with_enough_bytes_is_finished x xs e = cond-false _ _ _ e

-- UTF-8: if no character is unfinished at the end,
-- the first byte has as many after it as may follow
finished_first_byte_has_enough_bytes : (x : ℕ) (xs : List ℕ) → unfinished_len (x ∷ xs) ≡ 0
    → (following_byte_count x ≤ length xs) × (unfinished_len xs ≡ 0)
finished_first_byte_has_enough_bytes x xs none = ⊎_elim
    (λ e. let some = first_byte_lacking_bytes_makes_all_unfinished x xs e in absurd (omega arith))
    (λ e. (grind (arith, nat_tests), sym (first_byte_with_enough_bytes_is_finished x xs e) ∙ none))
    (cases_Bool (nat_lt (length xs) (following_byte_count x)))

-- UTF-8: if no character is unfinished at the end of xs,
-- the pieces are those of xs and of what follows
pieces_from_are_cut_after_finished_bytes : (k : ℕ) (xs ys : List ℕ) → k ≤ length xs
    → unfinished_len xs ≡ 0 → pieces_from k (xs ++ ys) ≡ pieces_from k xs ++ utf8_pieces ys
unfolding pieces_from
pieces_from_are_cut_after_finished_bytes zero [] ys h none = refl
pieces_from_are_cut_after_finished_bytes (suc k) [] ys h none = absurd (omega arith)
pieces_from_are_cut_after_finished_bytes (suc k) (x ∷ xs) ys h none =
    pieces_from_are_cut_after_finished_bytes k xs ys (omega arith)
    (finished_first_byte_has_enough_bytes x xs none).1
pieces_from_are_cut_after_finished_bytes zero (x ∷ xs) ys h none =
    let row = following_ranges x in
    let p = finished_first_byte_has_enough_bytes x xs none in
    utf8_pieces_are_cut_after_first_if_rest_is x xs ys
    (suffix_of_enough_bytes_keeps_tail_len row xs ys p.0) (pieces_from_are_cut_after_finished_bytes
    (first_piece_tail_len row xs) xs ys (first_piece_tail_is_within_rest row xs) p.1)

-- UTF-8: an unfinished character is no longer than the bytes
unfinished_len_is_at_most_length : (xs : List ℕ) → unfinished_len xs ≤ length xs
unfolding unfinished_len
unfinished_len_is_at_most_length [] = omega arith
unfinished_len_is_at_most_length (x ∷ xs) =
    grind (arith, nat_tests, unfinished_len_is_at_most_length xs)

lead_byte_is_no_continuation : (b : ℕ) → 0 < following_byte_count b
    → is_in_byte_range continuation b ≡ false
lead_byte_is_no_continuation b some = grind (arith, nat_tests, no_byte_follows_below_c2)

unfinished_end_begins_with_no_continuation : (xs ys : List ℕ) → 0 < unfinished_len xs
    → begins_with_continuation (drop (length xs - unfinished_len xs) xs ++ ys) ≡ false
unfolding unfinished_len
unfinished_end_begins_with_no_continuation [] ys some = absurd (omega arith)
unfinished_end_begins_with_no_continuation (x ∷ xs) ys some = ⊎_elim
    (λ e. let all = first_byte_lacking_bytes_makes_all_unfinished x xs e in
    let calls : 0 < following_byte_count x = grind (arith, nat_tests) in
    let whole : suc (length xs) - unfinished_len (x ∷ xs) ≡ 0 = omega arith in
    ap (λ n. begins_with_continuation (drop n (x ∷ xs) ++ ys)) whole ∙ lead_byte_is_no_continuation
    x calls) (λ e. let left = first_byte_with_enough_bytes_is_finished x xs e in
    let fits = unfinished_len_is_at_most_length xs in
    let prefix : suc (length xs) - unfinished_len (x ∷ xs) ≡ suc (length xs - unfinished_len xs) =
    omega arith in
    ap (λ n. begins_with_continuation (drop n (x ∷ xs) ++ ys)) prefix
    ∙ unfinished_end_begins_with_no_continuation xs ys (omega arith))
    (cases_Bool (nat_lt (length xs) (following_byte_count x)))

cut_before_unfinished_end_divides_no_piece : (bytes : List ℕ) → CutsNoPiece (take (length bytes
    - unfinished_len bytes) bytes) (drop (length bytes - unfinished_len bytes) bytes)
cut_before_unfinished_end_divides_no_piece bytes suffix =
    grind (
      arith,
      take_all,
      pieces_from_are_cut_after_finished_bytes,
      utf8_pieces_are_cut_at_non_continuation,
      unfinished_end_begins_with_no_continuation,
    )

pub parts_from_are_cut_where_pieces_are : (prefix end more : List ℕ) (suffix : List Chunk)
    → CutsNoPiece prefix end → parts_from (prefix ++ (end ++ more)) suffix
    ≡ map Decoded (utf8_pieces prefix) ++ parts_from (end ++ more) suffix
unfolding parts_from
parts_from_are_cut_where_pieces_are prefix end more [] parted = grind (arith, nat_tests, map-append)
parts_from_are_cut_where_pieces_are prefix end more (Byte value ∷ chunks) parted =
    let longer : (prefix ++ (end ++ more)) ++ value ∷ [] ≡ prefix ++ (end ++ (more ++ value ∷ [])) =
    append_assoc prefix (end ++ more) (value ∷ [])
    ∙ ap (λ x. prefix ++ x) (append_assoc end more (value ∷ [])) in
    ap (λ x. parts_from x chunks) longer ∙ parts_from_are_cut_where_pieces_are prefix end (more
    ++ value ∷ []) chunks parted ∙ ap (λ x. map Decoded (utf8_pieces prefix)
    ++ parts_from x chunks) (sym (append_assoc end more (value ∷ [])))
parts_from_are_cut_where_pieces_are prefix end more (Text text ∷ chunks) parted =
    grind (arith, nat_tests, map-append, append_assoc)

pub parts_from_are_cut_before_unfinished_end : (bytes : List ℕ) (suffix : List Chunk)
    → parts_from bytes suffix ≡ map Decoded (utf8_pieces (take (length bytes - unfinished_len bytes)
    bytes)) ++ parts_from (drop (length bytes - unfinished_len bytes) bytes) suffix
parts_from_are_cut_before_unfinished_end bytes suffix =
    let n = length bytes - unfinished_len bytes in
    let prefix = take n bytes in
    let end = drop n bytes in
    ap (λ x. parts_from x suffix) (sym (take-append-drop n bytes)
    ∙ ap (λ x. prefix ++ x) (sym (append-nil end))) ∙ parts_from_are_cut_where_pieces_are
    prefix end [] suffix (cut_before_unfinished_end_divides_no_piece bytes)
    ∙ ap (λ x. map Decoded (utf8_pieces prefix) ++ parts_from x suffix) (append-nil end)
