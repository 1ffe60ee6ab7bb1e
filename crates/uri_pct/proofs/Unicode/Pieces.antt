-- The pieces of bytes. Joined they are the bytes. What follows does not change the first ones. A
-- byte that continues no character always begins one.
use Rattle.uri_pct.proofs.Common.{◌≡◌, ℕ, zero, suc, ◌+◌, ◌≤◌, Bool, true, false, cond, leb, List, [], ◌∷◌, ◌++◌, length, take, drop, refl, sym, ap, ◌∙◌, arith, ◌&&◌, ⊎_elim, Option, Some, None, option_map, subst, zero-add, list_all, find, take-take, drop-take, take_at, take-append-drop, take-append-le, cases_Bool, cond-true, cond-false, and_parts, Piece, ByteRange, Row, is_in_byte_range, continuation, well_formed_rows, begins_with_continuation, piece_bytes, bytes_of_pieces, following_ranges, len_in_ranges, first_piece_tail_len, first_piece, pieces_from, utf8_pieces, nat_tests}

-- UTF-8: no more bytes fit ranges than there are
len_in_ranges_is_at_most_length : (ranges : List ByteRange) (text : List ℕ)
    → len_in_ranges ranges text ≤ length text
len_in_ranges_is_at_most_length [] text = omega arith
len_in_ranges_is_at_most_length (range ∷ ranges) [] = omega arith
len_in_ranges_is_at_most_length (range ∷ ranges) (b ∷ rest) =
    grind (arith, nat_tests, len_in_ranges_is_at_most_length ranges rest)

-- UTF-8: the first piece takes no more of the rest than there is;
-- row: which bytes may follow the first
pub first_piece_tail_is_within_rest : (row : Option (List ByteRange)) (rest : List ℕ)
    → first_piece_tail_len row rest ≤ length rest
first_piece_tail_is_within_rest None rest = omega arith
first_piece_tail_is_within_rest (Some ranges) rest = len_in_ranges_is_at_most_length ranges rest

-- UTF-8: the first piece has the first byte b, and some of the rest; row: which bytes may follow b
pub first_piece_has_first_bytes : (row : Option (List ByteRange)) (b : ℕ) (rest : List ℕ)
    → piece_bytes (first_piece row b rest) ≡ b ∷ take (first_piece_tail_len row rest) rest
first_piece_has_first_bytes None b rest = refl
first_piece_has_first_bytes (Some ranges) b rest = grind (arith, nat_tests)

-- UTF-8: the pieces after k skipped bytes are those of the bytes after them
pub pieces_from_are_pieces_after_skipped_bytes : (k : ℕ) (bytes : List ℕ) → pieces_from k bytes
    ≡ utf8_pieces (drop k bytes)
unfolding pieces_from
pieces_from_are_pieces_after_skipped_bytes zero bytes = refl
pieces_from_are_pieces_after_skipped_bytes (suc k) [] = refl
pieces_from_are_pieces_after_skipped_bytes (suc k) (b ∷ rest) =
    pieces_from_are_pieces_after_skipped_bytes k rest

pieces_after_skipped_bytes_join_to_the_rest : (k : ℕ) (bytes : List ℕ)
    → bytes_of_pieces (pieces_from k bytes) ≡ drop k bytes
unfolding pieces_from
pieces_after_skipped_bytes_join_to_the_rest zero [] = refl
pieces_after_skipped_bytes_join_to_the_rest (suc k) [] = refl
pieces_after_skipped_bytes_join_to_the_rest (suc k) (b ∷ rest) =
    pieces_after_skipped_bytes_join_to_the_rest k rest
pieces_after_skipped_bytes_join_to_the_rest zero (b ∷ rest) =
    let n = first_piece_tail_len (following_ranges b) rest in
    ap (λ x. x ++ bytes_of_pieces (pieces_from n rest))
    (first_piece_has_first_bytes (following_ranges b) b rest) ∙ ap (λ x. b ∷ (take n rest ++ x))
    (pieces_after_skipped_bytes_join_to_the_rest n rest) ∙ ap (λ x. b ∷ x) (take-append-drop n rest)

pub bytes_of_utf8_pieces_are_the_bytes : (bytes : List ℕ) → bytes_of_pieces (utf8_pieces bytes)
    ≡ bytes
bytes_of_utf8_pieces_are_the_bytes bytes = pieces_after_skipped_bytes_join_to_the_rest 0 bytes

-- the ranges of the table are of bytes that begin no character
unfoldable pub is_continuation_range : ByteRange → Bool
is_continuation_range range = leb 0x80 range.0 && leb range.1 0xBF

unfoldable pub are_continuation_ranges : Option (List ByteRange) → Bool
are_continuation_ranges None = true
are_continuation_ranges (Some ranges) = list_all is_continuation_range ranges

-- UTF-8: if each row of the table has continuation bytes only, the row that a search finds has too
found_row_has_continuation_ranges : (b : ℕ) (rows : List Row)
    → list_all (λ (row : Row). list_all is_continuation_range row.1) rows ≡ true
    → are_continuation_ranges (option_map (λ (row : Row). row.1)
    (find (λ (row : Row). is_in_byte_range row.0 b) rows)) ≡ true
unfolding are_continuation_ranges
found_row_has_continuation_ranges b [] h = refl
found_row_has_continuation_ranges b (row ∷ rows) h =
    let p = and_parts (list_all is_continuation_range row.1) _ h in
    ⊎_elim (λ e. rw e p.0) (λ e. rw e (found_row_has_continuation_ranges b rows p.1))
    (cases_Bool (is_in_byte_range row.0 b))

-- UTF-8: only the bytes 80 to BF may follow a first byte
pub following_ranges_are_continuations : (b : ℕ) → are_continuation_ranges (following_ranges b)
    ≡ true
unfolding following_ranges is_continuation_range
following_ranges_are_continuations b = found_row_has_continuation_ranges b well_formed_rows refl

-- UTF-8: a byte that continues no character is in no range of bytes that may follow
non_continuation_is_in_no_continuation_range : (range : ByteRange) (b : ℕ)
    → is_continuation_range range ≡ true → is_in_byte_range continuation b ≡ false
    → is_in_byte_range range b ≡ false
unfolding is_continuation_range
non_continuation_is_in_no_continuation_range range b inner out = grind (arith, nat_tests)

-- UTF-8: what follows does not fit the ranges, if it begins with a byte that continues no character
fitting_stops_at_non_continuation : (ranges : List ByteRange) (xs ys : List ℕ)
    → list_all is_continuation_range ranges ≡ true → begins_with_continuation ys ≡ false
    → len_in_ranges ranges (xs ++ ys) ≡ len_in_ranges ranges xs
fitting_stops_at_non_continuation [] xs ys inner out = refl
fitting_stops_at_non_continuation (range ∷ ranges) [] [] inner out = refl
fitting_stops_at_non_continuation (range ∷ ranges) [] (b ∷ ys) inner out =
    grind (arith, cond-false, non_continuation_is_in_no_continuation_range)
fitting_stops_at_non_continuation (range ∷ ranges) (x ∷ xs) ys inner out = ap
    (λ n. cond (is_in_byte_range range x) (suc n) 0) (fitting_stops_at_non_continuation ranges xs ys
    (and_parts (is_continuation_range range) _ inner).1 out)

-- UTF-8: the first piece ends before a byte that continues none;
-- row: which bytes may follow its first
first_piece_tail_stops_at_non_continuation : (row : Option (List ByteRange)) (xs ys : List ℕ)
    → are_continuation_ranges row ≡ true → begins_with_continuation ys ≡ false
    → first_piece_tail_len row (xs ++ ys) ≡ first_piece_tail_len row xs
unfolding are_continuation_ranges
first_piece_tail_stops_at_non_continuation None xs ys inner out = refl
first_piece_tail_stops_at_non_continuation (Some ranges) xs ys inner out =
    fitting_stops_at_non_continuation ranges xs ys inner out

-- UTF-8: the first piece is the same whatever follows,
-- if as many bytes follow its first; row: which may
first_piece_is_unchanged_by_suffix : (row : Option (List ByteRange)) (b : ℕ) (xs ys : List ℕ)
    → first_piece_tail_len row (xs ++ ys) ≡ first_piece_tail_len row xs
    → first_piece row b (xs ++ ys) ≡ first_piece row b xs
first_piece_is_unchanged_by_suffix None b xs ys same = refl
first_piece_is_unchanged_by_suffix (Some ranges) b xs ys same =
    grind (arith, nat_tests, take-append-le, len_in_ranges_is_at_most_length)

pub utf8_pieces_are_cut_after_first_if_rest_is : (x : ℕ) (xs ys : List ℕ)
    → first_piece_tail_len (following_ranges x) (xs ++ ys) ≡ first_piece_tail_len
    (following_ranges x) xs → pieces_from (first_piece_tail_len (following_ranges x) xs) (xs ++ ys)
    ≡ pieces_from (first_piece_tail_len (following_ranges x) xs) xs ++ utf8_pieces ys
    → utf8_pieces ((x ∷ xs) ++ ys) ≡ utf8_pieces (x ∷ xs) ++ utf8_pieces ys
unfolding pieces_from
utf8_pieces_are_cut_after_first_if_rest_is x xs ys same left =
    grind (arith, nat_tests, first_piece_is_unchanged_by_suffix)

-- UTF-8: pieces are cut before a byte that continues no character; k: how many bytes are skipped
pieces_from_are_cut_at_non_continuation : (k : ℕ) (xs ys : List ℕ) → k ≤ length xs
    → begins_with_continuation ys ≡ false
    → pieces_from k (xs ++ ys) ≡ pieces_from k xs ++ utf8_pieces ys
unfolding pieces_from
pieces_from_are_cut_at_non_continuation zero [] ys h out = refl
pieces_from_are_cut_at_non_continuation (suc k) [] ys h out = absurd (omega arith)
pieces_from_are_cut_at_non_continuation (suc k) (x ∷ xs) ys h out =
    pieces_from_are_cut_at_non_continuation k xs ys (omega arith) out
pieces_from_are_cut_at_non_continuation zero (x ∷ xs) ys h out =
    let row = following_ranges x in
    utf8_pieces_are_cut_after_first_if_rest_is x xs ys (first_piece_tail_stops_at_non_continuation
    row xs ys (following_ranges_are_continuations x) out) (pieces_from_are_cut_at_non_continuation
    (first_piece_tail_len row xs) xs ys (first_piece_tail_is_within_rest row xs) out)

-- UTF-8: a byte that continues no character begins a piece
pub utf8_pieces_are_cut_at_non_continuation : (xs ys : List ℕ) → begins_with_continuation ys ≡ false
    → utf8_pieces (xs ++ ys) ≡ utf8_pieces xs ++ utf8_pieces ys
utf8_pieces_are_cut_at_non_continuation xs ys out = pieces_from_are_cut_at_non_continuation 0 xs ys
    (omega arith) out

-- UTF-8: if bytes are cut after those that fit ranges, as many fit
cut_after_fitting_bytes_keeps_len_in_ranges : (ranges : List ByteRange) (text : List ℕ) (m : ℕ)
    → len_in_ranges ranges text ≤ m → len_in_ranges ranges (take m text) ≡ len_in_ranges ranges text
cut_after_fitting_bytes_keeps_len_in_ranges [] text m h = refl
cut_after_fitting_bytes_keeps_len_in_ranges (range ∷ ranges) [] zero h = refl
cut_after_fitting_bytes_keeps_len_in_ranges (range ∷ ranges) [] (suc m) h = refl
cut_after_fitting_bytes_keeps_len_in_ranges (range ∷ ranges) (b ∷ rest) zero h =
    grind (arith, nat_tests)
cut_after_fitting_bytes_keeps_len_in_ranges (range ∷ ranges) (b ∷ rest) (suc m) h = ⊎_elim
    (λ e. let fits : suc (len_in_ranges ranges rest) ≤ suc m =
    subst (λ n. n ≤ suc m) (cond-true _ _ _ e) h in
    rw e (ap suc (cut_after_fitting_bytes_keeps_len_in_ranges ranges rest m (omega arith))))
    (λ e. rw e refl) (cases_Bool (is_in_byte_range range b))

-- UTF-8: a cut after the first piece leaves as many bytes in it; row: which may follow its first
cut_after_first_piece_keeps_its_tail_len : (row : Option (List ByteRange)) (rest : List ℕ) (m : ℕ)
    → first_piece_tail_len row rest ≤ m
    → first_piece_tail_len row (take m rest) ≡ first_piece_tail_len row rest
cut_after_first_piece_keeps_its_tail_len None rest m h = refl
cut_after_first_piece_keeps_its_tail_len (Some ranges) rest m h =
    cut_after_fitting_bytes_keeps_len_in_ranges ranges rest m h

-- UTF-8: a cut after the first piece leaves it as it is; row: which bytes may follow b
cut_after_first_piece_keeps_it : (row : Option (List ByteRange)) (b : ℕ) (rest : List ℕ) (m : ℕ)
    → first_piece_tail_len row rest ≤ m → first_piece row b (take m rest) ≡ first_piece row b rest
cut_after_first_piece_keeps_it None b rest m h = refl
cut_after_first_piece_keeps_it (Some ranges) b rest m h =
    grind (arith, nat_tests, cut_after_fitting_bytes_keeps_len_in_ranges, take-take)

take_of_nothing_is_nothing : (n : ℕ) → take {A = ℕ} n [] ≡ []
take_of_nothing_is_nothing zero = refl
take_of_nothing_is_nothing (suc n) = refl

-- general fact on prefixes, for pieces of UTF-8: n bytes and then m are n + m
pub take_then_take_is_take_of_sum : (n m : ℕ) (text : List ℕ) → take n text ++ take m (drop n text)
    ≡ take (n + m) text
take_then_take_is_take_of_sum zero m text = ap (λ k. take k text) (sym (zero-add m))
take_then_take_is_take_of_sum (suc n) m [] = take_of_nothing_is_nothing m
    ∙ sym (take_of_nothing_is_nothing (suc n + m))
take_then_take_is_take_of_sum (suc n) m (b ∷ rest) = let e : suc n + m
    ≡ suc (n + m) = omega arith in
    rw e (ap (λ t. b ∷ t) (take_then_take_is_take_of_sum n m rest))

-- UTF-8: the bytes of the first j pieces are a prefix of the bytes; k: how many are skipped
bytes_of_first_pieces_are_prefix : (k j : ℕ) (bytes : List ℕ)
    → (m : ℕ) × (bytes_of_pieces (take j (pieces_from k bytes)) ≡ take m (drop k bytes))
unfolding pieces_from
bytes_of_first_pieces_are_prefix k zero bytes = (0, refl)
bytes_of_first_pieces_are_prefix zero (suc j) [] = (0, refl)
bytes_of_first_pieces_are_prefix (suc k) (suc j) [] = (0, refl)
bytes_of_first_pieces_are_prefix (suc k) (suc j) (b ∷ rest) = bytes_of_first_pieces_are_prefix k
    (suc j) rest
bytes_of_first_pieces_are_prefix zero (suc j) (b ∷ rest) =
    let n = first_piece_tail_len (following_ranges b) rest in
    let ih = bytes_of_first_pieces_are_prefix n j rest in (
      suc (n + ih.0),
      ap (λ x. x ++ bytes_of_pieces (take j (pieces_from n rest))) (first_piece_has_first_bytes
          (following_ranges b) b rest) ∙ ap (λ x. b ∷ (take n rest ++ x)) ih.1
          ∙ ap (λ x. b ∷ x) (take_then_take_is_take_of_sum n ih.0 rest),
    )

-- UTF-8: the first j pieces of bytes are the pieces of their own bytes;
-- k: how many bytes are skipped
first_pieces_are_pieces_of_own_bytes : (k j : ℕ) (bytes : List ℕ)
    → utf8_pieces (bytes_of_pieces (take j (pieces_from k bytes))) ≡ take j (pieces_from k bytes)
unfolding pieces_from
first_pieces_are_pieces_of_own_bytes k zero bytes = refl
first_pieces_are_pieces_of_own_bytes zero (suc j) [] = refl
first_pieces_are_pieces_of_own_bytes (suc k) (suc j) [] = refl
first_pieces_are_pieces_of_own_bytes (suc k) (suc j) (b ∷ rest) =
    first_pieces_are_pieces_of_own_bytes k (suc j) rest
first_pieces_are_pieces_of_own_bytes zero (suc j) (b ∷ rest) =
    let row = following_ranges b in
    let n = first_piece_tail_len row rest in
    let prefix = bytes_of_pieces (take j (pieces_from n rest)) in
    let f = bytes_of_first_pieces_are_prefix n j rest in
    let kept = take (n + f.0) rest in
    ap (λ x. utf8_pieces (x ++ prefix)) (first_piece_has_first_bytes row b rest)
    ∙ ap (λ x. utf8_pieces (b ∷ (take n rest ++ x))) f.1
    ∙ ap (λ x. utf8_pieces (b ∷ x)) (take_then_take_is_take_of_sum n f.0 rest) ∙ ap (λ p. p
    ∷ pieces_from (first_piece_tail_len row kept) kept) (cut_after_first_piece_keeps_it row b rest
    (n + f.0) (omega arith)) ∙ ap (λ m. first_piece row b rest ∷ pieces_from m kept)
    (cut_after_first_piece_keeps_its_tail_len row rest (n + f.0) (omega arith))
    ∙ ap (λ ps. first_piece row b rest ∷ ps) (pieces_from_are_pieces_after_skipped_bytes n kept
    ∙ ap utf8_pieces (drop-take n f.0 rest ∙ sym f.1)
    ∙ first_pieces_are_pieces_of_own_bytes n j rest)

-- UTF-8: the pieces are those of their own bytes
abbrev pub ArePiecesOfOwnBytes : List Piece → Type 0
ArePiecesOfOwnBytes ps = utf8_pieces (bytes_of_pieces ps) ≡ ps

pub utf8_pieces-are-of-own-bytes : (bytes : List ℕ) → ArePiecesOfOwnBytes (utf8_pieces bytes)
utf8_pieces-are-of-own-bytes bytes = ap utf8_pieces (bytes_of_utf8_pieces_are_the_bytes bytes)

-- UTF-8: if the pieces of a list are those of their own bytes, so are the first of them (ps)
pub prefix_of_pieces_is_of_own_bytes : (ps qs : List Piece) → ArePiecesOfOwnBytes (ps ++ qs)
    → ArePiecesOfOwnBytes ps
prefix_of_pieces_is_of_own_bytes ps qs cut =
    let same : take (length ps) (utf8_pieces (bytes_of_pieces (ps ++ qs))) ≡ ps =
    ap (take (length ps)) cut ∙ take_at ps qs (length ps) refl in
    sym (ap (λ x. utf8_pieces (bytes_of_pieces x)) same)
    ∙ first_pieces_are_pieces_of_own_bytes 0 (length ps) (bytes_of_pieces (ps ++ qs)) ∙ same

pieces_after_first_are_of_own_bytes : (bytes : List ℕ) (p : Piece) (ps : List Piece)
    → utf8_pieces bytes ≡ p ∷ ps → ArePiecesOfOwnBytes ps
unfolding pieces_from
pieces_after_first_are_of_own_bytes [] p ps e = cc
pieces_after_first_are_of_own_bytes (b ∷ rest) p ps e =
    let n = first_piece_tail_len (following_ranges b) rest in
    let same : ps ≡ utf8_pieces (drop n rest) = ap (drop 1) (sym e)
    ∙ pieces_from_are_pieces_after_skipped_bytes n rest in
    rw same (utf8_pieces-are-of-own-bytes (drop n rest))

-- UTF-8: if the pieces of a list are those of their own bytes, so are those after the first (ps)
pub tail_of_pieces_is_of_own_bytes : (p : Piece) (ps : List Piece) → ArePiecesOfOwnBytes (p ∷ ps)
    → ArePiecesOfOwnBytes ps
tail_of_pieces_is_of_own_bytes p ps cut = pieces_after_first_are_of_own_bytes
    (bytes_of_pieces (p ∷ ps)) p ps cut
