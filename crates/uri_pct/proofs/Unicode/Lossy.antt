-- Bytes are UTF-8 if each piece is well-formed, and the lossy text is that of std.
use Rattle.uri_pct.proofs.Common.{◌≡◌, ℕ, zero, suc, ◌+◌, ◌-◌, ◌<◌, ◌≤◌, ◌↔◌, true, List, [], ◌∷◌, ◌++◌, length, take, drop, map, refl, sym, ap, ◌∙◌, arith, ⊎_elim, append_assoc, subst, encode_utf8, append-nil, take-append-drop, length-drop, take_all, drop-drop, list_all, flat_map, All, IsUtf8, is_utf8, all_scalars, encode_utf8_all, valid_len_up_to, utf8_valid_len, utf8_lossy, replacement_bytes, utf8_invalid_len, after_first_chunk, flat_map-append, All-head, All-tail, IsUtf8-append, IsUtf8-nil, IsUtf8-encode, IsUtf8-from_is_utf8, is_utf8-from_IsUtf8, utf8_valid_len_le, utf8_lossy_step, utf8_lossy-IsUtf8, cases_Bool, cond-true, cond-false, and_parts, cases_eq, both_ways, Piece, WellFormed, IllFormed, IsOfCharacter, is_well_formed, piece_bytes, bytes_of_pieces, char_of, following_ranges, first_piece_tail_len, first_piece, pieces_from, utf8_pieces, lossy_piece, lossy_text, nat_tests}
use Rattle.uri_pct.proofs.Unicode.Pieces.{bytes_of_utf8_pieces_are_the_bytes, pieces_from_are_pieces_after_skipped_bytes, first_piece_has_first_bytes, first_piece_tail_is_within_rest, take_then_take_is_take_of_sum}
use Rattle.uri_pct.proofs.Unicode.CharacterPieces.{utf8_pieces-are-of-characters, first_char_is_first_piece, first_piece_is_of_character}
use Rattle.uri_pct.proofs.Unicode.IllFormedLengths.{ill_formed_len_is_std_len}

unfoldable pub piece_of_char : ℕ → Piece
piece_of_char c = WellFormed (encode_utf8 c)

pub pieces_of_chars_come_before_the_rest : (cs rest : List ℕ) → all_scalars cs ≡ true
    → utf8_pieces (encode_utf8_all cs ++ rest) ≡ map piece_of_char cs ++ utf8_pieces rest
unfolding piece_of_char
pieces_of_chars_come_before_the_rest [] rest e = refl
pieces_of_chars_come_before_the_rest (c ∷ cs) rest e =
    let p = and_parts _ (all_scalars cs) e in
    ap utf8_pieces (append_assoc (encode_utf8 c) (encode_utf8_all cs) rest)
    ∙ first_char_is_first_piece c (encode_utf8_all cs ++ rest) p.0
    ∙ ap (λ ps. piece_of_char c ∷ ps) (pieces_of_chars_come_before_the_rest cs rest p.1)

pieces_of_chars_are_well_formed : (cs : List ℕ) → list_all is_well_formed (map piece_of_char cs)
    ≡ true
unfolding piece_of_char
pieces_of_chars_are_well_formed [] = refl
pieces_of_chars_are_well_formed (c ∷ cs) = pieces_of_chars_are_well_formed cs

pieces_of_no_bytes_add_nothing : (ps : List Piece) → ps ++ utf8_pieces [] ≡ ps
unfolding pieces_from
pieces_of_no_bytes_add_nothing ps = append-nil ps

utf8_has_well_formed_pieces : (bytes : List ℕ) → IsUtf8 bytes
    → list_all is_well_formed (utf8_pieces bytes) ≡ true
utf8_has_well_formed_pieces bytes u =
    let whole : utf8_pieces bytes ≡ map piece_of_char u.0 =
    ap utf8_pieces (sym (append-nil (encode_utf8_all u.0) ∙ u.1.1))
    ∙ pieces_of_chars_come_before_the_rest u.0 [] u.1.0
    ∙ pieces_of_no_bytes_add_nothing (map piece_of_char u.0) in
    ap (list_all is_well_formed) whole ∙ pieces_of_chars_are_well_formed u.0

well_formed_pieces_join_to_utf8 : (ps : List Piece) → All IsOfCharacter ps
    → list_all is_well_formed ps ≡ true → IsUtf8 (bytes_of_pieces ps)
well_formed_pieces_join_to_utf8 [] h e = IsUtf8-nil
well_formed_pieces_join_to_utf8 (WellFormed bytes ∷ ps) h e =
    let c = All-head IsOfCharacter (WellFormed bytes) ps h in
    IsUtf8-append bytes (bytes_of_pieces ps) (subst IsUtf8 c.1 (IsUtf8-encode (char_of bytes) c.0))
    (well_formed_pieces_join_to_utf8 ps (All-tail IsOfCharacter (WellFormed bytes) ps h) e)
well_formed_pieces_join_to_utf8 (IllFormed bytes ∷ ps) h e = cc

bytes_with_well_formed_pieces_are_utf8 : (bytes : List ℕ)
    → list_all is_well_formed (utf8_pieces bytes) ≡ true → IsUtf8 bytes
bytes_with_well_formed_pieces_are_utf8 bytes e = subst IsUtf8
    (bytes_of_utf8_pieces_are_the_bytes bytes)
    (well_formed_pieces_join_to_utf8 (utf8_pieces bytes) (utf8_pieces-are-of-characters bytes) e)

-- UTF-8: bytes are UTF-8 exactly where no piece is ill-formed
pub IsUtf8-iff-well_formed : (bytes : List ℕ)
    → (list_all is_well_formed (utf8_pieces bytes) ≡ true) ↔ IsUtf8 bytes
IsUtf8-iff-well_formed bytes =
    (bytes_with_well_formed_pieces_are_utf8 bytes, utf8_has_well_formed_pieces bytes)

-- lossy UTF-8: characters are written as their UTF-8
lossy_text_of_chars_is_their_utf8 : (cs : List ℕ) → flat_map lossy_piece (map piece_of_char cs)
    ≡ encode_utf8_all cs
unfolding piece_of_char
lossy_text_of_chars_is_their_utf8 [] = refl
lossy_text_of_chars_is_their_utf8 (c ∷ cs) = ap (λ x. encode_utf8 c ++ x)
    (lossy_text_of_chars_is_their_utf8 cs)

-- lossy UTF-8: a text in UTF-8 is unchanged, whatever follows it
lossy_text_keeps_utf8_prefix : (text rest : List ℕ) → IsUtf8 text
    → lossy_text (text ++ rest) ≡ text ++ lossy_text rest
lossy_text_keeps_utf8_prefix text rest u = ap (λ x. lossy_text (x ++ rest)) (sym u.1.1)
    ∙ ap (flat_map lossy_piece) (pieces_of_chars_come_before_the_rest u.0 rest u.1.0)
    ∙ flat_map-append lossy_piece (map piece_of_char u.0) (utf8_pieces rest)
    ∙ ap (λ x. x ++ lossy_text rest) (lossy_text_of_chars_is_their_utf8 u.0 ∙ u.1.1)

-- lossy UTF-8: the longest prefix of up to m bytes that std finds to be UTF-8 is so
prefix_of_valid_len_is_utf8 : (bs : List ℕ) (m : ℕ) → IsUtf8 (take (valid_len_up_to bs m) bs)
prefix_of_valid_len_is_utf8 bs zero = IsUtf8-nil
prefix_of_valid_len_is_utf8 bs (suc m) = ⊎_elim (λ e. subst
    (λ n. IsUtf8 (take n bs)) (sym (cond-true _ _ _ e)) (IsUtf8-from_is_utf8 (take (suc m) bs) e))
    (λ e. subst (λ n. IsUtf8 (take n bs)) (sym (cond-false _ _ _ e))
    (prefix_of_valid_len_is_utf8 bs m)) (cases_Bool (is_utf8 (take (suc m) bs)))

-- lossy UTF-8: no prefix of up to m bytes that is UTF-8 is longer than the one that std finds
prefix_of_valid_len_is_longest_utf8 : (bs : List ℕ) (m k : ℕ) → valid_len_up_to bs m < k → k ≤ m
    → IsUtf8 (take k bs) → ⊥
prefix_of_valid_len_is_longest_utf8 bs zero k more within u = omega arith
prefix_of_valid_len_is_longest_utf8 bs (suc m) k more within u =
    ⊎_elim (λ e. let above : suc m < k = subst (λ n. n < k) (cond-true _ _ _ e) more in omega arith)
    (λ e. ⊎_elim (λ same. both_ways _ e (is_utf8-from_IsUtf8 (take (suc m) bs)
    (subst (λ n. IsUtf8 (take n bs)) same u))) (λ other. prefix_of_valid_len_is_longest_utf8 bs m k
    (subst (λ n. n < k) (cond-false _ _ _ e) more) (omega (arith, other)) u) (cases_eq k (suc m)))
    (cases_Bool (is_utf8 (take (suc m) bs)))

-- general fact on lists, for lossy UTF-8: a text that is not empty is a first byte and a rest
pub nonempty_bytes_have_first_byte : (text : List ℕ) → 0 < length text → (b : ℕ) × (rest : List ℕ)
    × (text ≡ b ∷ rest)
nonempty_bytes_have_first_byte [] h = absurd (omega arith)
nonempty_bytes_have_first_byte (b ∷ rest) h = (b, rest, refl)

-- lossy UTF-8: after the longest prefix that is UTF-8 comes an ill-formed part
pub ill_formed_after_valid_prefix : (bs : List ℕ) (b : ℕ) (rest : List ℕ) (p : Piece)
    → drop (utf8_valid_len bs) bs ≡ b ∷ rest → first_piece (following_ranges b) b rest ≡ p
    → (bytes : List ℕ) × (p ≡ IllFormed bytes)
unfolding utf8_valid_len
ill_formed_after_valid_prefix bs b rest (IllFormed bytes) suffix e = (bytes, refl)
ill_formed_after_valid_prefix bs b rest (WellFormed bytes) suffix e =
    let n = valid_len_up_to bs (length bs) in
    let m = first_piece_tail_len (following_ranges b) rest in
    let character = first_piece_is_of_character b rest (WellFormed bytes) e in
    let text : IsUtf8 bytes = subst IsUtf8 character.1
    (IsUtf8-encode (char_of bytes) character.0) in
    let same : bytes ≡ take (suc m) (drop n bs) = sym (ap piece_bytes e)
    ∙ first_piece_has_first_bytes (following_ranges b) b rest ∙ sym (ap (take (suc m)) suffix) in
    let whole : take n bs ++ bytes ≡ take (n + suc m) bs = ap (λ x. take n bs ++ x) same
    ∙ take_then_take_is_take_of_sum n (suc m) bs in
    let long : length bs - n ≡ suc (length rest) = sym (length-drop n bs) ∙ ap length suffix in
    let within = first_piece_tail_is_within_rest (following_ranges b) rest in
    absurd (prefix_of_valid_len_is_longest_utf8 bs (length bs) (n + suc m) (omega arith)
    (omega arith) (subst IsUtf8 whole (IsUtf8-append (take n bs) bytes
    (prefix_of_valid_len_is_utf8 bs (length bs)) text)))

-- lossy UTF-8: the prefix that std finds to be UTF-8 is so
pub utf8_valid_len_prefix_is_utf8 : (bs : List ℕ) → IsUtf8 (take (utf8_valid_len bs) bs)
unfolding utf8_valid_len
utf8_valid_len_prefix_is_utf8 bs = prefix_of_valid_len_is_utf8 bs (length bs)

-- lossy UTF-8: a text in UTF-8 is unchanged
pub lossy_text_of_utf8_is_itself : (bs : List ℕ) → IsUtf8 bs → lossy_text bs ≡ bs
unfolding pieces_from
lossy_text_of_utf8_is_itself bs u = ap lossy_text (sym (append-nil bs))
    ∙ lossy_text_keeps_utf8_prefix bs [] u ∙ append-nil bs

-- lossy UTF-8: an ill-formed part becomes one replacement character, U+FFFD
lossy_text_of_ill_formed_piece_is_replacement : (b : ℕ) (rest : List ℕ) (bytes : List ℕ)
    → first_piece (following_ranges b) b rest ≡ IllFormed bytes → lossy_text (b ∷ rest)
    ≡ replacement_bytes ++ lossy_text (drop (first_piece_tail_len (following_ranges b) rest) rest)
unfolding pieces_from
lossy_text_of_ill_formed_piece_is_replacement b rest bytes e =
    grind (arith, nat_tests, pieces_from_are_pieces_after_skipped_bytes)

lossy_text_is_utf8_lossy_after_ill_formed : (bs : List ℕ) (b : ℕ) (rest bytes : List ℕ)
    → ¬ (utf8_valid_len bs ≡ length bs) → drop (utf8_valid_len bs) bs ≡ b ∷ rest
    → first_piece (following_ranges b) b rest ≡ IllFormed bytes → ((ys : List ℕ)
    → length ys < length bs → lossy_text ys ≡ utf8_lossy ys) → lossy_text bs ≡ utf8_lossy bs
lossy_text_is_utf8_lossy_after_ill_formed bs b rest bytes faulty prefix bad shorter =
    let n = utf8_valid_len bs in
    let m = first_piece_tail_len (following_ranges b) rest in
    let long : suc m ≡ utf8_invalid_len (drop n bs) = ill_formed_len_is_std_len b rest bytes bad
    ∙ ap utf8_invalid_len (sym prefix) in
    let suffix : drop m rest ≡ after_first_chunk bs = ap (drop (suc m)) (sym prefix)
    ∙ drop-drop (suc m) n bs ∙ ap (λ j. drop (n + j) bs) long in
    let less : length (drop m rest) < length bs =
    omega (arith, length-drop m rest, length-drop n bs, ap length prefix) in
    ap lossy_text (sym (take-append-drop n bs) ∙ ap (λ x. take n bs ++ x) prefix)
    ∙ lossy_text_keeps_utf8_prefix (take n bs) (b ∷ rest) (utf8_valid_len_prefix_is_utf8 bs)
    ∙ ap (λ x. take n bs ++ x) (lossy_text_of_ill_formed_piece_is_replacement b rest bytes bad
    ∙ ap (λ x. replacement_bytes ++ x) (shorter (drop m rest) less ∙ ap utf8_lossy suffix))
    ∙ sym (utf8_lossy_step bs faulty)

-- lossy UTF-8: for bytes that are not UTF-8,
-- the lossy text is that of std if it is for all shorter bytes
lossy_text_is_utf8_lossy_if_not_utf8 : (bs : List ℕ) → ¬ (utf8_valid_len bs ≡ length bs)
    → ((ys : List ℕ) → length ys < length bs → lossy_text ys ≡ utf8_lossy ys)
    → lossy_text bs ≡ utf8_lossy bs
lossy_text_is_utf8_lossy_if_not_utf8 bs faulty shorter =
    let within = utf8_valid_len_le bs in
    let f = nonempty_bytes_have_first_byte (drop (utf8_valid_len bs) bs)
    (omega (arith, faulty, length-drop (utf8_valid_len bs) bs)) in
    let piece = first_piece (following_ranges f.0) f.0 f.1 in
    let bad = ill_formed_after_valid_prefix bs f.0 f.1 piece f.2 (refl {a = piece}) in
    lossy_text_is_utf8_lossy_after_ill_formed bs f.0 f.1 bad.0 faulty f.2 bad.1 shorter

-- lossy UTF-8: for bytes that are UTF-8, the lossy text is that of std
lossy_text_is_utf8_lossy_of_utf8 : (bs : List ℕ) → utf8_valid_len bs ≡ length bs → lossy_text bs
    ≡ utf8_lossy bs
lossy_text_is_utf8_lossy_of_utf8 bs whole =
    let text : IsUtf8 bs = subst IsUtf8 (ap (λ n. take n bs) whole
    ∙ take_all (length bs) bs (omega arith)) (utf8_valid_len_prefix_is_utf8 bs) in
    lossy_text_of_utf8_is_itself bs text ∙ sym (utf8_lossy-IsUtf8 bs text)

lossy_text_is_utf8_lossy_below_length : (k : ℕ) (bs : List ℕ) → length bs < k → lossy_text bs
    ≡ utf8_lossy bs
lossy_text_is_utf8_lossy_below_length zero bs h = absurd (omega arith)
lossy_text_is_utf8_lossy_below_length (suc k) bs h = ⊎_elim
    (λ whole. lossy_text_is_utf8_lossy_of_utf8 bs whole)
    (λ faulty. lossy_text_is_utf8_lossy_if_not_utf8 bs faulty
    (λ ys less. lossy_text_is_utf8_lossy_below_length k ys (omega arith)))
    (cases_eq (utf8_valid_len bs) (length bs))

-- lossy UTF-8: the lossy text of bytes, as it is defined, is that of std
pub lossy_text-is-utf8_lossy : (bytes : List ℕ) → lossy_text bytes ≡ utf8_lossy bytes
lossy_text-is-utf8_lossy bytes = lossy_text_is_utf8_lossy_below_length (suc (length bytes)) bytes
    (omega arith)
