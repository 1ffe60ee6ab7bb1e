-- The pieces of a run of octets, by the parts that std finds in it.
use Rattle.uri_pct.proofs.Common.{◌≡◌, ℕ, suc, ◌<◌, List, [], ◌∷◌, ◌++◌, length, take, drop, map, refl, sym, ap, ◌∙◌, subst, arith, append_assoc, true, ◌==◌, IsUtf8, eqb-true, utf8_valid_len, utf8_invalid_len, append-nil, nil_from_length, length-append, take-append_seam, drop-append_seam, IllFormed, following_ranges, first_piece_tail_len, first_piece, pieces_from, utf8_pieces, piece_bytes, ill_formed_piece_if_any, nat_tests}
use Rattle.uri_pct.proofs.Unicode.Pieces.{pieces_from_are_pieces_after_skipped_bytes, first_piece_has_first_bytes}
use Rattle.uri_pct.proofs.Unicode.Lossy.{piece_of_char, pieces_of_chars_come_before_the_rest, ill_formed_after_valid_prefix, utf8_valid_len_prefix_is_utf8, nonempty_bytes_have_first_byte}
use Rattle.uri_pct.proofs.Unicode.IllFormedLengths.{ill_formed_len_is_std_len}

pub no_bytes_have_no_pieces : utf8_pieces [] ≡ []
unfolding pieces_from
no_bytes_have_no_pieces = refl

pub bytes_of_length_zero_have_no_pieces : (bytes : List ℕ) → (length bytes == 0) ≡ true
    → utf8_pieces bytes ≡ []
bytes_of_length_zero_have_no_pieces bytes e =
    ap utf8_pieces (nil_from_length bytes (eqb-true _ 0 e)) ∙ no_bytes_have_no_pieces

pub utf8_pieces_are_cut_after_text : (text rest : List ℕ) → IsUtf8 text
    → utf8_pieces (text ++ rest) ≡ utf8_pieces text ++ utf8_pieces rest
utf8_pieces_are_cut_after_text text rest u =
    let alone : utf8_pieces text ≡ map piece_of_char u.0 = ap utf8_pieces (sym (append-nil text)
    ∙ ap (λ x. x ++ []) (sym u.1.1)) ∙ pieces_of_chars_come_before_the_rest u.0 [] u.1.0
    ∙ ap (λ ps. map piece_of_char u.0 ++ ps) no_bytes_have_no_pieces
    ∙ append-nil (map piece_of_char u.0) in
    grind (arith, nat_tests, pieces_of_chars_come_before_the_rest)

ill_formed_first_piece_is_cut_off : (b : ℕ) (rest bytes : List ℕ)
    → first_piece (following_ranges b) b rest ≡ IllFormed bytes → utf8_pieces (b ∷ rest)
    ≡ IllFormed bytes ∷ utf8_pieces (drop (first_piece_tail_len (following_ranges b) rest) rest)
unfolding pieces_from
ill_formed_first_piece_is_cut_off b rest bytes e =
    grind (arith, nat_tests, pieces_from_are_pieces_after_skipped_bytes)

-- ill-formed UTF-8: after the longest prefix
-- that is UTF-8 comes an ill-formed part, as long as std takes it
ill_formed_piece_follows_valid_prefix : (bs invalid rest : List ℕ) → drop (utf8_valid_len bs) bs
    ≡ invalid ++ rest
    → 0 < length invalid → length invalid ≡ utf8_invalid_len (drop (utf8_valid_len bs) bs)
    → utf8_pieces (invalid ++ rest) ≡ IllFormed invalid ∷ utf8_pieces rest
ill_formed_piece_follows_valid_prefix bs invalid rest suffix some long =
    let f = nonempty_bytes_have_first_byte (invalid ++ rest)
    (omega (arith, length-append invalid rest)) in
    let b = f.0 in
    let more = f.1 in
    let prefix : drop (utf8_valid_len bs) bs ≡ b ∷ more = suffix ∙ f.2 in
    let bad = ill_formed_after_valid_prefix bs b more (first_piece (following_ranges b) b more)
    prefix (refl {a = first_piece (following_ranges b) b more}) in
    let k = first_piece_tail_len (following_ranges b) more in
    let size : suc k ≡ length invalid = ill_formed_len_is_std_len b more bad.0 bad.1
    ∙ ap utf8_invalid_len (sym prefix) ∙ sym long in
    let bytes : bad.0 ≡ invalid = sym (ap piece_bytes bad.1)
    ∙ first_piece_has_first_bytes (following_ranges b) b more ∙ ap (take (suc k)) (sym f.2)
    ∙ ap (λ n. take n (invalid ++ rest)) size ∙ take-append_seam invalid rest in
    let after : drop k more ≡ rest = ap (drop (suc k)) (sym f.2)
    ∙ ap (λ n. drop n (invalid ++ rest)) size ∙ drop-append_seam invalid rest in
    grind (arith, nat_tests, ill_formed_first_piece_is_cut_off)

pieces_of_std_chunk_with_ill_formed_part : (bs valid invalid rest : List ℕ)
    → bs ≡ valid ++ (invalid ++ rest) → length valid ≡ utf8_valid_len bs
    → length invalid ≡ utf8_invalid_len (drop (utf8_valid_len bs) bs) → 0 < length invalid
    → utf8_pieces bs ≡ utf8_pieces valid ++ (IllFormed invalid ∷ utf8_pieces rest)
pieces_of_std_chunk_with_ill_formed_part bs valid invalid rest same text_len fault_len some =
    let prefix : take (utf8_valid_len bs) bs ≡ valid = ap (λ n. take n bs) (sym text_len)
    ∙ ap (take (length valid)) same ∙ take-append_seam valid (invalid ++ rest) in
    let suffix : drop (utf8_valid_len bs) bs ≡ invalid ++ rest = ap (λ n. drop n bs) (sym text_len)
    ∙ ap (drop (length valid)) same ∙ drop-append_seam valid (invalid ++ rest) in
    ap utf8_pieces same ∙ utf8_pieces_are_cut_after_text valid (invalid
    ++ rest) (subst IsUtf8 prefix (utf8_valid_len_prefix_is_utf8 bs)) ∙ ap (λ ps. utf8_pieces valid
    ++ ps) (ill_formed_piece_follows_valid_prefix bs invalid rest suffix some fault_len)

pub utf8_pieces-of-std-chunk : (bs valid invalid rest : List ℕ)
    → bs ≡ valid ++ (invalid ++ rest) → length valid ≡ utf8_valid_len bs → length invalid
    ≡ utf8_invalid_len (drop (utf8_valid_len bs) bs) → (length invalid ≡ 0 → length rest ≡ 0)
    → utf8_pieces bs ≡ (utf8_pieces valid ++ ill_formed_piece_if_any invalid) ++ utf8_pieces rest
utf8_pieces-of-std-chunk bs valid [] rest same text_len fault_len last =
    grind (arith, nat_tests, nil_from_length, append-nil, no_bytes_have_no_pieces)
utf8_pieces-of-std-chunk bs valid (b ∷ bytes) rest same text_len fault_len last =
    grind (arith, nat_tests, pieces_of_std_chunk_with_ill_formed_part, append_assoc)
