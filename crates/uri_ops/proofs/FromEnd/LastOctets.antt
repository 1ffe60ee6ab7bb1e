-- What normalising makes of tokens that end in an octet: the octet by itself, unless it ends the
-- octets of a decodable character.
use Rattle.uri_ops.proofs.Common.{common_steps, ◌≡◌, ℕ, zero, suc, ◌<◌, ◌≤◌, ◌⊎◌, inl, inr, true, false, List, [], ◌∷◌, ◌++◌, length, take, map, refl, sym, ap, ◌∙◌, cond, eqb, arith, ⊎_elim, append_assoc, Option, Some, None, flat_map, IsScalar, encode_utf8, cases_Bool, cond-false, ne_eqb, append-nil, map-append, take_all, drop_all, take-append-le, TableSet, Token, Char, Octet, Piece, WellFormed, IllFormed, ByteRange, piece_bytes, char_of, len_in_ranges, first_piece_tail_len, first_piece, following_ranges, pieces_from, utf8_pieces, IsOfCharacter, is_decodable, decode_piece, decode_run, decode_after_run, decode_tokens, encode_formatting, formatting_as_octets, first_piece_tail_is_within_rest, first_piece_has_first_bytes, pieces_from_are_pieces_after_skipped_bytes, first_piece_is_of_character, char_separates_decoded_tokens, decodable_char_octets_decode_as_char, EndInNoDecodable, TokensEndInNoDecodable}

no_bytes_fit : (ranges : List ByteRange) → len_in_ranges ranges [] ≡ 0
no_bytes_fit [] = refl
no_bytes_fit (range ∷ ranges) = refl

one_more_byte_fits_or_not : (ranges : List ByteRange) (xs : List ℕ) (v : ℕ)
    → (len_in_ranges ranges (xs ++ v ∷ []) ≡ len_in_ranges ranges xs)
    ⊎ ((len_in_ranges ranges (xs ++ v ∷ []) ≡ suc (length xs))
    × (len_in_ranges ranges xs ≡ length xs) × (length xs < length ranges))
one_more_byte_fits_or_not [] xs v = inl refl
one_more_byte_fits_or_not (range ∷ ranges) [] v = grind (arith, no_bytes_fit)
one_more_byte_fits_or_not (range ∷ ranges) (x ∷ xs) v =
    grind (arith, one_more_byte_fits_or_not ranges xs v)

abbrev KeepsFirstPiece : Option (List ByteRange) → ℕ → List ℕ → ℕ → Type 0
KeepsFirstPiece row b xs v = (first_piece_tail_len row (xs ++ v ∷ []) ≡ first_piece_tail_len row xs)
    × (first_piece row b (xs ++ v ∷ []) ≡ first_piece row b xs)

-- UTF-8: one more byte is of the first piece, which is all bytes, and was ill-formed without it
abbrev LengthensFirstPiece : Option (List ByteRange) → ℕ → List ℕ → ℕ → Type 0
LengthensFirstPiece row b xs v = (first_piece_tail_len row (xs ++ v ∷ []) ≡ suc (length xs))
    × (first_piece_tail_len row xs ≡ length xs) × (first_piece row b xs ≡ IllFormed (b ∷ xs))

-- UTF-8: one more byte leaves the first piece as it is, or all bytes are of that piece
one_more_byte_keeps_or_lengthens : (row : Option (List ByteRange)) (b : ℕ) (xs : List ℕ) (v : ℕ)
    → KeepsFirstPiece row b xs v ⊎ LengthensFirstPiece row b xs v
one_more_byte_keeps_or_lengthens None b xs v = inl (refl, refl)
one_more_byte_keeps_or_lengthens (Some ranges) b xs v = ⊎_elim (λ same.
    let fits : len_in_ranges ranges xs ≤ length xs =
    first_piece_tail_is_within_rest (Some ranges) xs in
    inl (
      same,
      ap (λ n. cond (eqb n (length ranges))
          (WellFormed (b ∷ take n (xs ++ v ∷ []))) (IllFormed (b ∷ take n (xs ++ v ∷ [])))) same
          ∙ ap (λ t. cond (eqb (len_in_ranges ranges xs) (length ranges)) (WellFormed (b ∷ t))
          (IllFormed (b ∷ t))) (take-append-le (len_in_ranges ranges xs) xs (v ∷ []) fits),
    )) (λ all.
    let fewer : eqb (len_in_ranges ranges xs) (length ranges) ≡ false =
    ne_eqb _ _ (λ e. absurd (omega arith)) in
    inr (
      all.0,
      all.1,
      cond-false _ _ _ fewer ∙ ap (λ t. IllFormed (b ∷ t))
          (take_all (len_in_ranges ranges xs) xs (omega arith)),
    )) (one_more_byte_fits_or_not ranges xs v)

no_bytes_have_no_pieces : (k : ℕ) → pieces_from k [] ≡ []
unfolding pieces_from
no_bytes_have_no_pieces k = grind (arith, common_steps)

no_pieces_after_all_bytes : (k : ℕ) (bytes : List ℕ) → length bytes ≤ k → pieces_from k bytes ≡ []
no_pieces_after_all_bytes k bytes all = pieces_from_are_pieces_after_skipped_bytes k bytes
    ∙ ap utf8_pieces (drop_all k bytes all) ∙ no_bytes_have_no_pieces 0

undecodable_piece_is_unchanged : (set : TableSet) (p : Piece) (bytes : List ℕ) → piece_bytes p
    ≡ bytes → IsOfCharacter p → EndInNoDecodable set bytes → decode_piece set p ≡ map Octet bytes
undecodable_piece_is_unchanged set (IllFormed own) bytes e of none = ap (map Octet) e
undecodable_piece_is_unchanged set (WellFormed own) bytes e of none =
    ⊎_elim (λ t. absurd (none [] (char_of own) of.0 t (sym e ∙ sym of.1)))
    (λ f. cond-false _ _ _ f ∙ ap (map Octet) e) (cases_Bool (is_decodable set (char_of own)))

-- unreserved octets: bytes after a first one end in no decodable character if all of them do not
rest_ends_in_no_decodable : (set : TableSet) (x : ℕ) (bytes : List ℕ)
    → EndInNoDecodable set (x ∷ bytes) → EndInNoDecodable set bytes
rest_ends_in_no_decodable set x bytes none before c scalar decodable e =
    none (x ∷ before) c scalar decodable (ap (λ t. x ∷ t) e)

-- unreserved octets: the tokens of the pieces of bytes, after the first k
abbrev decoded_from : TableSet → ℕ → List ℕ → List Token
decoded_from set k bytes = flat_map (decode_piece set) (pieces_from k bytes)

lengthened_piece_is_unchanged : (set : TableSet) (x : ℕ) (xs : List ℕ) (v : ℕ)
    → LengthensFirstPiece (following_ranges x) x xs v → EndInNoDecodable set (x ∷ xs ++ v ∷ [])
    → decoded_from set 0 (x ∷ xs ++ v ∷ []) ≡ decoded_from set 0 (x ∷ xs) ++ Octet v ∷ []
unfolding pieces_from
lengthened_piece_is_unchanged set x xs v h none =
    grind (
      arith,
      common_steps,
      first_piece_has_first_bytes,
      no_pieces_after_all_bytes,
      undecodable_piece_is_unchanged,
      first_piece_is_of_character,
    )

-- unreserved octets: after the first k bytes, the last octet of a run is unchanged, if no
-- decodable character ends there
last_octet_of_run_is_unchanged_from : (set : TableSet) (k : ℕ) (run : List ℕ) (v : ℕ)
    → k ≤ length run → EndInNoDecodable set (run ++ v ∷ [])
    → decoded_from set k (run ++ v ∷ []) ≡ decoded_from set k run ++ Octet v ∷ []
unfolding pieces_from
last_octet_of_run_is_unchanged_from set (suc k) [] v small none = absurd (omega arith)
last_octet_of_run_is_unchanged_from set (suc k) (x ∷ xs) v small none =
    last_octet_of_run_is_unchanged_from set k xs v (omega arith)
    (rest_ends_in_no_decodable set x (xs ++ v ∷ []) none)
last_octet_of_run_is_unchanged_from set zero [] v small none =
    grind (
      arith,
      common_steps,
      first_piece_has_first_bytes,
      no_bytes_have_no_pieces,
      undecodable_piece_is_unchanged,
      first_piece_is_of_character,
    )
last_octet_of_run_is_unchanged_from set zero (x ∷ xs) v small none =
    let row = following_ranges x in
    ⊎_elim (λ keeps. ap (λ p. decode_piece set p
    ++ decoded_from set (first_piece_tail_len row (xs ++ v ∷ [])) (xs ++ v ∷ [])) keeps.1
    ∙ ap (λ n. decode_piece set (first_piece row x xs) ++ decoded_from set n (xs ++ v ∷ [])) keeps.0
    ∙ ap (λ t. decode_piece set (first_piece row x xs)
    ++ t) (last_octet_of_run_is_unchanged_from set (first_piece_tail_len row xs) xs v
    (first_piece_tail_is_within_rest row xs) (rest_ends_in_no_decodable set x (xs ++ v ∷ []) none))
    ∙ sym (append_assoc (decode_piece set (first_piece row x xs))
    (decoded_from set (first_piece_tail_len row xs) xs) (Octet v ∷ [])))
    (λ lengthens. lengthened_piece_is_unchanged set x xs v lengthens none)
    (one_more_byte_keeps_or_lengthens row x xs v)

last_octet_of_run_is_unchanged : (set : TableSet) (run : List ℕ) (v : ℕ) → EndInNoDecodable set (run
    ++ v ∷ []) → decode_run set (run ++ v ∷ []) ≡ decode_run set run ++ Octet v ∷ []
unfolding decode_run
last_octet_of_run_is_unchanged set run v none =
    last_octet_of_run_is_unchanged_from set 0 run v (omega arith) none

run_ends_in_no_decodable : (set : TableSet) (run : List ℕ) (v : ℕ)
    → TokensEndInNoDecodable set (map Octet run ++ Octet v ∷ [])
    → EndInNoDecodable set (run ++ v ∷ [])
run_ends_in_no_decodable set run v none before c scalar decodable e =
    none (map Octet before) c scalar decodable (sym (map-append Octet run (v ∷ []))
    ∙ ap (map Octet) e ∙ map-append Octet before (encode_utf8 c))

pub last_octet_is_unchanged_after_run : (set : TableSet) (run : List ℕ) (ts : List Token) (v : ℕ)
    → TokensEndInNoDecodable set (map Octet run ++ (ts ++ Octet v ∷ []))
    → decode_after_run set run (ts ++ Octet v ∷ []) ≡ decode_after_run set run ts ++ Octet v ∷ []
unfolding decode_after_run
last_octet_is_unchanged_after_run set run [] v none =
    last_octet_of_run_is_unchanged set run v (run_ends_in_no_decodable set run v none)
last_octet_is_unchanged_after_run set run (Octet u ∷ ts) v none = last_octet_is_unchanged_after_run
    set (run ++ u ∷ []) ts v (λ before c scalar decodable e. none before c scalar decodable
    (sym (ap (λ t. t ++ (ts ++ Octet v ∷ [])) (map-append Octet run (u ∷ []))
    ∙ append_assoc (map Octet run) (Octet u ∷ []) (ts ++ Octet v ∷ [])) ∙ e))
last_octet_is_unchanged_after_run set run (Char d ∷ ts) v none =
    ap (λ x. decode_run set run ++ Char d ∷ x) (last_octet_is_unchanged_after_run set [] ts v
    (λ before c scalar decodable e. none
    (map Octet run ++ Char d ∷ before) c scalar decodable (ap (λ t. map Octet run ++ Char d ∷ t) e
    ∙ sym (append_assoc (map Octet run) (Char d ∷ before) (map Octet (encode_utf8 c))))))
    ∙ sym (append_assoc (decode_run set run) (Char d ∷ decode_after_run set [] ts) (Octet v ∷ []))

-- unreserved octets: the tokens that normalising makes of tokens
abbrev pub decoded : TableSet → List Token → List Token
decoded set ts = encode_formatting set (decode_tokens set ts)

pub last_character_is_decoded_alone : (set : TableSet) (ts : List Token) (c : ℕ)
    → decoded set (ts ++ Char c ∷ []) ≡ decoded set ts ++ formatting_as_octets set (Char c)
unfolding decode_after_run decode_run pieces_from
last_character_is_decoded_alone set ts c =
    grind (arith, common_steps, char_separates_decoded_tokens)

pub last_decodable_is_decoded : (set : TableSet) (ts : List Token) (c : ℕ)
    → IsScalar c → is_decodable set c ≡ true → decoded set (ts ++ map Octet (encode_utf8 c))
    ≡ decoded set ts ++ formatting_as_octets set (Char c)
last_decodable_is_decoded set ts c scalar decodable =
    ap (λ t. decoded set (ts ++ t)) (sym (append-nil (map Octet (encode_utf8 c))))
    ∙ ap (encode_formatting set) (decodable_char_octets_decode_as_char set ts c [] scalar decodable)
    ∙ last_character_is_decoded_alone set ts c
