-- If a set has no characters past ASCII, each octet is decoded by itself.
use Rattle.uri_pct.proofs.Common.{◌≡◌, ℕ, zero, suc, ◌<◌, ◌≤◌, true, false, cond, leb, List, [], ◌∷◌, ◌++◌, take, drop, map, refl, sym, ap, ◌∙◌, arith, ◌&&◌, ⊎_elim, append_assoc, Option, Some, None, list_all, flat_map, or-false, low_scalar, encode_ascii, append-nil, map-append, take-append-drop, cases_Bool, cond-false, and_parts, and_from, cases_lt, leb-true, le-leb, false_from_ne_true, TableSet, allows_past_ascii, is_unreserved, Token, Char, Octet, tokens, Piece, WellFormed, IllFormed, ByteRange, is_in_byte_range, char_of, piece_bytes, following_ranges, len_in_ranges, first_piece_tail_len, first_piece, pieces_from, IsOfCharacter, LacksPastAscii, is_decodable, decode_octet, decode_piece, decode_run, decode_after_run, decode_unreserved, nat_tests}
use Rattle.uri_pct.proofs.Unicode.Pieces.{is_continuation_range, are_continuation_ranges, following_ranges_are_continuations, first_piece_has_first_bytes}
use Rattle.uri_pct.proofs.Unicode.CharacterPieces.{first_piece_is_of_character, char_of_utf8_is_the_char}
use Rattle.uri_pct.proofs.Unicode.FirstBytes.{no_range_follows_ascii_byte}
use Rattle.uri_pct.proofs.ValidTexts.Allowed.{unreserved_is_ascii}
use Rattle.uri_pct.proofs.UnreservedDecoding.Formatting as Formatting

-- unreserved octets of a URI: exactly unreserved characters are decoded,
-- as the set has none past ASCII
decodable_is_unreserved_in_uri : (set : TableSet) (c : ℕ) → LacksPastAscii set → is_decodable set c
    ≡ is_unreserved c
unfolding is_decodable allows_past_ascii
decodable_is_unreserved_in_uri set c alone = rw (alone.0, alone.1) (or-false (is_unreserved c))

decoded_octet_token : ℕ → Token
decoded_octet_token value = decode_octet (Octet value)

octets_past_ascii_are_unchanged : (bytes : List ℕ) → list_all (leb 128) bytes ≡ true
    → map decoded_octet_token bytes ≡ map Octet bytes
unfolding decoded_octet_token
octets_past_ascii_are_unchanged [] e = refl
octets_past_ascii_are_unchanged (b ∷ rest) e =
    let p = and_parts (leb 128 b) _ e in
    let high : 128 ≤ b = leb-true 128 b p.0 in
    let reserved : is_unreserved b ≡ false =
    false_from_ne_true _ (λ u. let low = unreserved_is_ascii b u in omega arith) in
    ap (λ t. t ∷ map decoded_octet_token rest) (cond-false _ _ _ reserved)
    ∙ ap (λ x. Octet b ∷ x) (octets_past_ascii_are_unchanged rest p.1)

byte_in_continuation_range_is_past_ascii : (range : ByteRange) (b : ℕ)
    → is_continuation_range range ≡ true → is_in_byte_range range b ≡ true → leb 128 b ≡ true
unfolding is_continuation_range
byte_in_continuation_range_is_past_ascii range b inner e = grind (arith, nat_tests)

bytes_in_continuation_ranges_are_past_ascii : (ranges : List ByteRange) (text : List ℕ)
    → list_all is_continuation_range ranges ≡ true
    → list_all (leb 128) (take (len_in_ranges ranges text) text) ≡ true
bytes_in_continuation_ranges_are_past_ascii [] text inner = refl
bytes_in_continuation_ranges_are_past_ascii (range ∷ ranges) [] inner = refl
bytes_in_continuation_ranges_are_past_ascii (range ∷ ranges) (b ∷ rest) inner =
    let p = and_parts (is_continuation_range range) _ inner in
    ⊎_elim (λ e. rw e (and_from _ _ (byte_in_continuation_range_is_past_ascii range b p.0 e)
    (bytes_in_continuation_ranges_are_past_ascii ranges rest p.1)))
    (λ e. rw e refl) (cases_Bool (is_in_byte_range range b))

-- unreserved octets of a URI: all bytes of the first piece
-- but its first are past ASCII; row: which may follow
first_piece_tail_is_past_ascii : (row : Option (List ByteRange)) (text : List ℕ)
    → are_continuation_ranges row ≡ true
    → list_all (leb 128) (take (first_piece_tail_len row text) text) ≡ true
unfolding are_continuation_ranges
first_piece_tail_is_past_ascii None text inner = refl
first_piece_tail_is_past_ascii (Some ranges) text inner =
    bytes_in_continuation_ranges_are_past_ascii ranges text inner

piece_past_ascii_is_unchanged_in_uri : (set : TableSet) (p : Piece) → LacksPastAscii set
    → IsOfCharacter p
    → list_all (leb 128) (piece_bytes p) ≡ true → decode_piece set p ≡ map Octet (piece_bytes p)
piece_past_ascii_is_unchanged_in_uri set (IllFormed bytes) alone h e = refl
piece_past_ascii_is_unchanged_in_uri set (WellFormed bytes) alone h e =
    grind (arith, nat_tests, decodable_is_unreserved_in_uri, unreserved_is_ascii, encode_ascii)

ascii_piece_is_decoded_as_octet_in_uri : (set : TableSet) (b : ℕ) → LacksPastAscii set → b < 128
    → decode_piece set (WellFormed (b ∷ [])) ≡ decoded_octet_token b ∷ []
unfolding decoded_octet_token
ascii_piece_is_decoded_as_octet_in_uri set b alone low =
    let same : char_of (b ∷ []) ≡ b = ap char_of (sym (encode_ascii b low))
    ∙ char_of_utf8_is_the_char b (low_scalar b (omega arith)) in
    ap (λ c. cond (is_decodable set c) (Char c ∷ []) (Octet b ∷ [])) same
    ∙ ap (λ t. cond t (Char b ∷ []) (Octet b ∷ [])) (decodable_is_unreserved_in_uri set b alone)
    ∙ ⊎_elim (λ e. rw e refl) (λ e. rw e refl) (cases_Bool (is_unreserved b))

piece_is_decoded_octet_by_octet_in_uri : (set : TableSet) (b : ℕ) (rest : List ℕ)
    → LacksPastAscii set → decode_piece set (first_piece (following_ranges b) b rest)
    ≡ map decoded_octet_token (b ∷ take (first_piece_tail_len (following_ranges b) rest) rest)
piece_is_decoded_octet_by_octet_in_uri set b rest alone =
    ⊎_elim (λ low. rw (no_range_follows_ascii_byte b low)
    (ascii_piece_is_decoded_as_octet_in_uri set b alone low)) (λ high.
    let bytes = first_piece_has_first_bytes (following_ranges b) b rest in
    let past = and_from _ _ (le-leb 128 b high) (first_piece_tail_is_past_ascii
    (following_ranges b) rest (following_ranges_are_continuations b)) in
    piece_past_ascii_is_unchanged_in_uri set (first_piece (following_ranges b) b rest) alone
    (first_piece_is_of_character b rest _ refl) (ap (list_all (leb 128)) bytes ∙ past)
    ∙ ap (map Octet) bytes ∙ sym (octets_past_ascii_are_unchanged (b
    ∷ take (first_piece_tail_len (following_ranges b) rest) rest) past)) (cases_lt b 128)

-- unreserved octets of a URI: pieces are decoded octet by octet; k: how many bytes are skipped
pieces_are_decoded_octet_by_octet_in_uri : (set : TableSet) (k : ℕ) (bytes : List ℕ)
    → LacksPastAscii set
    → flat_map (decode_piece set) (pieces_from k bytes) ≡ map decoded_octet_token (drop k bytes)
unfolding pieces_from
pieces_are_decoded_octet_by_octet_in_uri set zero [] alone = refl
pieces_are_decoded_octet_by_octet_in_uri set (suc k) [] alone = refl
pieces_are_decoded_octet_by_octet_in_uri set (suc k) (b ∷ rest) alone =
    pieces_are_decoded_octet_by_octet_in_uri set k rest alone
pieces_are_decoded_octet_by_octet_in_uri set zero (b ∷ rest) alone =
    let n = first_piece_tail_len (following_ranges b) rest in
    ap (λ x. x ++ flat_map (decode_piece set) (pieces_from n rest))
    (piece_is_decoded_octet_by_octet_in_uri set b rest alone) ∙ ap (λ x. map decoded_octet_token
    (b ∷ take n rest) ++ x) (pieces_are_decoded_octet_by_octet_in_uri set n rest alone)
    ∙ ap (λ x. decoded_octet_token b ∷ x) (sym (map-append decoded_octet_token
    (take n rest) (drop n rest)) ∙ ap (map decoded_octet_token) (take-append-drop n rest))

run_is_decoded_octet_by_octet_in_uri : (set : TableSet) (run : List ℕ) → LacksPastAscii set
    → decode_run set run ≡ map decoded_octet_token run
unfolding decode_run
run_is_decoded_octet_by_octet_in_uri set run alone = pieces_are_decoded_octet_by_octet_in_uri set
    0 run alone

-- unreserved octets of a URI: without characters past ASCII, tokens are decoded one by one
tokens_are_decoded_octet_by_octet_in_uri : (set : TableSet) (run : List ℕ) (ts : List Token)
    → LacksPastAscii set
    → decode_after_run set run ts ≡ map decoded_octet_token run ++ map decode_octet ts
unfolding decode_after_run decoded_octet_token
tokens_are_decoded_octet_by_octet_in_uri set run [] alone = run_is_decoded_octet_by_octet_in_uri set
    run alone ∙ sym (append-nil (map decoded_octet_token run))
tokens_are_decoded_octet_by_octet_in_uri set run (Octet value ∷ ts) alone =
    tokens_are_decoded_octet_by_octet_in_uri set (run ++ value ∷ []) ts alone ∙ ap (λ x. x
    ++ map decode_octet ts) (map-append decoded_octet_token run (value ∷ [])) ∙ append_assoc
    (map decoded_octet_token run) (decoded_octet_token value ∷ []) (map decode_octet ts)
tokens_are_decoded_octet_by_octet_in_uri set run (Char c ∷ ts) alone = ap (λ x. x
    ++ Char c ∷ decode_after_run set [] ts) (run_is_decoded_octet_by_octet_in_uri set run alone)
    ∙ ap (λ x. map decoded_octet_token run
    ++ Char c ∷ x) (tokens_are_decoded_octet_by_octet_in_uri set [] ts alone)

-- unreserved octets of a URI: each octet is decoded by itself
pub text_is_decoded_octet_by_octet_in_uri : (set : TableSet) (text : List ℕ) → LacksPastAscii set
    → decode_unreserved set text ≡ map decode_octet (tokens text)
text_is_decoded_octet_by_octet_in_uri set text alone =
    Formatting.encode_formatting_without_flags_keeps_tokens set
    (decode_after_run set [] (tokens text)) (ap (λ b. b && set.pct_encoded) alone.0)
    ∙ tokens_are_decoded_octet_by_octet_in_uri set [] (tokens text) alone
