-- The tokens that texts and bytes are encoded as.
use Rattle.uri_pct.proofs.Common.{◌≡◌, ℕ, ◌+◌, ◌-◌, ◌≤◌, true, false, List, [], ◌∷◌, ◌++◌, length, take, drop, map, refl, sym, ap, ◌∙◌, arith, append_assoc, flat_map, All, encode_utf8, len_utf8, chars, encode_utf8_all, all_scalars, IsUtf8, take-append_seam, cond-true, cond-false, and_parts, append-nil, drop-drop, length-take, take-append-le, take-take, nil_from_length, flat_map-append, All-head, All-tail, chars_past_char, encodes-chars, scalars-chars, length-encode, TableSet, allows, Token, Octet, bytes_decoded_from, bytes_of_one_token, text_of_token, print, Piece, IsOfCharacter, bytes_of_pieces, utf8_pieces, encode_char, encode_text, encode_piece, encode_bytes, ill_formed_piece_if_any, nat_tests}
use Rattle.uri_pct.proofs.Unicode.CharacterPieces.{utf8_pieces-are-of-characters, char_of_utf8_is_the_char}
use Rattle.uri_pct.proofs.Unicode.Lossy.{piece_of_char, pieces_of_chars_come_before_the_rest}
use Rattle.uri_pct.proofs.Unicode.Runs.{no_bytes_have_no_pieces}
use Rattle.uri_pct.proofs.Unicode.Pieces.{bytes_of_utf8_pieces_are_the_bytes, take_then_take_is_take_of_sum}

-- encoding: what is written of two lists of tokens is what is written of each
pub print-append : (ts us : List Token) → print (ts ++ us) ≡ print ts ++ print us
print-append ts us = flat_map-append text_of_token ts us

pub encode_text-by-first-char : (set : TableSet) (text rest : List ℕ) (c : ℕ) → IsUtf8 text → text
    ≡ encode_utf8 c ++ rest → encode_text set text ≡ encode_char set c ++ encode_text set rest
encode_text-by-first-char set text rest c u e =
    ap (flat_map (encode_char set)) (chars_past_char text rest c u e)

-- encoding: an allowed character is written as it is
pub allowed_char_is_printed_literally : (set : TableSet) (c : ℕ) → allows set c ≡ true
    → print (encode_char set c) ≡ encode_utf8 c
allowed_char_is_printed_literally set c e = ap print (cond-true _ _ _ e)
    ∙ append-nil (encode_utf8 c)

-- encoding: a character that is not allowed becomes the octets of its UTF-8
pub disallowed_char_is_encoded_as_octets : (set : TableSet) (c : ℕ) → allows set c ≡ false
    → encode_char set c ≡ map Octet (encode_utf8 c)
disallowed_char_is_encoded_as_octets set c e = cond-false _ _ _ e

-- encoding: the octets of bytes decode to the bytes
pub octets_decode_to_their_bytes : (bytes : List ℕ) → bytes_decoded_from (map Octet bytes) ≡ bytes
octets_decode_to_their_bytes [] = refl
octets_decode_to_their_bytes (b ∷ bytes) = ap (λ x. b ∷ x) (octets_decode_to_their_bytes bytes)

encoded_char_decodes_to_its_bytes : (set : TableSet) (c : ℕ)
    → bytes_decoded_from (encode_char set c) ≡ encode_utf8 c
encoded_char_decodes_to_its_bytes set c =
    grind (arith, nat_tests, append-nil, octets_decode_to_their_bytes)

encoded_chars_decode_to_their_bytes : (set : TableSet) (cs : List ℕ)
    → bytes_decoded_from (flat_map (encode_char set) cs) ≡ encode_utf8_all cs
encoded_chars_decode_to_their_bytes set [] = refl
encoded_chars_decode_to_their_bytes set (c ∷ cs) = flat_map-append bytes_of_one_token
    (encode_char set c) (flat_map (encode_char set) cs) ∙ ap (λ x. x
    ++ bytes_decoded_from (flat_map (encode_char set) cs)) (encoded_char_decodes_to_its_bytes set c)
    ∙ ap (λ x. encode_utf8 c ++ x) (encoded_chars_decode_to_their_bytes set cs)

pub encoded_text_decodes_to_itself : (set : TableSet) (text : List ℕ) → IsUtf8 text
    → bytes_decoded_from (encode_text set text) ≡ text
encoded_text_decodes_to_itself set text u = encoded_chars_decode_to_their_bytes set (chars text)
    ∙ encodes-chars text u

encoded_pieces_decode_to_their_bytes : (set : TableSet) (ps : List Piece) → All IsOfCharacter ps
    → bytes_decoded_from (flat_map (encode_piece set) ps) ≡ bytes_of_pieces ps
encoded_pieces_decode_to_their_bytes set [] h = refl
encoded_pieces_decode_to_their_bytes set (p ∷ ps) h =
    grind (
      arith,
      encoded_pieces_decode_to_their_bytes set ps (All-tail IsOfCharacter p ps h),
      flat_map-append,
      octets_decode_to_their_bytes,
      All-head,
    )

pub encoded_bytes_decode_to_themselves : (set : TableSet) (bytes : List ℕ)
    → bytes_decoded_from (encode_bytes set bytes) ≡ bytes
encoded_bytes_decode_to_themselves set bytes = encoded_pieces_decode_to_their_bytes set
    (utf8_pieces bytes) (utf8_pieces-are-of-characters bytes)
    ∙ bytes_of_utf8_pieces_are_the_bytes bytes

-- encoding: a run of a text, up to the next character, has this character (c) more
pub slice_with_one_more_char : (text : List ℕ) (start end c : ℕ)
    → start ≤ end → drop end text ≡ encode_utf8 c ++ drop (end + len_utf8 c) text → take (end
    + len_utf8 c - start) (drop start text) ≡ take (end - start) (drop start text) ++ encode_utf8 c
slice_with_one_more_char text start end c ordered e =
    let n = end - start in
    let size : end + len_utf8 c - start ≡ n + len_utf8 c = omega arith in
    let place : start + n ≡ end = omega arith in
    let suffix : drop n (drop start text) ≡ encode_utf8 c ++ drop (end + len_utf8 c) text =
    drop-drop n start text ∙ ap (λ k. drop k text) place ∙ e in
    let prefix : take (len_utf8 c) (drop n (drop start text)) ≡ encode_utf8 c =
    ap (take (len_utf8 c)) suffix ∙ ap (λ k. take k (encode_utf8 c ++ drop (end + len_utf8 c) text))
    (sym (length-encode c)) ∙ take-append_seam (encode_utf8 c) (drop (end + len_utf8 c) text) in
    grind (arith, nat_tests, take_then_take_is_take_of_sum)

pub append_keeps_prefix : (old new more : List ℕ) → take (length old) new ≡ old
    → take (length old) (new ++ more) ≡ old
append_keeps_prefix old new more e = grind (arith, nat_tests, length-take, take-append-le)

pub unchanged_prefix-transitive : (old mid new : List ℕ) → take (length old) mid ≡ old
    → take (length mid) new ≡ mid → take (length old) new ≡ old
unchanged_prefix-transitive old mid new e f = grind (arith, nat_tests, length-take, take-take)

pub empty_text_is_encoded_as_nothing : (set : TableSet) → print (encode_text set []) ≡ []
unfolding chars
empty_text_is_encoded_as_nothing set = refl

pieces_of_chars_are_encoded_as_chars : (set : TableSet) (cs : List ℕ) → all_scalars cs ≡ true
    → flat_map (encode_piece set) (map piece_of_char cs) ≡ flat_map (encode_char set) cs
unfolding piece_of_char
pieces_of_chars_are_encoded_as_chars set [] e = refl
pieces_of_chars_are_encoded_as_chars set (c ∷ cs) e =
    let p = and_parts _ (all_scalars cs) e in
    ap (λ x. x ++ flat_map (encode_piece set) (map piece_of_char cs))
    (ap (encode_char set) (char_of_utf8_is_the_char c p.0))
    ∙ ap (λ x. encode_char set c ++ x) (pieces_of_chars_are_encoded_as_chars set cs p.1)

-- encoding: a text in UTF-8 is encoded character by character
pub pieces_of_text_are_encoded_as_text : (set : TableSet) (text : List ℕ) → IsUtf8 text
    → flat_map (encode_piece set) (utf8_pieces text) ≡ encode_text set text
pieces_of_text_are_encoded_as_text set text u =
    let all = encodes-chars text u in
    ap (λ x. flat_map (encode_piece set) (utf8_pieces x)) (sym (append-nil text)
    ∙ ap (λ x. x ++ []) (sym all))
    ∙ ap (flat_map (encode_piece set)) (pieces_of_chars_come_before_the_rest (chars text) []
    (scalars-chars text u) ∙ ap (λ ps. map piece_of_char (chars text) ++ ps) no_bytes_have_no_pieces
    ∙ append-nil (map piece_of_char (chars text)))
    ∙ pieces_of_chars_are_encoded_as_chars set (chars text) (scalars-chars text u)

-- encoding: after a chunk and its ill-formed part (fault),
-- what is left to append are the bytes after them
pub encoded_bytes_after_chunk : (set : TableSet) (out mid new bytes text fault rest all : List ℕ)
    → IsUtf8 text
    → utf8_pieces bytes ≡ (utf8_pieces text ++ ill_formed_piece_if_any fault) ++ utf8_pieces rest
    → mid ≡ out ++ print (encode_text set text) → new ≡ mid ++ print (map Octet fault)
    → out ++ print (encode_bytes set bytes) ≡ all → new ++ print (encode_bytes set rest) ≡ all
encoded_bytes_after_chunk set out mid new bytes text fault rest all u pieces first then whole =
    grind (arith, flat_map-append, pieces_of_text_are_encoded_as_text, append_assoc)

pub encoded_bytes_at_end : (set : TableSet) (out bytes all : List ℕ) → length bytes ≡ 0
    → out ++ print (encode_bytes set bytes) ≡ all → out ≡ all
encoded_bytes_at_end set out bytes all none whole =
    grind (arith, nat_tests, append-nil, nil_from_length, no_bytes_have_no_pieces)
