-- The pieces of a text's parts are those of the bytes that it decodes to.
use Rattle.uri_pct.proofs.Common.{◌≡◌, ℕ, true, List, [], ◌∷◌, ◌++◌, map, refl, sym, ap, ◌∙◌, append_assoc, arith, append-nil, list_all, flat_map, encode_utf8, IsScalar, chars, encode_utf8_all, IsUtf8, and_parts, flat_map-append, IsUtf8-encode, encodes-chars, Chunk, Text, Byte, prepend_to_chunks, chunks_of_tokens, chunk_bytes, undecoded, decoded, bytes_left, Decoded, parts_from, pieces_of_parts, Piece, WellFormed, utf8_pieces, is_unencoded, Token, Char, Octet, tokens_from_chars, tokens, bytes_decoded_from, is_printable, nat_tests}
use Rattle.uri_pct.specs.declared.decode.Decode.{Decode}
use Rattle.uri_pct.proofs.Unicode.CharacterPieces.{char_separates_utf8_pieces, first_char_is_first_piece}
use Rattle.uri_pct.proofs.Decodings.Decoding.{tokens_after_unencoded_prefix}
use Rattle.uri_pct.proofs.Unicode.Runs.{no_bytes_have_no_pieces, utf8_pieces_are_cut_after_text}

prepended_text_comes_before_chunk_bytes : (text : List ℕ) (ps : List Chunk)
    → flat_map chunk_bytes (prepend_to_chunks text ps) ≡ text ++ flat_map chunk_bytes ps
unfolding prepend_to_chunks
prepended_text_comes_before_chunk_bytes text [] = refl
prepended_text_comes_before_chunk_bytes text (Text more ∷ ps) = append_assoc text more
    (flat_map chunk_bytes ps)
prepended_text_comes_before_chunk_bytes text (Byte value ∷ ps) = refl

pub chunks_have_bytes_of_their_tokens : (ts : List Token)
    → flat_map chunk_bytes (chunks_of_tokens ts) ≡ bytes_decoded_from ts
unfolding chunks_of_tokens
chunks_have_bytes_of_their_tokens [] = refl
chunks_have_bytes_of_their_tokens (Char c ∷ ts) = prepended_text_comes_before_chunk_bytes
    (encode_utf8 c) (chunks_of_tokens ts)
    ∙ ap (λ x. encode_utf8 c ++ x) (chunks_have_bytes_of_their_tokens ts)
chunks_have_bytes_of_their_tokens (Octet value ∷ ts) = ap (λ x. value ∷ x)
    (chunks_have_bytes_of_their_tokens ts)

pub bytes_left-is-decoded : (d : Decode) → bytes_left d ≡ decoded d
bytes_left-is-decoded d = chunks_have_bytes_of_their_tokens (tokens (undecoded d))

literal_chars_decode_to_their_utf8 : (cs : List ℕ) → bytes_decoded_from (map Char cs)
    ≡ encode_utf8_all cs
literal_chars_decode_to_their_utf8 [] = refl
literal_chars_decode_to_their_utf8 (c ∷ cs) = ap (λ x. encode_utf8 c ++ x)
    (literal_chars_decode_to_their_utf8 cs)

-- UTF-8 of decoded parts: a text without `%` decodes to itself
pub unencoded_text_decodes_to_itself : (text : List ℕ) → IsUtf8 text → is_unencoded text ≡ true
    → bytes_decoded_from (tokens text) ≡ text
unfolding tokens_from_chars chars
unencoded_text_decodes_to_itself text u e = ap (λ x. bytes_decoded_from (tokens x))
    (sym (append-nil text)) ∙ ap bytes_decoded_from (tokens_after_unencoded_prefix text [] u e)
    ∙ ap bytes_decoded_from (append-nil (map Char (chars text)))
    ∙ literal_chars_decode_to_their_utf8 (chars text) ∙ encodes-chars text u

pub decoded_parts_have_their_pieces : (ps : List Piece) → pieces_of_parts (map Decoded ps) ≡ ps
decoded_parts_have_their_pieces [] = refl
decoded_parts_have_their_pieces (p ∷ ps) = ap (λ x. p ∷ x) (decoded_parts_have_their_pieces ps)

-- UTF-8 of decoded parts: octets (run) and a literal text
-- after them have the pieces of each; ps: the chunks after them
pieces_of_run_before_text_chunk : (run text : List ℕ) (ps : List Chunk)
    → pieces_of_parts (parts_from run (Text text ∷ ps))
    ≡ utf8_pieces run ++ (utf8_pieces text ++ pieces_of_parts (parts_from [] ps))
unfolding parts_from
pieces_of_run_before_text_chunk run text ps =
    grind (arith, nat_tests, flat_map-append, decoded_parts_have_their_pieces)

-- UTF-8 of decoded parts: octets (run) and a literal text
-- that joins the next have the pieces of each; ps: the chunks after them
pieces_of_run_before_prepended_text : (run text : List ℕ) (ps : List Chunk) → IsUtf8 text
    → pieces_of_parts (parts_from run (prepend_to_chunks text ps))
    ≡ utf8_pieces run ++ (utf8_pieces text ++ pieces_of_parts (parts_from [] ps))
unfolding prepend_to_chunks
pieces_of_run_before_prepended_text run text [] u = pieces_of_run_before_text_chunk run text []
pieces_of_run_before_prepended_text run text (Text more ∷ ps) u =
    pieces_of_run_before_text_chunk run (text ++ more) ps ∙ ap (λ x. utf8_pieces run
    ++ (x ++ pieces_of_parts (parts_from [] ps))) (utf8_pieces_are_cut_after_text text more u)
    ∙ ap (λ x. utf8_pieces run
    ++ x) (append_assoc (utf8_pieces text) (utf8_pieces more) (pieces_of_parts (parts_from [] ps))
    ∙ ap (λ x. utf8_pieces text ++ x) (sym (pieces_of_run_before_text_chunk [] more ps ∙ ap (λ x. x
    ++ (utf8_pieces more ++ pieces_of_parts (parts_from [] ps))) no_bytes_have_no_pieces)))
pieces_of_run_before_prepended_text run text (Byte value ∷ ps) u = pieces_of_run_before_text_chunk
    run text (Byte value ∷ ps)

char_is_one_well_formed_piece : (c : ℕ) → IsScalar c → utf8_pieces (encode_utf8 c)
    ≡ WellFormed (encode_utf8 c) ∷ []
char_is_one_well_formed_piece c s = ap utf8_pieces (sym (append-nil (encode_utf8 c)))
    ∙ first_char_is_first_piece c [] s
    ∙ ap (λ x. WellFormed (encode_utf8 c) ∷ x) no_bytes_have_no_pieces

-- UTF-8 of decoded parts: a character that can be written is a Unicode scalar value
pub printable_char_is_scalar : (c : ℕ) → is_printable (Char c) ≡ true → IsScalar c
printable_char_is_scalar c e = (and_parts _ true (and_parts _ _ e).0).0

-- UTF-8 of decoded parts: octets (run) and tokens have the pieces of the bytes that they decode to
pub parts_after_run_have_pieces_of_decoded_bytes : (run : List ℕ) (ts : List Token)
    → list_all is_printable ts ≡ true → pieces_of_parts (parts_from run (chunks_of_tokens ts))
    ≡ utf8_pieces (run ++ bytes_decoded_from ts)
unfolding chunks_of_tokens parts_from
parts_after_run_have_pieces_of_decoded_bytes run [] e =
    decoded_parts_have_their_pieces (utf8_pieces run) ∙ ap utf8_pieces (sym (append-nil run))
parts_after_run_have_pieces_of_decoded_bytes run (Octet value ∷ ts) e =
    parts_after_run_have_pieces_of_decoded_bytes (run ++ value ∷ []) ts
    (and_parts (is_printable (Octet value)) _ e).1
    ∙ ap utf8_pieces (append_assoc run (value ∷ []) (bytes_decoded_from ts))
parts_after_run_have_pieces_of_decoded_bytes run (Char c ∷ ts) e =
    let p = and_parts (is_printable (Char c)) _ e in
    let scalar = printable_char_is_scalar c p.0 in
    pieces_of_run_before_prepended_text run
    (encode_utf8 c) (chunks_of_tokens ts) (IsUtf8-encode c scalar)
    ∙ ap (λ x. utf8_pieces run ++ (x ++ pieces_of_parts (parts_from [] (chunks_of_tokens ts))))
    (char_is_one_well_formed_piece c scalar) ∙ ap (λ x. utf8_pieces run
    ++ WellFormed (encode_utf8 c) ∷ x) (parts_after_run_have_pieces_of_decoded_bytes [] ts p.1)
    ∙ sym (char_separates_utf8_pieces run c (bytes_decoded_from ts) scalar)
