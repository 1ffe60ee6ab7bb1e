-- The tokens of encoded texts and bytes: `tokens` inverts `print` on them, and a set with octets
-- allows them.
use Rattle.uri_pct.proofs.Common.{◌≡◌, ℕ, suc, ◌+◌, ◌%◌, ◌<◌, Bool, true, ltb, List, [], ◌∷◌, get_or, map, refl, sym, ap, ◌∙◌, arith, ⊎_elim, list_all, flat_map, All, IsScalar, encode_utf8, chars, IsUtf8, all_scalars, cases_Bool, cond-true, cond-false, and_parts, and_from, lt-ltb, nat_tests, list_all-append, All-head, All-tail, encode_ascii, scalars-chars, TableSet, LacksPercent, IsSubset, allows, Octet, allows_token, Piece, WellFormed, IllFormed, IsOfCharacter, char_of, piece_bytes, bytes_of_pieces, utf8_pieces, encode_char, encode_text, encode_piece, encode_bytes, is_printable}
use Rattle.uri_pct.proofs.Unicode.CharacterPieces.{utf8_pieces-are-of-characters}
use Rattle.uri_pct.proofs.ValidTexts.EStrs.{tokens_allowed_by_superset}
use Rattle.uri_pct.proofs.Unicode.Pieces.{bytes_of_utf8_pieces_are_the_bytes}

-- encoding: the number has eight bits
abbrev pub is_eight_bit : ℕ → Bool
is_eight_bit b = ltb b 256

pub bytes_below_256_are_eight_bit : (bytes : List ℕ) → ((i : ℕ) → get_or bytes i 0 < 256)
    → list_all is_eight_bit bytes ≡ true
bytes_below_256_are_eight_bit [] h = refl
bytes_below_256_are_eight_bit (b ∷ bytes) h = and_from _ _ (lt-ltb b 256 (h 0))
    (bytes_below_256_are_eight_bit bytes (λ i. h (suc i)))

scalar_is_below_0x110000 : (c : ℕ) → IsScalar c → c < 1114112
scalar_is_below_0x110000 c e = grind (arith, nat_tests)

continuation_byte_is_eight_bit : (x : ℕ) → list_all is_eight_bit ((128 + x % 64) ∷ []) ≡ true
continuation_byte_is_eight_bit x = and_from _ _ (lt-ltb (128 + x % 64) 256 (omega arith)) refl

two_continuation_bytes_are_eight_bit : (x y : ℕ)
    → list_all is_eight_bit ((128 + x % 64) ∷ (128 + y % 64) ∷ []) ≡ true
two_continuation_bytes_are_eight_bit x y = and_from _ _ (lt-ltb (128 + x % 64) 256 (omega arith))
    (continuation_byte_is_eight_bit y)

-- encoding: the UTF-8 of a character is bytes
pub utf8_bytes_are_eight_bit : (c : ℕ) → IsScalar c → list_all is_eight_bit (encode_utf8 c) ≡ true
unfolding encode_utf8
utf8_bytes_are_eight_bit c scalar = grind (
  arith,
  nat_tests,
  encode_ascii,
  continuation_byte_is_eight_bit,
  two_continuation_bytes_are_eight_bit,
  scalar_is_below_0x110000,
)

-- encoding: the octets of bytes are tokens that can be written
pub octets_of_bytes_are_printable : (bytes : List ℕ) → list_all is_eight_bit bytes ≡ true
    → list_all is_printable (map Octet bytes) ≡ true
octets_of_bytes_are_printable [] e = refl
octets_of_bytes_are_printable (b ∷ bytes) e = let p = and_parts (is_eight_bit b)
    (list_all is_eight_bit bytes) e in
    and_from _ _ p.0 (octets_of_bytes_are_printable bytes p.1)

-- encoding: a set with percent-encoded octets allows the octets of all bytes
pub octets_are_allowed_if_pct_encoded : (set : TableSet) (bytes : List ℕ) → set.pct_encoded ≡ true
    → list_all (allows_token set) (map Octet bytes) ≡ true
octets_are_allowed_if_pct_encoded set [] o = refl
octets_are_allowed_if_pct_encoded set (b ∷ bytes) o = and_from _ _ o
    (octets_are_allowed_if_pct_encoded set bytes o)

-- encoding: a character is encoded as tokens that can be written
pub encoded_char_is_printable : (set : TableSet) (c : ℕ) → LacksPercent set → IsScalar c
    → list_all is_printable (encode_char set c) ≡ true
encoded_char_is_printable set c lacks scalar =
    grind (arith, octets_of_bytes_are_printable, utf8_bytes_are_eight_bit)

encoded_char_is_allowed : (set : TableSet) (c : ℕ) → set.pct_encoded ≡ true
    → list_all (allows_token set) (encode_char set c) ≡ true
encoded_char_is_allowed set c o = ⊎_elim (λ e. ap (list_all (allows_token set)) (cond-true _ _ _ e)
    ∙ and_from _ true e refl) (λ e. ap (list_all (allows_token set)) (cond-false _ _ _ e)
    ∙ octets_are_allowed_if_pct_encoded set (encode_utf8 c) o) (cases_Bool (allows set c))

-- encoding: characters are encoded as tokens that can be written
encoded_chars_are_printable : (set : TableSet) (cs : List ℕ) → LacksPercent set
    → all_scalars cs ≡ true → list_all is_printable (flat_map (encode_char set) cs) ≡ true
encoded_chars_are_printable set [] lacks e = refl
encoded_chars_are_printable set (c ∷ cs) lacks e =
    let p = and_parts _ (all_scalars cs) e in
    list_all-append is_printable (encode_char set c) (flat_map (encode_char set) cs) ∙ and_from _ _
    (encoded_char_is_printable set c lacks p.0) (encoded_chars_are_printable set cs lacks p.1)

-- encoding: the tokens that a text is encoded as can be written
pub encoded_text_is_printable : (set : TableSet) (text : List ℕ) → LacksPercent set → IsUtf8 text
    → list_all is_printable (encode_text set text) ≡ true
encoded_text_is_printable set text lacks u =
    encoded_chars_are_printable set (chars text) lacks (scalars-chars text u)

encoded_chars_are_allowed : (set : TableSet) (cs : List ℕ) → set.pct_encoded ≡ true
    → list_all (allows_token set) (flat_map (encode_char set) cs) ≡ true
encoded_chars_are_allowed set [] o = refl
encoded_chars_are_allowed set (c ∷ cs) o =
    grind (arith, encoded_chars_are_allowed set cs o, list_all-append, encoded_char_is_allowed)

pub encoded_text_is_allowed : (sub set : TableSet) (text : List ℕ) → IsSubset sub set
    → sub.pct_encoded ≡ true → list_all (allows_token set) (encode_text sub text) ≡ true
encoded_text_is_allowed sub set text subset o = tokens_allowed_by_superset sub set
    (encode_text sub text) subset (encoded_chars_are_allowed sub (chars text) o)

-- encoding: the tokens that a piece of bytes is encoded as can be written
encoded_piece_is_printable : (set : TableSet) (p : Piece) → LacksPercent set → IsOfCharacter p
    → list_all is_eight_bit (piece_bytes p) ≡ true → list_all is_printable (encode_piece set p)
    ≡ true
encoded_piece_is_printable set (WellFormed bytes) lacks h small = encoded_char_is_printable set
    (char_of bytes) lacks h.0
encoded_piece_is_printable set (IllFormed bytes) lacks h small = octets_of_bytes_are_printable
    bytes small

-- encoding: the tokens that pieces of bytes are encoded as can be written
encoded_pieces_are_printable : (set : TableSet) (ps : List Piece) → LacksPercent set
    → All IsOfCharacter ps → list_all is_eight_bit (bytes_of_pieces ps) ≡ true
    → list_all is_printable (flat_map (encode_piece set) ps) ≡ true
encoded_pieces_are_printable set [] lacks h small = refl
encoded_pieces_are_printable set (p ∷ ps) lacks h small =
    let s = and_parts (list_all is_eight_bit (piece_bytes p))
    (list_all is_eight_bit (bytes_of_pieces ps))
    (sym (list_all-append is_eight_bit (piece_bytes p) (bytes_of_pieces ps)) ∙ small) in
    list_all-append is_printable (encode_piece set p) (flat_map (encode_piece set) ps)
    ∙ and_from _ _ (encoded_piece_is_printable set p lacks (All-head IsOfCharacter p ps h) s.0)
    (encoded_pieces_are_printable set ps lacks (All-tail IsOfCharacter p ps h) s.1)

-- encoding: the tokens of encoded bytes can be written: each is a character but `%`, or an octet
pub encoded_bytes_are_printable : (set : TableSet) (bytes : List ℕ) → LacksPercent set
    → list_all is_eight_bit bytes ≡ true → list_all is_printable (encode_bytes set bytes) ≡ true
encoded_bytes_are_printable set bytes lacks small =
    encoded_pieces_are_printable set (utf8_pieces bytes) lacks (utf8_pieces-are-of-characters bytes)
    (ap (list_all is_eight_bit) (bytes_of_utf8_pieces_are_the_bytes bytes) ∙ small)

encoded_piece_is_allowed : (set : TableSet) (p : Piece) → set.pct_encoded ≡ true
    → list_all (allows_token set) (encode_piece set p) ≡ true
encoded_piece_is_allowed set (WellFormed bytes) o = encoded_char_is_allowed set (char_of bytes) o
encoded_piece_is_allowed set (IllFormed bytes) o = octets_are_allowed_if_pct_encoded set bytes o

encoded_pieces_are_allowed : (set : TableSet) (ps : List Piece) → set.pct_encoded ≡ true
    → list_all (allows_token set) (flat_map (encode_piece set) ps) ≡ true
encoded_pieces_are_allowed set [] o = refl
encoded_pieces_are_allowed set (p ∷ ps) o =
    grind (arith, encoded_pieces_are_allowed set ps o, list_all-append, encoded_piece_is_allowed)

pub encoded_bytes_are_allowed : (sub set : TableSet) (bytes : List ℕ) → IsSubset sub set
    → sub.pct_encoded ≡ true → list_all (allows_token set) (encode_bytes sub bytes) ≡ true
encoded_bytes_are_allowed sub set bytes subset o = tokens_allowed_by_superset sub set
    (encode_bytes sub bytes) subset (encoded_pieces_are_allowed sub (utf8_pieces bytes) o)
