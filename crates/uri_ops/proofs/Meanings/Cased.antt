-- What is written of a part, as it is or with its letters lowered.
use Rattle.uri_ops.proofs.Common.{common_steps, ◌≡◌, ℕ, ◌≤◌, Bool, true, false, List, [], ◌∷◌, ◌++◌, map, refl, sym, ap, subst, ◌∙◌, arith, slice_index, list_all, flat_map, All, encode_utf8, to_ascii_lowercase, chars, encode_utf8_all, all_scalars, IsUtf8, str_to_ascii_lowercase, or_parts, nat_tests, append-nil, All-head, All-tail, encodes-chars, scalars-chars, chars-encodes, encode_char, encode_text, encode_piece, ArePastAscii, Piece, IsOfCharacter, utf8_pieces, is_decodable, decode_piece, lower_token, TableSet, allows, allows_past_ascii, is_unreserved, Char, Octet, print, utf8_pieces-are-of-characters, char_has_encoding, char_past_ascii_begins_past_ascii, is_no_ascii_byte, lowered_if, lowered_text_if, lowering_keeps_octets, lowercase_keeps_char_past_ascii}
use Rattle.uri_pct.proofs.Offered.{pieces_of_text_are_encoded_as_text}

-- meanings in lower case: literal tokens are written as the UTF-8 of their characters
print-of-characters-is-their-utf8 : (cs : List ℕ) → print (map Char cs) ≡ encode_utf8_all cs
print-of-characters-is-their-utf8 [] = refl
print-of-characters-is-their-utf8 (c ∷ cs) = ap (λ x. encode_utf8 c ++ x)
    (print-of-characters-is-their-utf8 cs)

print-of-characters-is-text : (text : List ℕ) → IsUtf8 text → print (map Char (chars text)) ≡ text
print-of-characters-is-text text u = print-of-characters-is-their-utf8 (chars text)
    ∙ encodes-chars text u

pub bytes-past-ascii-are-unchanged-when-lowered : (bytes : List ℕ) → ArePastAscii bytes
    → str_to_ascii_lowercase bytes ≡ bytes
bytes-past-ascii-are-unchanged-when-lowered [] past = refl
bytes-past-ascii-are-unchanged-when-lowered (b ∷ bytes) past = ap (λ x. x ∷ str_to_ascii_lowercase
    bytes) (lowercase_keeps_char_past_ascii b (All-head (λ x. 128 ≤ x) b bytes past)) ∙ ap (λ x. b
    ∷ x) (bytes-past-ascii-are-unchanged-when-lowered bytes (All-tail (λ x. 128 ≤ x) b bytes past))

bytes-without-ascii-are-past-ascii : (bytes : List ℕ) → list_all is_no_ascii_byte bytes ≡ true
    → ArePastAscii bytes
bytes-without-ascii-are-past-ascii bytes e = grind (arith, common_steps)

character-past-ascii-is-unchanged-when-lowered : (c : ℕ)
    → 128 ≤ c → map to_ascii_lowercase (encode_utf8 c) ≡ encode_utf8 c
character-past-ascii-is-unchanged-when-lowered c h =
    let w = char_has_encoding c in
    let first : 128 ≤ w.first = subst (λ x. 128 ≤ slice_index x 0)
    (append-nil (encode_utf8 c) ∙ w.joined) (char_past_ascii_begins_past_ascii c [] h) in
    ap (map to_ascii_lowercase) w.joined
    ∙ ap (λ x. x ∷ map to_ascii_lowercase w.more) (lowercase_keeps_char_past_ascii w.first first)
    ∙ ap (λ x. w.first ∷ x) (bytes-past-ascii-are-unchanged-when-lowered w.more
    (bytes-without-ascii-are-past-ascii w.more w.high)) ∙ sym w.joined

-- meanings in lower case: lowering characters and writing them in UTF-8 may swap
lowering-and-utf8-swap : (cs : List ℕ)
    → encode_utf8_all (map to_ascii_lowercase cs) ≡ str_to_ascii_lowercase (encode_utf8_all cs)
lowering-and-utf8-swap [] = refl
lowering-and-utf8-swap (c ∷ cs) =
    grind (
      arith,
      common_steps,
      character-past-ascii-is-unchanged-when-lowered,
      lowering-and-utf8-swap cs,
    )

lowering-tokens-lowers-characters : (cs : List ℕ) → map lower_token (map Char cs)
    ≡ map Char (map to_ascii_lowercase cs)
lowering-tokens-lowers-characters [] = refl
lowering-tokens-lowers-characters (c ∷ cs) = ap (λ ts. Char (to_ascii_lowercase c) ∷ ts)
    (lowering-tokens-lowers-characters cs)

print-of-lowered-characters-is-lowered : (text : List ℕ) → IsUtf8 text
    → print (map lower_token (map Char (chars text))) ≡ str_to_ascii_lowercase text
print-of-lowered-characters-is-lowered text u = ap print (lowering-tokens-lowers-characters _)
    ∙ print-of-characters-is-their-utf8 _ ∙ lowering-and-utf8-swap _
    ∙ ap str_to_ascii_lowercase (encodes-chars _ u)

pub print-lowers-characters : (lowers : Bool) (text : List ℕ) → IsUtf8 text
    → print (lowered_if lowers (map Char (chars text))) ≡ lowered_text_if lowers text
print-lowers-characters true text u = print-of-lowered-characters-is-lowered text u
print-lowers-characters false text u = print-of-characters-is-text text u

-- meanings in lower case: a Unicode scalar value is one in lower case
lowered-scalar-is-scalar : (c : ℕ) → all_scalars (c ∷ []) ≡ true
    → all_scalars (to_ascii_lowercase c ∷ []) ≡ true
lowered-scalar-is-scalar c e = grind (arith, nat_tests)

-- meanings in lower case: Unicode scalar values are so in lower case
lowered-scalars-are-scalars : (cs : List ℕ) → all_scalars cs ≡ true
    → all_scalars (map to_ascii_lowercase cs) ≡ true
lowered-scalars-are-scalars [] e = refl
lowered-scalars-are-scalars (c ∷ cs) e =
    grind (arith, common_steps, lowered-scalar-is-scalar, (lowered-scalars-are-scalars cs))

chars-of-lowered-text-are-lowered : (text : List ℕ) → IsUtf8 text
    → chars (str_to_ascii_lowercase text) ≡ map to_ascii_lowercase (chars text)
chars-of-lowered-text-are-lowered text u = ap (λ x. chars (str_to_ascii_lowercase x))
    (sym (encodes-chars _ u)) ∙ ap chars (sym (lowering-and-utf8-swap _))
    ∙ chars-encodes _ (lowered-scalars-are-scalars (chars text) (scalars-chars _ u))

-- meanings in lower case: a text in lower case is UTF-8
pub lowered-text-is-utf8 : (text : List ℕ) → IsUtf8 text → IsUtf8 (str_to_ascii_lowercase text)
lowered-text-is-utf8 text u = (
  map to_ascii_lowercase (chars text),
  (
    lowered-scalars-are-scalars (chars text) (scalars-chars text u),
    lowering-and-utf8-swap (chars text) ∙ ap str_to_ascii_lowercase (encodes-chars text u),
  ),
)

-- meanings, decoded: a set allows what is decodable in another, and nothing else
abbrev pub AllowsDecodable : TableSet → TableSet → Type 0
AllowsDecodable decodable set = (c : ℕ) → allows decodable c ≡ is_decodable set c

not-unreserved-is-unchanged-when-lowered : (c : ℕ) → is_unreserved c ≡ false
    → to_ascii_lowercase c ≡ c
not-unreserved-is-unchanged-when-lowered c e = grind (arith, nat_tests)

-- meanings in lower case: percent-encoded octets have no letters to lower; lowers: whether letters
-- are lowered
pub octets-are-unchanged-when-lowered : (lowers : Bool) (bytes : List ℕ)
    → lowered_if lowers (map Octet bytes) ≡ map Octet bytes
octets-are-unchanged-when-lowered lowers bytes = grind (arith, common_steps, lowering_keeps_octets)

module _ (decodable set : TableSet) (same : AllowsDecodable decodable set) where
  decoding-pieces-is-encoding-them : (ps : List Piece) → All IsOfCharacter ps
      → flat_map (decode_piece set) ps ≡ flat_map (encode_piece decodable) ps
  decoding-pieces-is-encoding-them [] h = refl
  decoding-pieces-is-encoding-them (p ∷ ps) h =
      grind (arith, decoding-pieces-is-encoding-them ps (All-tail IsOfCharacter p ps h), All-head)

  -- characters that octets decode to
  pub decoded-pieces-are-encoded-text : (text : List ℕ) → IsUtf8 text
      → flat_map (decode_piece set) (utf8_pieces text) ≡ encode_text decodable text
  decoded-pieces-are-encoded-text text u = decoding-pieces-is-encoding-them (utf8_pieces text)
      (utf8_pieces-are-of-characters text) ∙ pieces_of_text_are_encoded_as_text decodable text u

  -- a character is encoded in lower case as it is encoded
  lowered-decodable-is-decodable : (c : ℕ) → is_decodable set c ≡ true
      → is_decodable set (to_ascii_lowercase c) ≡ true
  unfolding is_decodable
  lowered-decodable-is-decodable c e =
      grind (arith, nat_tests, not-unreserved-is-unchanged-when-lowered)

  undecodable-is-unchanged-when-lowered : (c : ℕ) → is_decodable set c ≡ false
      → to_ascii_lowercase c ≡ c
  unfolding is_decodable
  undecodable-is-unchanged-when-lowered c e = not-unreserved-is-unchanged-when-lowered c
      (or_parts (is_unreserved c) (allows_past_ascii set c) e).0

  encoding-characters-and-lowering-swap : (cs : List ℕ) → flat_map (encode_char decodable)
      (map to_ascii_lowercase cs) ≡ map lower_token (flat_map (encode_char decodable) cs)
  encoding-characters-and-lowering-swap [] = refl
  encoding-characters-and-lowering-swap (c ∷ cs) =
      grind (
        arith,
        common_steps,
        lowered-decodable-is-decodable,
        undecodable-is-unchanged-when-lowered,
        lowering_keeps_octets,
        encoding-characters-and-lowering-swap cs,
      )

  pub lowered-pieces-are-encoded-lowered-text : (text : List ℕ) → IsUtf8 text
      → map lower_token (flat_map (decode_piece set) (utf8_pieces text))
      ≡ encode_text decodable (str_to_ascii_lowercase text)
  lowered-pieces-are-encoded-lowered-text text u =
      grind (
        arith,
        decoded-pieces-are-encoded-text,
        encoding-characters-and-lowering-swap,
        chars-of-lowered-text-are-lowered,
      )
