-- The query that is made of pairs decodes to the pairs again.
use Rattle.std.proofs.Common.{◌≡◌, ℕ, ◌/◌, ◌%◌, ◌<◌, true, false, not, List, [], ◌∷◌, ◌++◌, length, map, string_bytes, refl, ap, sym, ◌∙◌, arith, ⊎_elim, append_assoc, append-nil, codes, filter, encode_utf8, IsUtf8, chars}
use Rattle.std.proofs.Math.Dec.{eqb}
use Rattle.std.specs.Fmt.{digit_glyph}
use Rattle.std.specs.List.{flat_map, onto_first, slice_split}
use Rattle.std.proofs.lemmas.Bool.{and_from, and_parts, cases_Bool, cases_lt, cond-true, cond-false, eqb-true, false≢true, le-ltb, not-true}
use Rattle.std.proofs.lemmas.List.{map-append}
use Rattle.std.proofs.lemmas.List.Concat.{flat_map-append}
use Rattle.std.proofs.lemmas.List.Elements.{filter-append}
use Rattle.std.proofs.lemmas.List.Folds.{list_all-append}
use Rattle.std.proofs.lemmas.List.Splits.{length-slice_split}
use Rattle.std.proofs.lemmas.Str.{encode_ascii, utf8_lossy-IsUtf8, IsUtf8-string_bytes}
use Rattle.fluent_uri.specs.Prelude.{Octet, bytes_decoded_from, encode_char, encode_text, is_empty, lacks, lossy_text, print, text_of_token, tokens}
use Rattle.fluent_uri.specs.Sets.{allows, allows_past_ascii, data_set}
use Rattle.fluent_uri.proofs.Calling.{calling, lossy_text-is-utf8_lossy}
use Rattle.uri_query.specs.Pairs.{append_pair, data_text, decode_nonempty_substrings, decode_pair, decode_pairs, decode_text, pair_text, pair_texts, query_from, query_text, text_after_equals, text_before_equals}
use Rattle.uri_query.specs.declared.pairs.Pair.{Pair}
use Rattle.uri_query.proofs.Cuts.{text_after_equals-append, text_before_equals-append}

-- pairs of a query: a digit of a percent-encoded octet is not `&` (38)
digit_is_no_ampersand : (n : ℕ) → eqb (digit_glyph true n) 38 ≡ false
digit_is_no_ampersand n = grind arith

-- pairs of a query: a digit of a percent-encoded octet is not `=` (61)
digit_is_no_equals_sign : (n : ℕ) → eqb (digit_glyph true n) 61 ≡ false
digit_is_no_equals_sign n = grind arith

allowed_char_is_ascii : (c : ℕ) → allows data_set c ≡ true → c < 128
unfolding allows_past_ascii
allowed_char_is_ascii c e = ⊎_elim
    (λ h. h)
    (λ h. absurd (cc (sym e ∙ cond-false _ _ _ (le-ltb c 128 h))))
    (cases_lt c 128)

-- d: a byte that is not `%`, not a digit and not in data, such as a delimiter of pairs
module _ (d : ℕ) (percent : eqb 37 d ≡ false)
    (digit : (n : ℕ) → eqb (digit_glyph true n) d ≡ false)
    (reserved : allows data_set d ≡ false) where
  -- pairs of a query: the octets of bytes lack it
  octets_lack : (bs : List ℕ) → lacks d (print (map Octet bs)) ≡ true
  octets_lack [] = refl
  octets_lack (b ∷ bs) =
      and_from _ _ (ap not percent) (and_from _ _ (ap not (digit (b / 16)))
      (and_from _ _ (ap not (digit (b % 16))) (octets_lack bs)))

  -- pairs of a query: a character that data may have literally is another
  unreserved_char_is_another : (c : ℕ) → allows data_set c ≡ true → eqb c d ≡ false
  unreserved_char_is_another c e = ⊎_elim
      (λ h. absurd (false≢true (sym reserved ∙ ap (allows data_set) (sym (eqb-true c d h)) ∙ e)))
      (λ h. h)
      (cases_Bool (eqb c d))

  -- pairs of a query: a character that is encoded as data lacks it
  encoded_char_lacks : (c : ℕ) → lacks d (print (encode_char data_set c)) ≡ true
  encoded_char_lacks c = ⊎_elim
      (λ e. ap (λ ts. lacks d (print ts)) (cond-true _ _ _ e)
      ∙ ap (λ bs. lacks d (bs ++ [])) (encode_ascii c (allowed_char_is_ascii c e))
      ∙ and_from _ true (ap not (unreserved_char_is_another c e)) refl)
      (λ e. ap (λ ts. lacks d (print ts)) (cond-false _ _ _ e) ∙ octets_lack (encode_utf8 c))
      (cases_Bool (allows data_set c))

  -- pairs of a query: characters that are encoded as data lack it
  encoded_chars_lack : (cs : List ℕ) → lacks d (print (flat_map (encode_char data_set) cs)) ≡ true
  encoded_chars_lack [] = refl
  encoded_chars_lack (c ∷ cs) =
      ap (lacks d) (flat_map-append text_of_token (encode_char data_set c)
      (flat_map (encode_char data_set) cs))
      ∙ list_all-append _ (print (encode_char data_set c))
      (print (flat_map (encode_char data_set) cs))
      ∙ and_from _ _ (encoded_char_lacks c) (encoded_chars_lack cs)

-- pairs of a query: data has no `&` (38)
data_has_no_ampersand : (text : List ℕ) → lacks 38 (data_text text) ≡ true
data_has_no_ampersand text = encoded_chars_lack 38 refl digit_is_no_ampersand refl (chars text)

-- pairs of a query: data has no `=` (61)
data_has_no_equals_sign : (text : List ℕ) → lacks 61 (data_text text) ≡ true
data_has_no_equals_sign text =
    encoded_chars_lack 61 refl digit_is_no_equals_sign refl (chars text)

data_decodes_to_its_text : (text : List ℕ) → IsUtf8 text → decode_text (data_text text) ≡ text
data_decodes_to_its_text text u =
    let parsed : tokens (data_text text) ≡ encode_text data_set text = search calling in
    let decoded : bytes_decoded_from (encode_text data_set text) ≡ text = search calling in
    ap (λ ts. lossy_text (bytes_decoded_from ts)) parsed
    ∙ ap lossy_text decoded ∙ lossy_text-is-utf8_lossy text ∙ utf8_lossy-IsUtf8 text u

pair_is_decoded : (name value : List ℕ) → IsUtf8 name → IsUtf8 value
    → decode_pair (pair_text (name, value)) ≡ (name, value)
pair_is_decoded name value u v =
    let whole : pair_text (name, value) ≡ data_text name ++ 61 ∷ data_text value =
    append_assoc (data_text name) (codes "=") (data_text value) in
    let none = data_has_no_equals_sign name in
    let before = text_before_equals-append (data_text name) (data_text value) none in
    let after = text_after_equals-append (data_text name) (data_text value) none in
    λ i. (
      (ap decode_text (ap text_before_equals whole ∙ before) ∙ data_decodes_to_its_text name u) i,
      (ap decode_text (ap text_after_equals whole ∙ after) ∙ data_decodes_to_its_text value v) i,
    )

-- pairs of a query: the text of a pair has no `&` (38)
pair_has_no_ampersand : (name value : List ℕ) → lacks 38 (pair_text (name, value)) ≡ true
pair_has_no_ampersand name value =
    list_all-append _ (data_text name ++ codes "=") (data_text value)
    ∙ and_from _ _ (list_all-append _ (data_text name) (codes "=")
    ∙ and_from _ _ (data_has_no_ampersand name) refl) (data_has_no_ampersand value)

joined_text_is_not_empty : (before : List ℕ) (b : ℕ) (after : List ℕ)
    → is_empty ((before ++ b ∷ []) ++ after) ≡ false
joined_text_is_not_empty [] b after = refl
joined_text_is_not_empty (c ∷ cs) b after = refl

-- pairs of a query: a text without `&` (38) is one substring
pub text_without_ampersand_is_one_piece : (text : List ℕ) → lacks 38 text ≡ true
    → slice_split (λ b. eqb b 38) text ≡ text ∷ []
text_without_ampersand_is_one_piece [] e = refl
text_without_ampersand_is_one_piece (c ∷ cs) e =
    let p = and_parts (not (eqb c 38)) (lacks 38 cs) e in
    grind (arith, not-true, text_without_ampersand_is_one_piece cs p.1)

first_byte_and_last_piece : (c : ℕ) (pieces : List (List ℕ)) (last : List ℕ) → 0 < length pieces
    → onto_first c (pieces ++ last ∷ []) ≡ onto_first c pieces ++ last ∷ []
first_byte_and_last_piece c [] last h = absurd (omega (arith, h))
first_byte_and_last_piece c (piece ∷ pieces) last h = refl

-- pairs of a query: what follows a `&` (38) is one more substring
text_after_ampersand_is_last_piece : (text piece : List ℕ) → lacks 38 piece ≡ true
    → slice_split (λ b. eqb b 38) (text ++ 38 ∷ piece)
    ≡ slice_split (λ b. eqb b 38) text ++ piece ∷ []
text_after_ampersand_is_last_piece [] piece e =
    ap (λ pieces. [] ∷ pieces) (text_without_ampersand_is_one_piece piece e)
text_after_ampersand_is_last_piece (c ∷ cs) piece e =
    let rest = text_after_ampersand_is_last_piece cs piece e in
    grind (arith, first_byte_and_last_piece, eqb, length-slice_split)

piece_of_pair_is_decoded : (name value : List ℕ) → IsUtf8 name → IsUtf8 value
    → decode_nonempty_substrings (pair_text (name, value) ∷ []) ≡ (name, value) ∷ []
piece_of_pair_is_decoded name value u v = grind (arith, joined_text_is_not_empty, pair_is_decoded)

one_more_pair_is_decoded : (text name value : List ℕ) → IsUtf8 name → IsUtf8 value
    → decode_pairs (append_pair text (name, value)) ≡ decode_pairs text ++ (name, value) ∷ []
one_more_pair_is_decoded [] name value u v =
    ap decode_nonempty_substrings (text_without_ampersand_is_one_piece
    (pair_text (name, value)) (pair_has_no_ampersand name value))
    ∙ piece_of_pair_is_decoded name value u v
one_more_pair_is_decoded (c ∷ cs) name value u v =
    let pieces = slice_split (λ b. eqb b 38) (c ∷ cs) in
    let piece = pair_text (name, value) in
    ap decode_pairs (append_assoc (c ∷ cs) (codes "&") piece)
    ∙ ap decode_nonempty_substrings (text_after_ampersand_is_last_piece (c ∷ cs) piece
    (pair_has_no_ampersand name value))
    ∙ ap (map decode_pair) (filter-append (λ text. not (is_empty text)) pieces (piece ∷ []))
    ∙ map-append decode_pair (filter (λ text. not (is_empty text)) pieces)
    (filter (λ text. not (is_empty text)) (piece ∷ []))
    ∙ ap (λ pairs. decode_pairs (c ∷ cs) ++ pairs) (piece_of_pair_is_decoded name value u v)

more_pairs_are_decoded : (text : List ℕ) (pairs : List Pair)
    → decode_pairs (query_from text (map pair_texts pairs))
    ≡ decode_pairs text ++ map pair_texts pairs
more_pairs_are_decoded text [] = sym (append-nil (decode_pairs text))
more_pairs_are_decoded text (pair ∷ pairs) =
    more_pairs_are_decoded (append_pair text (pair_texts pair)) pairs
    ∙ ap (λ decoded. decoded ++ map pair_texts pairs)
    (one_more_pair_is_decoded text (string_bytes pair.name) (string_bytes pair.value)
    (IsUtf8-string_bytes pair.name) (IsUtf8-string_bytes pair.value))
    ∙ append_assoc (decode_pairs text) (pair_texts pair ∷ []) (map pair_texts pairs)

pub query_of_pairs_has_these_pairs : (pairs : List Pair)
    → decode_pairs (query_text (map pair_texts pairs)) ≡ map pair_texts pairs
query_of_pairs_has_these_pairs pairs = more_pairs_are_decoded [] pairs
