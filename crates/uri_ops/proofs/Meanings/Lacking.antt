-- Which characters a part lacks: its decoded form lacks them too.
use Rattle.uri_ops.proofs.Common.{◌≡◌, ℕ, zero, suc, Bool, true, false, cond, eqb, not, List, [], ◌∷◌, ◌++◌, refl, sym, ap, ◌∙◌, arith, ◌&&◌, ⊎_elim, list_all, list_any, flat_map, continuation_len, cases_Bool, or_parts, not_from_false, false_from_ne_true, nat_tests, TableSet, LacksPercent, IsSubset, unreserved_set, is_unreserved, is_one_of, allows_past_ascii, Token, Char, Octet, print, Piece, utf8_pieces, is_decodable, decode_piece, decode_run, decode_after_run, is_never_literal, formatting_as_octets, encode_formatting, begins_with_hex_digits, allows_first, excludes, valid_from, validity_of_tokens_is_validity_of_bytes, valid_text_lacks_excluded_marks, print_decoded, common_steps}
use Rattle.uri_ops.proofs.Paths.PathCharacters.{lacked-delimiters-fail-test}
use Rattle.uri_ops.proofs.Meanings.AllowedParts.{is_set_text, set-text-from-utf8, set-text-is-utf8, set-text-is-valid, decoded-set-text-is-set-text}

-- meanings of components: the text has none of these delimiters
abbrev pub lacks_any : List ℕ → List ℕ → Bool
lacks_any marks text = list_all (λ c. not (is_one_of marks c)) text

set-text-lacks-excluded-characters : (marks : List ℕ) (set : TableSet) → LacksPercent set
    → excludes set marks ≡ true
    → (text : List ℕ) → is_set_text set text ≡ true → lacks_any marks text ≡ true
set-text-lacks-excluded-characters marks set lacks outside text e = lacked-delimiters-fail-test
    marks text (valid_text_lacks_excluded_marks set marks lacks outside text
    (set-text-is-utf8 set text e) (set-text-is-valid set text e))

abbrev set_without : ℕ → TableSet → TableSet
set_without m set = record {
  ascii = λ c. not (eqb c m) && set.ascii c;
  pct_encoded = set.pct_encoded;
  ucschar = set.ucschar;
  iprivate = set.iprivate;
}

-- meanings of components: the text has the character
abbrev pub has_character : ℕ → List ℕ → Bool
has_character m text = list_any (λ c. eqb c m) text

set_without-allows-other-first-bytes : (m : ℕ) (set : TableSet) (b : ℕ) (rest : List ℕ)
    → eqb b m ≡ false → allows_first (set_without m set) b rest ≡ allows_first set b rest
unfolding allows_first allows_past_ascii
set_without-allows-other-first-bytes m set b rest e = cc

-- meanings of components: a text without the character m is valid for a set without m exactly if it
-- is for the set; k: bytes to skip
text-stays-valid-for-set_without : (m : ℕ) (set : TableSet) (k : ℕ) (bs : List ℕ)
    → has_character m bs ≡ false → valid_from (set_without m set) k bs ≡ valid_from set k bs
unfolding valid_from
text-stays-valid-for-set_without m set zero [] e = refl
text-stays-valid-for-set_without m set (suc k) [] e = refl
text-stays-valid-for-set_without m set (suc k) (b ∷ rest) e =
    text-stays-valid-for-set_without m set k rest (or_parts (eqb b m) (has_character m rest) e).1
text-stays-valid-for-set_without m set zero (b ∷ rest) e =
    let p = or_parts (eqb b m) (has_character m rest) e in
    ap (λ t. cond ((set.pct_encoded && eqb b 37) && begins_with_hex_digits rest) t
    (allows_first (set_without m set) b rest && valid_from (set_without m set)
    (continuation_len b) rest)) (text-stays-valid-for-set_without m set 2 rest p.1)
    ∙ ap (λ t. cond ((set.pct_encoded && eqb b 37) && begins_with_hex_digits rest)
    (valid_from set 2 rest) (t && valid_from (set_without m set) (continuation_len b) rest))
    (set_without-allows-other-first-bytes m set b rest p.0)
    ∙ ap (λ t. cond ((set.pct_encoded && eqb b 37) && begins_with_hex_digits rest)
    (valid_from set 2 rest) (allows_first set b rest && t))
    (text-stays-valid-for-set_without m set (continuation_len b) rest p.1)

set_without-lacks-percent : (m : ℕ) (set : TableSet) → LacksPercent set
    → LacksPercent (set_without m set)
set_without-lacks-percent m set lacks = ⊎_elim (λ e. ap (λ t. not t && set.ascii 37) e)
    (λ e. ap (λ t. not t && set.ascii 37) e ∙ lacks) (cases_Bool (eqb 37 m))

text-without-character-is-for-set_without : (m : ℕ) (set : TableSet)
    → LacksPercent set → (text : List ℕ) → is_set_text set text ≡ true
    → has_character m text ≡ false → is_set_text (set_without m set) text ≡ true
text-without-character-is-for-set_without m set lacks text e f =
    grind (
      arith,
      set-text-is-utf8,
      set-text-from-utf8,
      validity_of_tokens_is_validity_of_bytes,
      text-stays-valid-for-set_without,
      set-text-is-valid,
    )

decode_piece-for-set_without : (m : ℕ) (set : TableSet) (p : Piece)
    → decode_piece (set_without m set) p ≡ decode_piece set p
unfolding is_decodable allows_past_ascii
decode_piece-for-set_without m set p = grind (arith, common_steps)

decode_run-for-set_without : (m : ℕ) (set : TableSet) (run : List ℕ)
    → decode_run (set_without m set) run ≡ decode_run set run
unfolding decode_run
decode_run-for-set_without m set run = ap (λ f. flat_map f (utf8_pieces run))
    (λ i p. decode_piece-for-set_without m set p i)

decode_after_run-for-set_without : (m : ℕ) (set : TableSet) (run : List ℕ) (ts : List Token)
    → decode_after_run (set_without m set) run ts ≡ decode_after_run set run ts
unfolding decode_after_run
decode_after_run-for-set_without m set run [] = decode_run-for-set_without m set run
decode_after_run-for-set_without m set run (Octet value ∷ ts) = decode_after_run-for-set_without m
    set (run ++ value ∷ []) ts
decode_after_run-for-set_without m set run (Char c ∷ ts) =
    grind (arith, decode_run-for-set_without, decode_after_run-for-set_without m set [] ts)

-- meanings, bidirectional text: a formatting character is encoded in the same way for a set without
-- a character m
formatting_as_octets-for-set_without : (m : ℕ) (set : TableSet) (t : Token)
    → formatting_as_octets (set_without m set) t ≡ formatting_as_octets set t
unfolding is_never_literal
formatting_as_octets-for-set_without m set t = grind (arith, common_steps)

encode_formatting-for-set_without : (m : ℕ) (set : TableSet) (ts : List Token)
    → encode_formatting (set_without m set) ts ≡ encode_formatting set ts
encode_formatting-for-set_without m set ts = ap (λ f. flat_map f ts)
    (λ i t. formatting_as_octets-for-set_without m set t i)

print_decoded-for-set_without : (m : ℕ) (set : TableSet) (text : List ℕ)
    → print_decoded (set_without m set) text ≡ print_decoded set text
unfolding print_decoded
print_decoded-for-set_without m set text = ap print (encode_formatting-for-set_without m set _
    ∙ ap (encode_formatting set) (decode_after_run-for-set_without m set [] _))

set_without-reserved-has-unreserved : (m : ℕ) (set : TableSet) → is_unreserved m ≡ false
    → IsSubset unreserved_set set → IsSubset unreserved_set (set_without m set)
set_without-reserved-has-unreserved m set reserved wide =
    grind (arith, nat_tests, not_from_false, false_from_ne_true)

-- meanings of components: being one of a single delimiter is being equal to it
is_one_of-one-is-equality : (c m : ℕ) → is_one_of (m ∷ []) c ≡ eqb c m
is_one_of-one-is-equality c m = grind (arith, nat_tests)

pub lacks_any-gives-lacks : (m : ℕ) (text : List ℕ) → lacks_any (m ∷ []) text ≡ true
    → has_character m text ≡ false
lacks_any-gives-lacks m [] e = refl
lacks_any-gives-lacks m (c ∷ text) e =
    grind (arith, common_steps, is_one_of-one-is-equality, (lacks_any-gives-lacks m text))

pub lacks-gives-lacks_any : (m : ℕ) (text : List ℕ)
    → has_character m text ≡ false → lacks_any (m ∷ []) text ≡ true
lacks-gives-lacks_any m [] e = refl
lacks-gives-lacks_any m (c ∷ text) e =
    grind (arith, common_steps, is_one_of-one-is-equality, (lacks-gives-lacks_any m text))

module _ (m : ℕ) (set : TableSet) (lacks : LacksPercent set) (wide : IsSubset unreserved_set set)
    (reserved : is_unreserved m ≡ false) (outside : excludes (set_without m set) (m ∷ [])
    ≡ true) where
  -- if a text lacks a character that is not unreserved, its decoded form lacks it
  pub decoding-adds-no-reserved : (text : List ℕ) → is_set_text set text ≡ true
      → has_character m text ≡ false
      → has_character m (print_decoded set text) ≡ false
  decoding-adds-no-reserved text e f =
      let part = text-without-character-is-for-set_without m set lacks _ e f in
      let again = decoded-set-text-is-set-text _ (set_without-lacks-percent m set lacks)
      (set_without-reserved-has-unreserved m set reserved wide) _ part in
      sym (ap (has_character m) (print_decoded-for-set_without m set _)) ∙ lacks_any-gives-lacks m _
      (set-text-lacks-excluded-characters (m ∷ []) (set_without m set)
      (set_without-lacks-percent m set lacks) outside (print_decoded (set_without m set) text)
      again)
