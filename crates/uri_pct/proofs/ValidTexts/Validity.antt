-- Validity for a set, byte by byte.
use Rattle.std.proofs.lemmas.Grind.{common_steps}
use Rattle.uri_pct.proofs.Common.{◌≡◌, ℕ, zero, suc, ◌<◌, ◌≤◌, Bool, true, false, cond, eqb, List, [], ◌∷◌, ◌++◌, length, get_or, drop, refl, sym, ap, ◌∙◌, arith, ◌&&◌, ⊎_elim, list_all, is_ascii_hexdigit, encode_utf8, IsUtf8, encode_utf8_all, all_scalars, continuation_len, chars-encodes, encode_ascii, cases_lt, cases_Bool, and_parts, eqb-true, cond-true, cond-false, and_left, and_right, lt-ltb, le-ltb, ne_eqb, TableSet, LacksPercent, allows, allows_past_ascii, tokens_from_chars, allows_token, is_valid_for, is_pct_encoded, begins_with_hex_digits, first_char, allows_first, nat_tests}
use Rattle.uri_pct.proofs.Unicode.Characters.{HasEncoding, char_has_encoding, char_past_ascii_begins_past_ascii, first_of_encoded_chars_is_first_char, hexdigit_is_ascii, encoded_chars_begin_with_same_hex_digits}

-- the bytes are valid, of which so many are still to pass
unfoldable pub valid_from : TableSet → ℕ → List ℕ → Bool
valid_from set skip [] = true
valid_from set zero (b ∷ rest) = cond ((set.pct_encoded && eqb b 37) && begins_with_hex_digits rest)
    (valid_from set 2 rest) (allows_first set b rest && valid_from set (continuation_len b) rest)
valid_from set (suc k) (b ∷ rest) = valid_from set k rest

-- validity: bytes are valid if the first begins an octet or an allowed character, and the rest is
pub validity_by_first_byte : (set : TableSet) (b : ℕ) (rest : List ℕ) → valid_from set 0 (b ∷ rest)
    ≡ cond ((set.pct_encoded && eqb b 37) && begins_with_hex_digits rest)
    (valid_from set 2 rest) (allows_first set b rest && valid_from set (continuation_len b) rest)
unfolding valid_from
validity_by_first_byte set b rest = refl

validity_skips_given_bytes : (set : TableSet) (more rest : List ℕ)
    → valid_from set (length more) (more ++ rest) ≡ valid_from set 0 rest
unfolding valid_from
validity_skips_given_bytes set [] rest = refl
validity_skips_given_bytes set (b ∷ more) rest = validity_skips_given_bytes set more rest

-- validity: an ASCII byte may begin a text exactly if the set has it
pub ascii_first_byte_is_allowed_iff_in_set : (set : TableSet) (b : ℕ) (rest : List ℕ) → b < 128
    → allows_first set b rest ≡ set.ascii b
unfolding allows_first
ascii_first_byte_is_allowed_iff_in_set set b rest h = cond-true _ _ _ (lt-ltb b 128 h)

-- validity: a byte past ASCII may begin a text if the set allows the character that it begins
pub first_byte_past_ascii_is_allowed_by_its_char : (set : TableSet) (b : ℕ) (rest : List ℕ)
    → 128 ≤ b → allows_first set b rest ≡ allows_past_ascii set (first_char (b ∷ rest))
unfolding allows_first
first_byte_past_ascii_is_allowed_by_its_char set b rest h = cond-false _ _ _ (le-ltb b 128 h)

-- validity: a set allows an ASCII character if it has it
pub ascii_char_is_allowed_iff_in_set : (set : TableSet) (c : ℕ) → c < 128 → allows set c
    ≡ set.ascii c
ascii_char_is_allowed_iff_in_set set c h = cond-true _ _ _ (lt-ltb c 128 h)

-- validity: a set allows a character past ASCII by its flags `ucschar` and `iprivate`
pub char_past_ascii_is_allowed_by_flags : (set : TableSet) (c : ℕ) → 128 ≤ c → allows set c
    ≡ allows_past_ascii set c
char_past_ascii_is_allowed_by_flags set c h = cond-false _ _ _ (le-ltb c 128 h)

-- general fact on booleans, for validity
and_is_false_with_any_first : (x y z : Bool) → (y && z) ≡ false → ((x && y) && z) ≡ false
and_is_false_with_any_first true y z e = e
and_is_false_with_any_first false y z e = refl

-- validity: a byte past ASCII is not `%` (37)
past_ascii_is_not_percent : {n : ℕ} (b : ℕ) → n ≡ b → 128 ≤ n → b ≡ 37 → ⊥
past_ascii_is_not_percent b e h d = omega arith

-- validity: characters begin with the first byte of the first one; w: its bytes
utf8_of_chars_begins_with_first_byte : (c : ℕ) (cs : List ℕ) (w : HasEncoding c)
    → encode_utf8_all (c ∷ cs) ≡ w.first ∷ (w.more ++ encode_utf8_all cs)
utf8_of_chars_begins_with_first_byte c cs w = ap (λ t. t ++ encode_utf8_all cs) w.joined

-- validity: an ASCII character has one byte, itself; w: its bytes
ascii_char_is_its_only_byte : (c : ℕ) (w : HasEncoding c) → c < 128 → (w.first ≡ c) × (w.more ≡ [])
ascii_char_is_its_only_byte c w h =
    let e : w.first ∷ w.more ≡ c ∷ [] = sym w.joined ∙ encode_ascii c h in
    (ap (λ t. get_or t 0 0) e, ap (drop 1) e)

-- validity: the first byte of a character past ASCII is past ASCII; w: its bytes
first_byte_is_past_ascii_if_char_is : (c : ℕ) (w : HasEncoding c) → 128 ≤ c → 128 ≤ w.first
first_byte_is_past_ascii_if_char_is c w h =
    let l = char_past_ascii_begins_past_ascii c [] h in
    let e : get_or (encode_utf8 c ++ []) 0 0 ≡ w.first = ap (λ t. get_or (t ++ []) 0 0) w.joined in
    omega arith

-- validity: bytes begin with an octet exactly if their characters do; w: the bytes of the first one
first_byte_begins_no_octet_if_char_does_not :
    (set : TableSet) (c : ℕ) (cs : List ℕ) (w : HasEncoding c)
    → (eqb c 37 && begins_with_hex_digits cs) ≡ false → ((set.pct_encoded && eqb w.first 37)
    && begins_with_hex_digits (w.more ++ encode_utf8_all cs)) ≡ false
first_byte_begins_no_octet_if_char_does_not set c cs w e = ⊎_elim (λ h.
    let f = ascii_char_is_its_only_byte c w h in
    ap (λ t. (set.pct_encoded && eqb t 37)
    && begins_with_hex_digits (w.more ++ encode_utf8_all cs)) f.0 ∙ ap
    (λ t. (set.pct_encoded && eqb c 37) && begins_with_hex_digits (t ++ encode_utf8_all cs)) f.1
    ∙ and_is_false_with_any_first set.pct_encoded (eqb c 37) (begins_with_hex_digits
    (encode_utf8_all cs)) (ap (λ t. eqb c 37 && t) (encoded_chars_begin_with_same_hex_digits cs)
    ∙ e)) (λ h. and_left _ _ (and_right _ _ (ne_eqb w.first 37 (λ d. past_ascii_is_not_percent
    w.first refl (first_byte_is_past_ascii_if_char_is c w h) d)))) (cases_lt c 128)

-- validity: the first byte of characters is allowed exactly if the first character is; w: its bytes
first_byte_is_allowed_iff_char_is : (set : TableSet) (c : ℕ) (cs : List ℕ) (w : HasEncoding c)
    → all_scalars (c ∷ cs) ≡ true
    → allows_first set w.first (w.more ++ encode_utf8_all cs) ≡ allows set c
first_byte_is_allowed_iff_char_is set c cs w s = ⊎_elim (λ h.
    let f = ascii_char_is_its_only_byte c w h in
    ap (λ t. allows_first set t (w.more ++ encode_utf8_all cs)) f.0
    ∙ ascii_first_byte_is_allowed_iff_in_set set c _ h ∙ sym
    (ascii_char_is_allowed_iff_in_set set c h)) (λ h. first_byte_past_ascii_is_allowed_by_its_char
    set w.first _ (first_byte_is_past_ascii_if_char_is c w h)
    ∙ ap (allows_past_ascii set) (ap first_char (sym (utf8_of_chars_begins_with_first_byte c cs w))
    ∙ first_of_encoded_chars_is_first_char c cs s)
    ∙ sym (char_past_ascii_is_allowed_by_flags set c h)) (cases_lt c 128)

-- validity: a character that begins no octet is valid if the set allows it
validity_by_first_char : (set : TableSet) (c : ℕ) (cs : List ℕ) → all_scalars (c ∷ cs) ≡ true
    → (eqb c 37 && begins_with_hex_digits cs) ≡ false → valid_from set 0 (encode_utf8_all (c ∷ cs))
    ≡ (allows set c && valid_from set 0 (encode_utf8_all cs))
validity_by_first_char set c cs s e =
    let w = char_has_encoding c in
    let X = encode_utf8_all cs in
    ap (valid_from set 0) (utf8_of_chars_begins_with_first_byte c cs w)
    ∙ validity_by_first_byte set w.first (w.more ++ X)
    ∙ cond-false _ _ _ (first_byte_begins_no_octet_if_char_does_not set c cs w e)
    ∙ ap (λ t. t && valid_from set (continuation_len w.first) (w.more ++ X))
    (first_byte_is_allowed_iff_char_is set c cs w s) ∙ ap (λ t. allows set c
    && t) (ap (λ n. valid_from set n (w.more ++ X)) w.len ∙ validity_skips_given_bytes set w.more X)

-- validity: two hexadecimal digits of an octet are skipped
validity_skips_two_hexdigits : (set : TableSet) (h l : ℕ) (rest : List ℕ)
    → is_ascii_hexdigit h ≡ true → is_ascii_hexdigit l ≡ true
    → valid_from set 2 (encode_utf8_all (h ∷ l ∷ rest)) ≡ valid_from set 0 (encode_utf8_all rest)
unfolding valid_from
validity_skips_two_hexdigits set h l rest e f =
    grind (arith, nat_tests, encode_ascii, hexdigit_is_ascii)

validity_after_percent_skips_two : (set : TableSet) (c : ℕ) (cs : List ℕ) → c ≡ 37
    → begins_with_hex_digits cs ≡ true → set.pct_encoded ≡ true
    → valid_from set 0 (encode_utf8_all (c ∷ cs)) ≡ valid_from set 2 (encode_utf8_all cs)
validity_after_percent_skips_two set c cs d b o =
    grind (arith, common_steps, validity_by_first_byte, encoded_chars_begin_with_same_hex_digits)

-- validity: a `%` (37) is not valid for a set without octets
stray_percent_is_not_valid : (set : TableSet) (c : ℕ) (cs : List ℕ) → LacksPercent set → c ≡ 37
    → set.pct_encoded ≡ false → valid_from set 0 (encode_utf8_all (c ∷ cs)) ≡ false
stray_percent_is_not_valid set c cs p d o = ap (λ t. valid_from set 0 (t ++ encode_utf8_all cs))
    (encode_ascii c (omega arith)) ∙ validity_by_first_byte set c (encode_utf8_all cs)
    ∙ cond-false _ _ _ (and_left _ _ (and_left _ _ o)) ∙ and_left _ _
    (ascii_first_byte_is_allowed_iff_in_set set c _ (omega arith) ∙ ap set.ascii d ∙ p)

validity_by_first_octet : (set : TableSet) (c h l : ℕ) (cs : List ℕ) → LacksPercent set
    → is_pct_encoded c h l ≡ true → valid_from set 0 (encode_utf8_all (c ∷ h ∷ l ∷ cs))
    ≡ (set.pct_encoded && valid_from set 0 (encode_utf8_all cs))
unfolding is_pct_encoded begins_with_hex_digits
validity_by_first_octet set c h l cs p e =
    let a = and_parts _ _ e in
    let q = and_parts _ _ a.1 in
    let d = eqb-true c 37 a.0 in
    ⊎_elim (λ o. validity_after_percent_skips_two set c (h ∷ l ∷ cs) d a.1 o
    ∙ validity_skips_two_hexdigits set h l cs q.0 q.1
    ∙ sym (ap (λ b. b && valid_from set 0 (encode_utf8_all cs)) o))
    (λ o. stray_percent_is_not_valid set c (h ∷ l ∷ cs) p d o ∙ sym (and_left _ _ o))
    (cases_Bool set.pct_encoded)

-- validity: scalar values without the first are scalar values
pub tail_of_scalars_is_scalars : (c : ℕ) (cs : List ℕ) → all_scalars (c ∷ cs) ≡ true
    → all_scalars cs ≡ true
tail_of_scalars_is_scalars c cs s = (and_parts _ _ s).1

-- validity: three characters (c, h, l) that are no octet do not begin one, whatever follows
pub chars_not_pct_encoded_begin_no_octet : (c h l : ℕ) (cs : List ℕ) → is_pct_encoded c h l ≡ false
    → (eqb c 37 && begins_with_hex_digits (h ∷ l ∷ cs)) ≡ false
unfolding is_pct_encoded begins_with_hex_digits
chars_not_pct_encoded_begin_no_octet c h l cs e = e

-- validity: the test of bytes is the test of the tokens, for characters
validity_is_all_tokens_allowed : (set : TableSet) → LacksPercent set → (cs : List ℕ)
    → all_scalars cs ≡ true
    → valid_from set 0 (encode_utf8_all cs) ≡ list_all (allows_token set) (tokens_from_chars cs)
unfolding valid_from tokens_from_chars begins_with_hex_digits
validity_is_all_tokens_allowed set p [] s = refl
validity_is_all_tokens_allowed set p (c ∷ []) s = validity_by_first_char set c [] s
    (and_right _ _ refl)
validity_is_all_tokens_allowed set p (c ∷ d ∷ []) s = validity_by_first_char set c (d
    ∷ []) s (and_right _ _ (and_right _ _ refl)) ∙ ap (λ b. allows set c
    && b) (validity_is_all_tokens_allowed set p (d ∷ []) (tail_of_scalars_is_scalars c (d ∷ []) s))
validity_is_all_tokens_allowed set p (c ∷ h ∷ l ∷ cs) s =
    ⊎_elim (λ e. validity_by_first_octet set c h l cs p e ∙ ap (λ b. set.pct_encoded
    && b) (validity_is_all_tokens_allowed set p cs (tail_of_scalars_is_scalars l cs
    (tail_of_scalars_is_scalars h (l ∷ cs) (tail_of_scalars_is_scalars c (h ∷ l ∷ cs) s))))
    ∙ sym (ap (list_all (allows_token set)) (cond-true _ _ _ e))) (λ e.
    validity_by_first_char set c (h ∷ l ∷ cs) s (chars_not_pct_encoded_begin_no_octet c h l cs e)
    ∙ ap (λ b. allows set c && b) (validity_is_all_tokens_allowed set p
    (h ∷ l ∷ cs) (tail_of_scalars_is_scalars c (h ∷ l ∷ cs) s))
    ∙ sym (ap (list_all (allows_token set)) (cond-false _ _ _ e)))
    (cases_Bool (is_pct_encoded c h l))

-- validity: a text is valid by its tokens exactly if it is valid by its bytes
pub validity_of_tokens_is_validity_of_bytes : (set : TableSet) → LacksPercent set → (text : List ℕ)
    → IsUtf8 text → is_valid_for set text ≡ valid_from set 0 text
unfolding is_valid_for
validity_of_tokens_is_validity_of_bytes set p text u =
    grind (arith, nat_tests, chars-encodes, validity_is_all_tokens_allowed)
