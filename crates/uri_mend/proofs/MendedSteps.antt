-- A mended component, from left to right: what a scan passes is unchanged, and the character where
-- it stops becomes octets.
use Rattle.uri_mend.proofs.Common.{common_steps, ◌≡◌, ℕ, ◌+◌, true, false, cond, eqb, List, [], ◌∷◌, ◌++◌, length, take, drop, map, refl, sym, ap, subst, ◌∙◌, arith, ⊎_elim, append_assoc, ◌&&◌, encode_utf8, len_utf8, chars, encode_utf8_all, all_scalars, IsUtf8, take-append-add, drop-append-add, cases_Bool, cond-true, cond-false, and_parts, and_from, eqb-true, and_right, append-nil, take_all, drop_all, length-encode, chars_past_char, chars-encodes, encode_ascii, len_utf8_bounds, chars-nil, encodes-chars, scalars-chars, TableSet, LacksPercent, allows, valid_prefix, valid_prefix_from, begins_with_hex_digits, Octet, print, is_pct_encoded, is_valid_for, encode_char, allowed_char_is_printed_literally, disallowed_char_is_encoded_as_octets, hexdigit_is_ascii, encoded_chars_begin_with_same_hex_digits, is_valid_for_is_scanned_to_end, valid_prefix_by_first_byte, mended_from_chars, mended}
use Rattle.uri_pct.specs.Texts.{has_hex_digits_after}
use Rattle.uri_pct.proofs.Offered.{valid_prefix_by_first_char, valid_prefix_passes_octet}

-- mended components: a first character that begins no octet is mended by itself
pub mended-by-first-of-chars : (set : TableSet) (c : ℕ) (cs : List ℕ)
    → (eqb c 37 && begins_with_hex_digits cs) ≡ false
    → mended_from_chars set (c ∷ cs) ≡ print (encode_char set c) ++ mended_from_chars set cs
unfolding mended_from_chars begins_with_hex_digits is_pct_encoded
mended-by-first-of-chars set c cs e =
    grind (arith, append-nil, mended_from_chars, begins_with_hex_digits, is_pct_encoded, cond-false)

-- mended components: an octet at the start is unchanged
pub mended-by-first-octet : (set : TableSet) (c high low : ℕ) (cs : List ℕ)
    → is_pct_encoded c high low ≡ true
    → mended_from_chars set (c ∷ high ∷ low ∷ cs) ≡ c ∷ high ∷ low ∷ mended_from_chars set cs
unfolding mended_from_chars
mended-by-first-octet set c high low cs e = cond-true _ _ _ e

pub mended-text-of-chars : (set : TableSet) (cs : List ℕ) → all_scalars cs ≡ true
    → mended set (encode_utf8_all cs) ≡ mended_from_chars set cs
unfolding mended
mended-text-of-chars set cs s = ap (mended_from_chars set) (chars-encodes cs s)

pub octet-text-of-chars : (c high low : ℕ) (cs : List ℕ) → is_pct_encoded c high low ≡ true
    → encode_utf8_all (c ∷ high ∷ low ∷ cs) ≡ c ∷ high ∷ low ∷ encode_utf8_all cs
unfolding is_pct_encoded
octet-text-of-chars c high low cs e = grind (arith, common_steps, hexdigit_is_ascii)

-- mended components: the first n bytes of the text are unchanged
abbrev HasUnchangedPrefix : TableSet → List ℕ → ℕ → Type 0
HasUnchangedPrefix set text n = mended set text ≡ take n text ++ mended set (drop n text)

-- general fact on numbers, for scans that stop at once
sum-with-character-is-not-zero : (n c : ℕ) → n + len_utf8 c ≡ 0 → ⊥
sum-with-character-is-not-zero n c e = omega (arith, (len_utf8_bounds c).0)

module _ (set : TableSet) (lacks : LacksPercent set) (octets : set.pct_encoded ≡ true) where
  -- a scan passes an octet
  scan-passes-octet : (c high low : ℕ) (text : List ℕ) → is_pct_encoded c high low ≡ true
      → valid_prefix set (c ∷ high ∷ low ∷ text) ≡ valid_prefix set text + 3
  unfolding is_pct_encoded has_hex_digits_after
  scan-passes-octet c high low text e =
      let p = and_parts (eqb c 37) _ e in
      valid_prefix_passes_octet set (c ∷ high ∷ low ∷ text) 0 (omega arith) octets
      (eqb-true c 37 p.0) p.1

  -- a scan passes an allowed first character, and stops at one that is not allowed and begins no
  -- octet
  scan-by-first-of-chars : (c : ℕ) (cs : List ℕ) → all_scalars (c ∷ cs) ≡ true
      → (eqb c 37 && begins_with_hex_digits cs) ≡ false
      → valid_prefix set (encode_utf8_all (c ∷ cs))
      ≡ cond (allows set c) (valid_prefix set (encode_utf8_all cs) + len_utf8 c) 0
  scan-by-first-of-chars c cs s e = ⊎_elim
      (λ is.
      let text = encode_utf8_all cs in
      let at : c ≡ 37 = eqb-true c 37 is in
      let none : begins_with_hex_digits text ≡ false = encoded_chars_begin_with_same_hex_digits cs
      ∙ sym (ap (λ t. t && begins_with_hex_digits cs) is) ∙ e in
      ap (λ t. valid_prefix set (t ++ text)) (encode_ascii c (omega arith))
      ∙ valid_prefix_by_first_byte set c text
      ∙ cond-true _ _ _ (and_from _ _ octets is) ∙ cond-false _ _ _ none
      ∙ sym (cond-false _ _ _ (ap (allows set) at ∙ lacks)))
      (λ is. valid_prefix_by_first_char set (encode_utf8_all (c ∷ cs)) (encode_utf8_all cs) c
      (c ∷ cs, (s, refl)) refl (and_right _ _ is)) (cases_Bool (eqb c 37))

  -- an octet before an unchanged prefix is unchanged too
  prefix-after-octet-is-unchanged : (c high low : ℕ) (cs : List ℕ) (n : ℕ) → all_scalars cs ≡ true
      → all_scalars (c ∷ high ∷ low ∷ cs) ≡ true
      → is_pct_encoded c high low ≡ true → HasUnchangedPrefix set (encode_utf8_all cs) n
      → HasUnchangedPrefix set (encode_utf8_all (c ∷ high ∷ low ∷ cs)) (n + 3)
  prefix-after-octet-is-unchanged c high low cs n s all e same =
      let text = encode_utf8_all cs in
      let P : List ℕ → Type 0 = λ t. mended_from_chars set (c ∷ high ∷ low ∷ cs)
      ≡ take (n + 3) t ++ mended set (drop (n + 3) t) in
      let prefix : take (n + 3) (c ∷ high ∷ low ∷ text) ≡ c ∷ high ∷ low ∷ take n text =
      ap (λ k. take k (c ∷ high ∷ low ∷ text)) (omega arith)
      ∙ take-append-add (c ∷ high ∷ low ∷ []) text n in
      let back : drop (n + 3) (c ∷ high ∷ low ∷ text) ≡ drop n text =
      ap (λ k. drop k (c ∷ high ∷ low ∷ text)) (omega arith)
      ∙ drop-append-add (c ∷ high ∷ low ∷ []) text n in
      mended-text-of-chars set (c ∷ high ∷ low ∷ cs) all ∙ subst P
      (sym (octet-text-of-chars c high low cs e)) (mended-by-first-octet set c high low cs e
      ∙ ap (λ x. c ∷ high ∷ low ∷ x) (sym (mended-text-of-chars set cs s) ∙ same) ∙ sym
      (ap (λ x. x ++ mended set (drop (n + 3) (c ∷ high ∷ low ∷ text))) prefix
      ∙ ap (λ x. (c ∷ high ∷ low ∷ take n text) ++ mended set x) back))

  -- an allowed character before an unchanged prefix is unchanged too
  prefix-after-allowed-char-is-unchanged : (c : ℕ) (cs : List ℕ) (n : ℕ)
      → all_scalars (c ∷ cs) ≡ true
      → (eqb c 37 && begins_with_hex_digits cs) ≡ false → allows set c ≡ true
      → HasUnchangedPrefix set (encode_utf8_all cs) n
      → HasUnchangedPrefix set (encode_utf8_all (c ∷ cs)) (n + len_utf8 c)
  prefix-after-allowed-char-is-unchanged c cs n s e allowed same =
      let rest = encode_utf8_all cs in
      let text : List ℕ = encode_utf8 c ++ rest in
      let size : n + len_utf8 c ≡ length (encode_utf8 c) + n = omega (arith, length-encode c) in
      let suffix = mended set (drop n rest) in
      mended-text-of-chars set (c ∷ cs) s ∙ mended-by-first-of-chars set c cs e
      ∙ ap (λ x. x ++ mended_from_chars set cs) (allowed_char_is_printed_literally set c allowed)
      ∙ ap (λ x. encode_utf8 c ++ x)
      (sym (mended-text-of-chars set cs (and_parts _ (all_scalars cs) s).1) ∙ same)
      ∙ sym (append_assoc (encode_utf8 c) (take n rest) suffix)
      ∙ ap (λ x. x ++ suffix) (sym (take-append-add (encode_utf8 c) rest n)) ∙ ap
      (λ x. take (length (encode_utf8 c) + n) text ++ mended set x)
      (sym (drop-append-add (encode_utf8 c) rest n))
      ∙ ap (λ k. take k text ++ mended set (drop k text)) (sym size)

  -- what begins no octet: unchanged if it is allowed, and else nothing is scanned
  first-of-chars-unchanged-or-unscanned : (c : ℕ) (cs : List ℕ) → all_scalars (c ∷ cs) ≡ true
      → (eqb c 37 && begins_with_hex_digits cs) ≡ false
      → HasUnchangedPrefix set (encode_utf8_all cs) (valid_prefix set (encode_utf8_all cs))
      → HasUnchangedPrefix set (encode_utf8_all (c ∷ cs))
      (valid_prefix set (encode_utf8_all (c ∷ cs)))
  first-of-chars-unchanged-or-unscanned c cs s e same =
      grind (arith, scan-by-first-of-chars, prefix-after-allowed-char-is-unchanged)

  -- what is scanned of characters is unchanged
  scanned-prefix-of-chars-is-unchanged : (cs : List ℕ) → all_scalars cs ≡ true
      → HasUnchangedPrefix set (encode_utf8_all cs) (valid_prefix set (encode_utf8_all cs))
  unfolding valid_prefix_from begins_with_hex_digits is_pct_encoded
  scanned-prefix-of-chars-is-unchanged [] s =
      grind (arith, common_steps, set, valid_prefix_from, begins_with_hex_digits, is_pct_encoded)
  scanned-prefix-of-chars-is-unchanged (c ∷ []) s = first-of-chars-unchanged-or-unscanned c [] s
      (and_right _ _ refl) (scanned-prefix-of-chars-is-unchanged [] refl)
  scanned-prefix-of-chars-is-unchanged (c ∷ d ∷ []) s =
      first-of-chars-unchanged-or-unscanned c (d ∷ []) s (and_right _ _ (and_right _ _ refl))
      (scanned-prefix-of-chars-is-unchanged (d ∷ []) (and_parts _ _ s).1)
  scanned-prefix-of-chars-is-unchanged (c ∷ high ∷ low ∷ cs) s =
      let p = and_parts _ _ s in
      let q = and_parts _ _ p.1 in
      let r = and_parts _ (all_scalars cs) q.1 in
      ⊎_elim
      (λ is. subst (HasUnchangedPrefix set (encode_utf8_all (c ∷ high ∷ low ∷ cs))) (sym
      (ap (valid_prefix set) (octet-text-of-chars c high low cs is)
      ∙ scan-passes-octet c high low (encode_utf8_all cs) is))
      (prefix-after-octet-is-unchanged c high low cs
      (valid_prefix set (encode_utf8_all cs)) r.1 s is
      (scanned-prefix-of-chars-is-unchanged cs r.1)))
      (λ is. first-of-chars-unchanged-or-unscanned c (high ∷ low ∷ cs) s is
      (scanned-prefix-of-chars-is-unchanged (high ∷ low ∷ cs) p.1))
      (cases_Bool (is_pct_encoded c high low))

  -- what is scanned of a text is unchanged
  pub scanned-prefix-is-unchanged : (text : List ℕ) → IsUtf8 text → mended set text
      ≡ take (valid_prefix set text) text ++ mended set (drop (valid_prefix set text) text)
  scanned-prefix-is-unchanged text u = grind (arith, scanned-prefix-of-chars-is-unchanged)

  -- a text that is valid for the set is mended as itself
  pub valid-text-is-its-own-mended-text : (text : List ℕ) → IsUtf8 text
      → is_valid_for set text ≡ true → mended set text ≡ text
  unfolding mended mended_from_chars
  valid-text-is-its-own-mended-text text u valid =
      let whole : valid_prefix set text ≡ length text =
      eqb-true _ _ (sym (is_valid_for_is_scanned_to_end set text lacks u) ∙ valid) in
      scanned-prefix-is-unchanged text u ∙ ap (λ n. take n text ++ mended set (drop n text)) whole
      ∙ ap (λ t. t ++ mended set (drop (length text) text)) (take_all _ text (omega arith))
      ∙ ap (λ t. text ++ mended set t) (drop_all (length text) text (omega arith))
      ∙ ap (λ cs. text ++ mended_from_chars set cs) chars-nil ∙ append-nil text

  -- a first character becomes octets where a scan stops at once
  char-before-chars-is-encoded : (c : ℕ) (cs : List ℕ) → all_scalars (c ∷ cs) ≡ true
      → valid_prefix set (encode_utf8_all (c ∷ cs)) ≡ 0 → mended_from_chars set (c ∷ cs)
      ≡ print (map Octet (encode_utf8 c)) ++ mended_from_chars set cs
  char-before-chars-is-encoded c cs s none = ⊎_elim
      (λ is.
      let text = encode_utf8_all cs in
      let p = and_parts (eqb c 37) (begins_with_hex_digits cs) is in
      let at : c ≡ 37 = eqb-true c 37 p.0 in
      absurd (sum-with-one-is-not-zero _
      (sym (ap (λ t. valid_prefix set (t ++ text)) (encode_ascii c (omega arith))
      ∙ valid_prefix_by_first_byte set c text
      ∙ cond-true _ _ _ (and_from _ _ octets p.0)
      ∙ cond-true _ _ _ (encoded_chars_begin_with_same_hex_digits cs ∙ p.1)) ∙ none)))
      (λ is. mended-by-first-of-chars set c cs is
      ∙ ap (λ ts. print ts ++ mended_from_chars set cs)
      (disallowed_char_is_encoded_as_octets set c (⊎_elim
      (λ a. absurd (sum-with-character-is-not-zero _ c
      (sym (scan-by-first-of-chars c cs s is ∙ cond-true _ _ _ a) ∙ none)))
      (λ a. a)
      (cases_Bool (allows set c)))))
      (cases_Bool (eqb c 37 && begins_with_hex_digits cs))
    where
      sum-with-one-is-not-zero : (n : ℕ) → n + 1 ≡ 0 → ⊥
      sum-with-one-is-not-zero n e = omega arith

  -- the first character of a text becomes octets where a scan stops at once
  pub unscanned-char-is-encoded : (text rest : List ℕ) (c : ℕ) → IsUtf8 text
      → text ≡ encode_utf8 c ++ rest → valid_prefix set text ≡ 0
      → mended set text ≡ print (map Octet (encode_utf8 c)) ++ mended set rest
  unfolding mended
  unscanned-char-is-encoded text rest c u e none =
      let cs = chars rest in
      let first = chars_past_char text rest c u e in
      let same : encode_utf8_all (c ∷ cs) ≡ text =
      ap encode_utf8_all (sym first) ∙ encodes-chars text u in
      ap (mended_from_chars set) first ∙ char-before-chars-is-encoded c cs
      (ap all_scalars (sym first) ∙ scalars-chars text u) (ap (valid_prefix set) same ∙ none)
