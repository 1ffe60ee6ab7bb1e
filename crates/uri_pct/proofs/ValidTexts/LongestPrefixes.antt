-- The longest prefix that is valid for a set: it is valid, and none that is longer is.
use Rattle.uri_pct.proofs.Common.{◌≡◌, ℕ, ◌+◌, ◌≤◌, true, false, eqb, cond, List, [], ◌∷◌, ◌++◌, length, take, drop, refl, sym, ap, subst, ◌∙◌, arith, ◌&&◌, ⊎_elim, length-append, length-take-le, take-append-drop, take-append_seam, list_all, encode_utf8, len_utf8, is_ascii_hexdigit, chars, encode_utf8_all, all_scalars, IsUtf8, IsCharBoundary, cases_Bool, cond-true, cond-false, and_parts, and_from, and_right, eqb-true, chars-encodes, encodes-append, encode_ascii, length-encode, IsUtf8-take, IsUtf8-drop, IsCharBoundary-at_seam, encodes-chars, scalars-chars, TableSet, LacksPercent, allows, tokens_from_chars, allows_token, is_pct_encoded, is_valid_for, IsValidFor, begins_with_hex_digits, valid_prefix_from, valid_prefix, nat_tests}
use Rattle.uri_pct.proofs.Unicode.Characters.{encoded_chars_begin_with_same_hex_digits, hexdigit_is_ascii}
use Rattle.uri_pct.proofs.UnreservedDecoding.Printing.{char_but_percent_is_its_own_token, scalars-append}
use Rattle.uri_pct.proofs.ValidTexts.Cuts.{valid_prefix_by_first_byte}
use Rattle.uri_pct.proofs.ValidTexts.Validity.{ascii_first_byte_is_allowed_iff_in_set, tail_of_scalars_is_scalars}
use Rattle.uri_pct.proofs.ValidTexts.PrefixSteps.{valid_prefix_by_first_char}

abbrev are_allowed_chars : TableSet → List ℕ → Type 0
are_allowed_chars set cs = list_all (allows_token set) (tokens_from_chars cs) ≡ true

-- general fact on numbers, for lengths of valid prefixes
addition_commutes : (m n : ℕ) → m + n ≡ n + m
addition_commutes m n = omega arith

-- valid prefixes: an octet before characters (cs) makes their text three bytes longer
octet_is_three_bytes_long : (c h l : ℕ) (cs : List ℕ) → is_pct_encoded c h l ≡ true
    → length (encode_utf8_all (c ∷ h ∷ l ∷ cs)) ≡ length (encode_utf8_all cs) + 3
unfolding is_pct_encoded
octet_is_three_bytes_long c h l cs e = grind (arith, nat_tests, encode_ascii, hexdigit_is_ascii)

-- valid prefixes: a set allows nothing of the empty text
pub empty_text_has_empty_valid_prefix : (set : TableSet) → valid_prefix set [] ≡ 0
unfolding valid_prefix_from
empty_text_has_empty_valid_prefix set = refl

-- valid prefixes: characters and one more (c) are within its length more
chars_with_one_more_stay_within : (c : ℕ) (xs : List ℕ) {m n : ℕ} → m ≡ n + length (encode_utf8 c)
    → length (encode_utf8_all xs) ≤ n → length (encode_utf8_all (c ∷ xs)) ≤ m
chars_with_one_more_stay_within c xs e l = grind (arith, nat_tests, length-append)

module _ (set : TableSet) (lacks : LacksPercent set) where
  allowed_char_is_not_percent : (c : ℕ) → allows set c ≡ true → eqb c 37 ≡ false
  allowed_char_is_not_percent c a = grind (arith, nat_tests, set, eqb-true, lacks)

  valid_prefix_by_first_of_chars : (c : ℕ) (cs : List ℕ) → all_scalars (c ∷ cs) ≡ true
      → eqb c 37 ≡ false → valid_prefix set (encode_utf8_all (c ∷ cs))
      ≡ cond (allows set c) (valid_prefix set (encode_utf8_all cs) + len_utf8 c) 0
  valid_prefix_by_first_of_chars c cs s e = valid_prefix_by_first_char set
      (encode_utf8_all (c ∷ cs)) (encode_utf8_all cs) c (c ∷ cs, (s, refl)) refl (and_right _ _ e)

  valid_prefix_grows_by_allowed_char : (c : ℕ) (cs : List ℕ) → all_scalars (c ∷ cs) ≡ true
      → allows set c ≡ true → valid_prefix set (encode_utf8_all (c ∷ cs))
      ≡ valid_prefix set (encode_utf8_all cs) + length (encode_utf8 c)
  valid_prefix_grows_by_allowed_char c cs s a =
      grind (arith, valid_prefix_by_first_of_chars, length-encode)

  valid_prefix_is_empty_at_disallowed_char : (c : ℕ) (cs : List ℕ) → all_scalars (c ∷ cs) ≡ true
      → allows set c ≡ false → (set.pct_encoded && (eqb c 37 && begins_with_hex_digits cs)) ≡ false
      → valid_prefix set (encode_utf8_all (c ∷ cs)) ≡ 0
  valid_prefix_is_empty_at_disallowed_char c cs s a o =
      grind (
        arith,
        encode_ascii,
        valid_prefix_by_first_byte,
        encoded_chars_begin_with_same_hex_digits,
        ascii_first_byte_is_allowed_iff_in_set,
        valid_prefix_by_first_of_chars,
      )

  valid_prefix_grows_by_octet : (c h l : ℕ) (cs : List ℕ) → set.pct_encoded ≡ true
      → is_pct_encoded c h l ≡ true → valid_prefix set (encode_utf8_all (c ∷ h ∷ l ∷ cs))
      ≡ valid_prefix set (encode_utf8_all cs) + 3
  unfolding is_pct_encoded valid_prefix_from begins_with_hex_digits
  valid_prefix_grows_by_octet c h l cs p e =
      grind (arith, nat_tests, encode_ascii, hexdigit_is_ascii)

  -- the prefix is whole characters, and valid
  record Found (cs : List ℕ) : Type 0 where
    before : List ℕ
    suffix : List ℕ
    whole : cs ≡ before ++ suffix
    end : valid_prefix set (encode_utf8_all cs) ≡ length (encode_utf8_all before)
    valid : are_allowed_chars set before

  empty_valid_prefix_is_found : (cs : List ℕ) → valid_prefix set (encode_utf8_all cs) ≡ 0 → Found cs
  unfolding tokens_from_chars
  empty_valid_prefix_is_found cs e = record {
    before = [];
    suffix = cs;
    whole = refl;
    end = e;
    valid = refl;
  }

  valid_prefix_of_char_is_found : (c : ℕ) (cs : List ℕ) → all_scalars (c ∷ cs) ≡ true
      → (set.pct_encoded && (eqb c 37 && begins_with_hex_digits cs)) ≡ false → Found cs
      → Found (c ∷ cs)
  valid_prefix_of_char_is_found c cs s o f = ⊎_elim (λ a. record {
    before = c ∷ f.before;
    suffix = f.suffix;
    whole = ap (λ t. c ∷ t) f.whole;
    end = valid_prefix_grows_by_allowed_char c cs s a ∙ ap (λ n. n + length (encode_utf8 c)) f.end
        ∙ addition_commutes (length (encode_utf8_all f.before)) (length (encode_utf8 c))
        ∙ sym (length-append (encode_utf8 c) (encode_utf8_all f.before));
    valid = ap (list_all (allows_token set)) (char_but_percent_is_its_own_token
        c f.before (allowed_char_is_not_percent c a)) ∙ and_from _ _ a f.valid;
  }) (λ a. empty_valid_prefix_is_found
      (c ∷ cs) (valid_prefix_is_empty_at_disallowed_char c cs s a o)) (cases_Bool (allows set c))

  valid_prefix_of_octet_is_found : (c h l : ℕ) (cs : List ℕ) → set.pct_encoded ≡ true
      → is_pct_encoded c h l ≡ true → Found cs → Found (c ∷ h ∷ l ∷ cs)
  unfolding tokens_from_chars
  valid_prefix_of_octet_is_found c h l cs p e f = record {
    before = c ∷ h ∷ l ∷ f.before;
    suffix = f.suffix;
    whole = ap (λ t. c ∷ h ∷ l ∷ t) f.whole;
    end = valid_prefix_grows_by_octet c h l cs p e ∙ ap (λ n. n + 3) f.end
        ∙ sym (octet_is_three_bytes_long c h l f.before e);
    valid = ap (list_all (allows_token set)) (cond-true _ _ _ e) ∙ and_from _ _ p f.valid;
  }

  valid_prefix_of_chars_is_found : (cs : List ℕ) → all_scalars cs ≡ true → Found cs
  unfolding begins_with_hex_digits is_pct_encoded
  valid_prefix_of_chars_is_found [] s = empty_valid_prefix_is_found []
      (empty_text_has_empty_valid_prefix set)
  valid_prefix_of_chars_is_found (c ∷ []) s = valid_prefix_of_char_is_found c [] s
      (and_right set.pct_encoded _ (and_right (eqb c 37) false refl))
      (empty_valid_prefix_is_found [] (empty_text_has_empty_valid_prefix set))
  valid_prefix_of_chars_is_found (c ∷ d ∷ []) s = valid_prefix_of_char_is_found c (d ∷ []) s
      (and_right set.pct_encoded _
      (and_right (eqb c 37) _ (and_right (is_ascii_hexdigit d) false refl)))
      (valid_prefix_of_chars_is_found (d ∷ []) (tail_of_scalars_is_scalars c (d ∷ []) s))
  valid_prefix_of_chars_is_found (c ∷ h ∷ l ∷ cs) s =
      let rest = tail_of_scalars_is_scalars c (h ∷ l ∷ cs) s in
      ⊎_elim (λ o. let p = and_parts _ _ o in valid_prefix_of_octet_is_found c h l cs p.0 p.1
      (valid_prefix_of_chars_is_found cs (tail_of_scalars_is_scalars l cs
      (tail_of_scalars_is_scalars h (l ∷ cs) rest)))) (λ o. valid_prefix_of_char_is_found c
      (h ∷ l ∷ cs) s o (valid_prefix_of_chars_is_found (h ∷ l ∷ cs) rest))
      (cases_Bool (set.pct_encoded && is_pct_encoded c h l))

  -- valid characters are within the longest valid prefix
  valid_chars_are_within_valid_prefix : (xs ys : List ℕ) → all_scalars (xs ++ ys) ≡ true
      → are_allowed_chars set xs
      → length (encode_utf8_all xs) ≤ valid_prefix set (encode_utf8_all (xs ++ ys))
  unfolding tokens_from_chars
  valid_chars_are_within_valid_prefix [] ys s v = omega arith
  valid_chars_are_within_valid_prefix (c ∷ []) ys s v =
      let p = and_parts (allows set c) true v in
      chars_with_one_more_stay_within c [] (valid_prefix_grows_by_allowed_char c ys s p.0)
      (omega arith)
  valid_chars_are_within_valid_prefix (c ∷ d ∷ []) ys s v =
      let p = and_parts (allows set c) (allows set d && true) v in
      chars_with_one_more_stay_within c (d ∷ [])
      (valid_prefix_grows_by_allowed_char c (d ∷ ys) s p.0) (valid_chars_are_within_valid_prefix (d
      ∷ []) ys (tail_of_scalars_is_scalars c (d ∷ ys) s) p.1)
  valid_chars_are_within_valid_prefix (c ∷ h ∷ l ∷ xs) ys s v =
      let rest = tail_of_scalars_is_scalars c (h ∷ l ∷ (xs ++ ys)) s in
      ⊎_elim (λ o.
      let p = and_parts set.pct_encoded (list_all (allows_token set) (tokens_from_chars xs))
      (sym (ap (list_all (allows_token set)) (cond-true _ _ _ o)) ∙ v) in
      let ih = valid_chars_are_within_valid_prefix xs ys (tail_of_scalars_is_scalars l
      (xs ++ ys) (tail_of_scalars_is_scalars h (l ∷ (xs ++ ys)) rest)) p.1 in
      let e = valid_prefix_grows_by_octet c h l (xs ++ ys) p.0 o in
      let n = octet_is_three_bytes_long c h l xs o in
      omega (arith, e, n, ih)) (λ o.
      let p = and_parts (allows set c)
      (list_all (allows_token set) (tokens_from_chars (h ∷ l ∷ xs)))
      (sym (ap (list_all (allows_token set)) (cond-false _ _ _ o)) ∙ v) in
      chars_with_one_more_stay_within c (h ∷ l ∷ xs) (valid_prefix_grows_by_allowed_char c
      (h ∷ l ∷ (xs ++ ys)) s p.0) (valid_chars_are_within_valid_prefix (h ∷ l ∷ xs) ys rest p.1))
      (cases_Bool (is_pct_encoded c h l))

first_of_joined_scalars_is_scalars : (xs ys : List ℕ) → all_scalars (xs ++ ys) ≡ true
    → all_scalars xs ≡ true
first_of_joined_scalars_is_scalars [] ys s = refl
first_of_joined_scalars_is_scalars (x ∷ xs) ys s = let p = and_parts _ (all_scalars (xs ++ ys)) s in
    and_from _ _ p.0 (first_of_joined_scalars_is_scalars xs ys p.1)

second_of_joined_scalars_is_scalars : (xs ys : List ℕ) → all_scalars (xs ++ ys) ≡ true
    → all_scalars ys ≡ true
second_of_joined_scalars_is_scalars [] ys s = s
second_of_joined_scalars_is_scalars (x ∷ xs) ys s =
    second_of_joined_scalars_is_scalars xs ys (and_parts _ (all_scalars (xs ++ ys)) s).1

module _ (set : TableSet) (lacks : LacksPercent set) where
  -- the longest valid prefix ends at a boundary of characters
  valid_prefix_of_chars_ends_at_boundary : (cs : List ℕ) → all_scalars cs ≡ true
      → IsCharBoundary (encode_utf8_all cs) (valid_prefix set (encode_utf8_all cs))
  valid_prefix_of_chars_ends_at_boundary cs s =
      let f = valid_prefix_of_chars_is_found set lacks cs s in
      let suffix = second_of_joined_scalars_is_scalars f.before f.suffix
      (ap all_scalars (sym f.whole) ∙ s) in
      subst (IsCharBoundary (encode_utf8_all cs)) (sym f.end) (IsCharBoundary-at_seam
      (encode_utf8_all cs) (encode_utf8_all f.before) (encode_utf8_all f.suffix)
      (ap encode_utf8_all f.whole ∙ encodes-append f.before f.suffix) (f.suffix, (suffix, refl)))

  valid_prefix_of_chars_is_valid : (cs : List ℕ) → all_scalars cs ≡ true
      → IsValidFor set (take (valid_prefix set (encode_utf8_all cs)) (encode_utf8_all cs))
  unfolding is_valid_for
  valid_prefix_of_chars_is_valid cs s =
      let f = valid_prefix_of_chars_is_found set lacks cs s in
      let before = first_of_joined_scalars_is_scalars f.before f.suffix
      (ap all_scalars (sym f.whole) ∙ s) in
      grind (arith, nat_tests, encodes-append, take-append_seam, chars-encodes)

  -- the longest valid prefix ends at a boundary of characters
  pub valid_prefix_ends_at_boundary : (text : List ℕ) → IsUtf8 text
      → IsCharBoundary text (valid_prefix set text)
  valid_prefix_ends_at_boundary text u = subst (λ t. IsCharBoundary t (valid_prefix set t)) u.1.1
      (valid_prefix_of_chars_ends_at_boundary u.0 u.1.0)

  -- the longest valid prefix is valid
  pub valid_prefix_is_valid : (text : List ℕ) → IsUtf8 text
      → IsValidFor set (take (valid_prefix set text) text)
  valid_prefix_is_valid text u = subst (λ t. IsValidFor set (take (valid_prefix set t) t)) u.1.1
      (valid_prefix_of_chars_is_valid u.0 u.1.0)

  -- no longer prefix that ends at a boundary of characters is valid
  pub valid_prefix_is_longest : (text : List ℕ) (n : ℕ) → IsUtf8 text → IsCharBoundary text n
      → IsValidFor set (take n text) → n ≤ valid_prefix set text
  unfolding is_valid_for
  valid_prefix_is_longest text n u b v =
      let w = IsUtf8-take text n u b in
      let x = IsUtf8-drop text n u b in
      let xs = chars (take n text) in
      let ys = chars (drop n text) in
      let e : encode_utf8_all (xs ++ ys) ≡ text =
      grind (arith, nat_tests, encodes-append, encodes-chars, take-append-drop) in
      let l = valid_chars_are_within_valid_prefix set lacks xs ys
      (scalars-append xs ys (scalars-chars (take n text) w) (scalars-chars (drop n text) x)) v in
      let m = ap length (encodes-chars (take n text) w) ∙ length-take-le n text b.0 in
      let k = ap (valid_prefix set) e in
      omega (arith, l, m, k)

-- for the law of prefixes
pub ruleset longest_prefix = (
  valid_prefix_ends_at_boundary,
  valid_prefix_is_valid,
  valid_prefix_is_longest,
)
