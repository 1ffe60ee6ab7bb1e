-- How a scheme begins, and where it ends in a text that begins with `http:` or `https:`.
use Rattle.uri_parts.proofs.Common.{◌≡◌, ℕ, ◌+◌, ◌<◌, Bool, true, false, not, cond, eqb, ltb, List, [], ◌∷◌, length, get_or, drop, refl, sym, ap, ◌∙◌, arith, false≢true, nat_tests, is_ascii_alphabetic, drop_more, drop-drop, after, starts, is_scheme_char, valid_prefix, valid_prefix_from, allows_first, allows_past_ascii, scheme_set}

-- parsing: what is left of a text from a byte on
from_byte : (text : List ℕ) (i b : ℕ) (rest : List ℕ) → i < length text → get_or text i 0 ≡ b
    → drop (i + 1) text ≡ rest → drop i text ≡ b ∷ rest
from_byte text i b rest inside at next = drop_more text i 0 inside ∙ rw (at, next) refl

module _ (text : List ℕ) where
  -- parsing: the scheme of a text that begins with `http:`
  pub scheme_of_http_ends_at_4 : 4 < length text → get_or text 0 0 ≡ 104 → get_or text 1 0 ≡ 116
      → get_or text 2 0 ≡ 116 → get_or text 3 0 ≡ 112 → get_or text 4 0 ≡ 58
      → 4 ≡ valid_prefix scheme_set text
  unfolding valid_prefix_from allows_first
  scheme_of_http_ends_at_4 long h t u p colon =
      let same : text ≡ 104 ∷ 116 ∷ 116 ∷ 112 ∷ 58 ∷ drop 5 text =
      from_byte text 0 104 _ (omega (arith, long)) h (from_byte text 1 116 _ (omega (arith, long)) t
      (from_byte text 2 116 _ (omega (arith, long)) u (from_byte text 3 112 _
      (omega (arith, long)) p (from_byte text 4 58 _ (omega (arith, long)) colon refl)))) in
      sym (ap (valid_prefix scheme_set) same)

  -- parsing: the scheme of a text that begins with `https:`
  pub scheme_of_https_ends_at_5 : 5 < length text → get_or text 0 0 ≡ 104 → get_or text 1 0 ≡ 116
      → get_or text 2 0 ≡ 116 → get_or text 3 0 ≡ 112 → get_or text 4 0 ≡ 115
      → get_or text 5 0 ≡ 58 → 5 ≡ valid_prefix scheme_set text
  unfolding valid_prefix_from allows_first
  scheme_of_https_ends_at_5 long h t u p s colon =
      let same : text ≡ 104 ∷ 116 ∷ 116 ∷ 112 ∷ 115 ∷ 58 ∷ drop 6 text = from_byte text 0 104 _
      (omega (arith, long)) h (from_byte text 1 116 _ (omega (arith, long)) t (from_byte text 2 116
      _ (omega (arith, long)) u (from_byte text 3 112 _ (omega (arith, long)) p (from_byte text 4
      115 _ (omega (arith, long)) s (from_byte text 5 58 _ (omega (arith, long)) colon refl))))) in
      sym (ap (valid_prefix scheme_set) same)

pub text_after_scheme_and_slashes : (text : List ℕ) (end : ℕ)
    → drop (end + 3) text ≡ drop 2 (drop 1 (drop end text))
text_after_scheme_and_slashes text end =
    let sum : end + 3 ≡ end + 1 + 2 = omega arith in
    ap (λ n. drop n text) sum
    ∙ sym (ap (drop 2) (drop-drop 1 end text) ∙ drop-drop 2 (end + 1) text)

-- parsing: of the characters that a scheme may have, the letters are those from `A` (65) on
letter_of_scheme_is_from_A : (b : ℕ) → is_scheme_char b ≡ true
    → is_ascii_alphabetic b ≡ not (ltb b 65)
letter_of_scheme_is_from_A b e = grind (arith, nat_tests)

-- parsing: `:` (58) is neither a letter nor from `A` on
colon_is_before_A : (b : ℕ) → eqb b 58 ≡ true → is_ascii_alphabetic b ≡ not (ltb b 65)
colon_is_before_A b e = grind (arith, nat_tests)

true_if_other_is_false : (test value : Bool) → cond test value false ≡ true → value ≡ true
true_if_other_is_false true value e = e
true_if_other_is_false false value e = absurd (false≢true e)

first_byte_is_of_scheme : (b : ℕ) (rest : List ℕ) → allows_first scheme_set b rest ≡ true
    → is_scheme_char b ≡ true
unfolding allows_first allows_past_ascii
first_byte_is_of_scheme b rest e = true_if_other_is_false (ltb b 128) (is_scheme_char b) e

-- parsing: the first byte may be in a scheme if it is allowed, and is `:` if it is not
first_letter_is_from_A : (b : ℕ) (rest : List ℕ) (n : ℕ) (allowed : Bool)
    → (allowed ≡ true → is_scheme_char b ≡ true)
    → starts 58 (drop (cond allowed (n + 1) 0) (b ∷ rest)) ≡ true
    → is_ascii_alphabetic b ≡ not (ltb b 65)
first_letter_is_from_A b rest n true member mark = letter_of_scheme_is_from_A b (member refl)
first_letter_is_from_A b rest n false member mark = colon_is_before_A b mark

-- parsing: where `:` follows the characters of a scheme, even none, the text begins with a letter
-- exactly if its first byte is from `A` on
pub letters_before_colon_are_from_A : (text : List ℕ) → starts 58 (after scheme_set text) ≡ true
    → is_ascii_alphabetic (get_or text 0 0) ≡ not (ltb (get_or text 0 0) 65)
unfolding valid_prefix_from
letters_before_colon_are_from_A [] mark = absurd (false≢true mark)
letters_before_colon_are_from_A (b ∷ rest) mark = first_letter_is_from_A b rest _
    (allows_first scheme_set b rest) (first_byte_is_of_scheme b rest) mark
