-- Texts that are valid for a set, one after the other.
use Rattle.uri_pct.proofs.Common.{◌≡◌, ℕ, true, false, eqb, List, [], ◌∷◌, ◌++◌, refl, sym, ap, ◌∙◌, ◌+◌, ◌*◌, ◌&&◌, ⊎_elim, chars, IsUtf8, list_all, digit_value, cases_Bool, cond-true, cond-false, and_parts, and_from, eqb-true, false≢true, false_from_ne_true, list_all-append, chars-append, TableSet, LacksPercent, allows, Token, Char, Octet, is_pct_encoded, tokens_from_chars, tokens, allows_token, is_valid_for, IsValidFor, print, is_printable}
use Rattle.uri_pct.proofs.UnreservedDecoding.Printing.{char_but_percent_is_its_own_token, printed_tokens_are_valid_iff_allowed}

allowed_char_is_not_percent : (set : TableSet) (c : ℕ) → LacksPercent set → allows set c ≡ true
    → eqb c 37 ≡ false
allowed_char_is_not_percent set c lacks e = false_from_ne_true _
    (λ p. false≢true (sym lacks ∙ sym (ap (allows set) (eqb-true c 37 p)) ∙ e))

module _ (set : TableSet) (lacks : LacksPercent set) where
  tokens_of_chars_after_allowed_chars : (cs ds : List ℕ)
      → list_all (allows_token set) (tokens_from_chars cs) ≡ true
      → tokens_from_chars (cs ++ ds) ≡ tokens_from_chars cs ++ tokens_from_chars ds
  unfolding tokens_from_chars
  tokens_of_chars_after_allowed_chars [] ds e = refl
  tokens_of_chars_after_allowed_chars (c ∷ []) ds e = char_but_percent_is_its_own_token c ds
      (allowed_char_is_not_percent set c lacks (and_parts (allows set c) true e).0)
  tokens_of_chars_after_allowed_chars (c ∷ d ∷ []) ds e =
      let p = and_parts (allows set c) (allows set d && true) e in
      char_but_percent_is_its_own_token c (d ∷ ds) (allowed_char_is_not_percent set c lacks p.0)
      ∙ ap (λ ts. Char c ∷ ts) (char_but_percent_is_its_own_token d ds
      (allowed_char_is_not_percent set d lacks (and_parts (allows set d) true p.1).0))
  tokens_of_chars_after_allowed_chars (c ∷ high ∷ low ∷ cs) ds e = ⊎_elim (λ o.
      let rest = (and_parts set.pct_encoded (list_all (allows_token set) (tokens_from_chars cs))
      (sym (ap (list_all (allows_token set)) (cond-true _ _ _ o)) ∙ e)).1 in
      rw o (ap (λ ts. Octet (16 * digit_value high + digit_value low) ∷ ts)
      (tokens_of_chars_after_allowed_chars cs ds rest))) (λ o.
      let rest =
      (and_parts (allows set c) (list_all (allows_token set) (tokens_from_chars (high ∷ low ∷ cs)))
      (sym (ap (list_all (allows_token set)) (cond-false _ _ _ o)) ∙ e)).1 in
      rw o (ap (λ ts. Char c ∷ ts) (tokens_of_chars_after_allowed_chars (high ∷ low ∷ cs) ds rest)))
      (cases_Bool (is_pct_encoded c high low))

  -- the tokens of a text after a valid text come after the tokens of that
  pub tokens_of_text_after_valid_text : (xs ys : List ℕ) → IsUtf8 xs → IsValidFor set xs
      → tokens (xs ++ ys) ≡ tokens xs ++ tokens ys
  unfolding is_valid_for
  tokens_of_text_after_valid_text xs ys u e = ap tokens_from_chars (chars-append xs ys u)
      ∙ tokens_of_chars_after_allowed_chars (chars xs) (chars ys) e

  pub valid_text_after_valid_text_is_valid : (xs ys : List ℕ) → IsUtf8 xs → IsValidFor set xs
      → IsValidFor set ys → IsValidFor set (xs ++ ys)
  unfolding is_valid_for
  valid_text_after_valid_text_is_valid xs ys u e f =
      ap (list_all (allows_token set)) (tokens_of_text_after_valid_text xs ys u e)
      ∙ list_all-append (allows_token set) (tokens xs) (tokens ys) ∙ and_from _ _ e f

  pub printed_tokens_after_valid_text_are_valid : (xs : List ℕ) (ts : List Token) → IsUtf8 xs
      → IsValidFor set xs → list_all is_printable ts ≡ true → list_all (allows_token set) ts ≡ true
      → IsValidFor set (xs ++ print ts)
  printed_tokens_after_valid_text_are_valid xs ts u e p a = valid_text_after_valid_text_is_valid xs
      (print ts) u e (printed_tokens_are_valid_iff_allowed set ts p ∙ a)
