-- A test of texts that computes at a literal, and what it implies.
use Rattle.uri_pct.proofs.Common.{◌≡◌, ℕ, Bool, true, List, [], ◌∷◌, ◌&&◌, ap, sym, refl, ◌∙◌, ⊎_elim, arith, ◌==◌, not, nat_lt, if◌then◌else◌, is_ascii_hexdigit, is_in_range, list_all, chars, chars_after, continuation_len, lead_bits, cases_Bool, cond-true, cond-false, and_parts, and_from, TableSet, allows, allows_past_ascii, is_ucschar, tokens_from_chars, allows_token, is_pct_encoded, is_valid_for, IsValidFor, nat_tests}
use Rattle.uri_pct.proofs.UnreservedDecoding.Printing.{char_but_percent_is_its_own_token}

-- valid literals: a set with `ucschar` allows U+00A0 to U+D7FF,
-- its first range, which has the letters of most scripts
pub char_from_a0_to_d7ff_is_allowed : (set : TableSet) (c : ℕ) → set.ucschar ≡ true
    → is_in_range 0xA0 0xD7FF c ≡ true → allows_past_ascii set c ≡ true
unfolding allows_past_ascii is_ucschar
char_from_a0_to_d7ff_is_allowed set c flag range = rw (flag, range) refl

-- valid literals: the set allows the character, by a test that computes
abbrev pub is_literal_char : TableSet → ℕ → Bool
is_literal_char set c = if nat_lt c 128 then set.ascii c else set.ucschar
    && is_in_range 0xA0 0xD7FF c

literal_char_is_allowed : (set : TableSet) (c : ℕ) → is_literal_char set c ≡ true
    → allows set c ≡ true
literal_char_is_allowed set c e = grind (arith, nat_tests, char_from_a0_to_d7ff_is_allowed)

-- valid literals: the characters represent what the set allows, each `%` with its two digits
abbrev pub are_literal_chars : TableSet → List ℕ → Bool
are_literal_chars set [] = true
are_literal_chars set (c ∷ []) = not (c == 37) && is_literal_char set c
are_literal_chars set (c ∷ d ∷ []) =
    not (c == 37) && (is_literal_char set c && are_literal_chars set (d ∷ []))
are_literal_chars set (c ∷ high ∷ low ∷ rest) = if c == 37 then is_ascii_hexdigit high
    && (is_ascii_hexdigit low && (set.pct_encoded && are_literal_chars set rest))
    else is_literal_char set c && are_literal_chars set (high ∷ low ∷ rest)

literal_chars_are_allowed_tokens : (set : TableSet) (cs : List ℕ) → are_literal_chars set cs ≡ true
    → list_all (allows_token set) (tokens_from_chars cs) ≡ true
unfolding tokens_from_chars is_pct_encoded
literal_chars_are_allowed_tokens set [] e = refl
literal_chars_are_allowed_tokens set (c ∷ []) e = grind (arith, nat_tests, literal_char_is_allowed)
literal_chars_are_allowed_tokens set (c ∷ d ∷ []) e =
    let parts = and_parts (is_literal_char set c) _ (and_parts (not (c == 37)) _ e).1 in
    and_from (allows set c) _ (literal_char_is_allowed set c parts.0)
    (literal_chars_are_allowed_tokens set (d ∷ []) parts.1)
literal_chars_are_allowed_tokens set (c ∷ high ∷ low ∷ rest) e = ⊎_elim (λ percent.
    let first = and_parts (is_ascii_hexdigit high) _ (sym (cond-true _ _ _ percent) ∙ e) in
    let second = and_parts (is_ascii_hexdigit low) _ first.1 in
    let third = and_parts set.pct_encoded (are_literal_chars set rest) second.1 in
    ap (list_all (allows_token set)) (cond-true _ _ _ (and_from (c == 37) _ percent
    (and_from _ _ first.0 second.0))) ∙ and_from set.pct_encoded _ third.0
    (literal_chars_are_allowed_tokens set rest third.1)) (λ other.
    let parts = and_parts (is_literal_char set c) _ (sym (cond-false _ _ _ other) ∙ e) in
    ap (list_all (allows_token set)) (char_but_percent_is_its_own_token c (high ∷ low ∷ rest) other)
    ∙ and_from (allows set c) _ (literal_char_is_allowed set c parts.0)
    (literal_chars_are_allowed_tokens set (high ∷ low ∷ rest) parts.1)) (cases_Bool (c == 37))

-- valid literals: the characters of a text, which std's `chars` does not compute
abbrev pub literal_text_chars : List ℕ → List ℕ
literal_text_chars [] = []
literal_text_chars (b ∷ rest) = chars_after (continuation_len b) (lead_bits b) rest

literal_text_chars_are_its_chars : (text : List ℕ) → chars text ≡ literal_text_chars text
unfolding chars
literal_text_chars_are_its_chars [] = refl
literal_text_chars_are_its_chars (b ∷ rest) = refl

-- valid literals: a text whose characters compute to ones
-- of the set is valid, so that the condition of a call is met
pub literal_text_is_valid : (set : TableSet) (text : List ℕ)
    → are_literal_chars set (literal_text_chars text) ≡ true → IsValidFor set text
unfolding is_valid_for
literal_text_is_valid set text e = ap (λ cs. list_all (allows_token set) (tokens_from_chars cs))
    (literal_text_chars_are_its_chars text)
    ∙ literal_chars_are_allowed_tokens set (literal_text_chars text) e
