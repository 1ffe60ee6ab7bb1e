-- Texts that are valid for a set.
use Rattle.uri_pct.proofs.Common.{◌≡◌, ℕ, ◌<◌, true, List, [], ◌∷◌, refl, sym, ◌∙◌, ⊎_elim, arith, list_all, chars, and_parts, and_from, lt-ltb, cases_lt, TableSet, IsSubset, allows, allows_past_ascii, Token, Char, Octet, allows_token, is_valid_for, tokens, tokens_from_chars, text_of_token, nat_tests}
use Rattle.uri_pct.proofs.UnreservedDecoding.Printing.{printed_tokens_are_valid_iff_allowed}
use Rattle.uri_pct.proofs.ValidTexts.Validity.{ascii_char_is_allowed_iff_in_set, char_past_ascii_is_allowed_by_flags}

-- valid texts: the empty text is valid for every set
pub empty_text_is_valid : (set : TableSet) → is_valid_for set [] ≡ true
unfolding is_valid_for tokens_from_chars chars
empty_text_is_valid set = refl

-- valid texts: a greater set t has the characters past ASCII of s
pub superset_allows_same_past_ascii : (s t : TableSet) (c : ℕ) → IsSubset s t
    → allows_past_ascii s c ≡ true → allows_past_ascii t c ≡ true
unfolding allows_past_ascii
superset_allows_same_past_ascii s t c subset e = grind (arith, nat_tests)

superset_allows_same_char : (s t : TableSet) (c : ℕ) → IsSubset s t → allows s c ≡ true
    → allows t c ≡ true
superset_allows_same_char s t c subset e = ⊎_elim (λ low. ascii_char_is_allowed_iff_in_set t c low
    ∙ subset.ascii c (sym (ascii_char_is_allowed_iff_in_set s c low) ∙ e))
    (λ high. char_past_ascii_is_allowed_by_flags t c high ∙ superset_allows_same_past_ascii
    s t c subset (sym (char_past_ascii_is_allowed_by_flags s c high) ∙ e)) (cases_lt c 128)

pub tokens_allowed_by_superset : (s t : TableSet) (ts : List Token) → IsSubset s t
    → list_all (allows_token s) ts ≡ true → list_all (allows_token t) ts ≡ true
tokens_allowed_by_superset s t [] subset e = refl
tokens_allowed_by_superset s t (Char c ∷ ts) subset e =
    let p = and_parts (allows s c) _ e in
    and_from _ _ (superset_allows_same_char s t c subset p.0)
    (tokens_allowed_by_superset s t ts subset p.1)
tokens_allowed_by_superset s t (Octet value ∷ ts) subset e =
    let p = and_parts s.pct_encoded _ e in
    and_from _ _ (subset.pct_encoded p.0) (tokens_allowed_by_superset s t ts subset p.1)

-- valid texts: one that is valid for a set is valid for every larger one
pub valid_for_superset : (s t : TableSet) (text : List ℕ) → IsSubset s t
    → is_valid_for s text ≡ true → is_valid_for t text ≡ true
unfolding is_valid_for
valid_for_superset s t text subset e = tokens_allowed_by_superset s t (tokens text) subset e

pub printed_octet_is_valid : (set : TableSet) (byte : ℕ) → byte < 256 → set.pct_encoded ≡ true
    → is_valid_for set (text_of_token (Octet byte)) ≡ true
printed_octet_is_valid set byte small e = printed_tokens_are_valid_iff_allowed set (Octet byte
    ∷ []) (and_from _ true (lt-ltb byte 256 small) refl) ∙ and_from _ true e refl

-- for the types of texts
pub ruleset valid_texts = (empty_text_is_valid, printed_octet_is_valid, valid_for_superset)
