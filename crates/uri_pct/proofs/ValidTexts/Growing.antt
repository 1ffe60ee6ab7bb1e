-- An owned text that is valid for a set grows.
use Rattle.uri_pct.proofs.UnreservedDecoding.Printing.{printed_tokens_parse_to_themselves}
use native.Mathlib.Omega.{arith}
use Rattle.uri_pct.proofs.Common.{◌≡◌, ℕ, true, List, [], ◌∷◌, ◌++◌, cond, refl, sym, ap, ◌∙◌, subst, Result, Ok, Err, encode_utf8, OnOk, OnErr, is_ok, IsUtf8, append-nil, list_all, and_from, false≢true, false_from_ne_true, TableSet, LacksPercent, IsSubset, allows, Token, Char, tokens, allows_token, IsValidFor, print, encode_text, encode_bytes, is_printable}
use Rattle.uri_pct.proofs.ValidTexts.Allowed.{allowed_char_is_printable}
use Rattle.uri_pct.proofs.ValidTexts.Appending.{tokens_of_text_after_valid_text, valid_text_after_valid_text_is_valid, printed_tokens_after_valid_text_are_valid}
use Rattle.uri_pct.proofs.EncodedTexts.EncodedTokens.{is_eight_bit, encoded_text_is_printable, encoded_text_is_allowed, encoded_bytes_are_printable, encoded_bytes_are_allowed}

-- owned valid texts: the new text is valid, and has the tokens of the old one and then these
pub record Grows (set : TableSet) (old : List ℕ) (ts : List Token) (new : List ℕ) : Type 0 where
  pub valid : IsValidFor set new
  pub tokens : tokens new ≡ tokens old ++ ts

-- owned valid texts: with allowed tokens written after it, one is valid, and has those tokens more
grows_by_tokens : (set : TableSet) (old new : List ℕ) (ts : List Token)
    → LacksPercent set → IsUtf8 old → IsValidFor set old → list_all is_printable ts ≡ true
    → list_all (allows_token set) ts ≡ true → new ≡ old ++ print ts → Grows set old ts new
grows_by_tokens set old new ts lacks u valid p a e =
    grind (
      arith,
      printed_tokens_after_valid_text_are_valid,
      tokens_of_text_after_valid_text,
      printed_tokens_parse_to_themselves,
    )

subset_lacks_percent : (sub set : TableSet) → IsSubset sub set → LacksPercent set → LacksPercent sub
subset_lacks_percent sub set subset lacks =
    false_from_ne_true _ (λ p. false≢true (sym lacks ∙ subset.ascii 37 p))

pub grows_by_encoded_text : (set sub : TableSet) (old new text : List ℕ) → LacksPercent set
    → IsSubset sub set → sub.pct_encoded ≡ true → IsUtf8 old → IsUtf8 text → IsValidFor set old
    → new ≡ old ++ print (encode_text sub text) → Grows set old (encode_text sub text) new
grows_by_encoded_text set sub old new text lacks subset o u v valid e = grows_by_tokens set old new
    (encode_text sub text) lacks u valid (encoded_text_is_printable sub text
    (subset_lacks_percent sub set subset lacks) v) (encoded_text_is_allowed sub set text subset o) e

pub grows_by_encoded_bytes : (set sub : TableSet) (old new bytes : List ℕ) → LacksPercent set
    → IsSubset sub set
    → sub.pct_encoded ≡ true → IsUtf8 old → list_all is_eight_bit bytes ≡ true → IsValidFor set old
    → new ≡ old ++ print (encode_bytes sub bytes) → Grows set old (encode_bytes sub bytes) new
grows_by_encoded_bytes set sub old new bytes lacks subset o u small valid e =
    grows_by_tokens set old new (encode_bytes sub bytes) lacks u valid
    (encoded_bytes_are_printable sub bytes (subset_lacks_percent sub set subset lacks) small)
    (encoded_bytes_are_allowed sub set bytes subset o) e

-- owned valid texts: with an allowed character after it, one is valid, and has this token more
pub grows_by_char : (set : TableSet) (old new : List ℕ) (c : ℕ) → LacksPercent set → IsUtf8 old
    → IsValidFor set old → allows set c ≡ true → new ≡ old ++ encode_utf8 c
    → Grows set old (Char c ∷ []) new
grows_by_char set old new c lacks u valid a e = grows_by_tokens set old new
    (Char c ∷ []) lacks u valid (and_from _ true (allowed_char_is_printable set c lacks a) refl)
    (and_from _ true a refl) (e ∙ ap (λ x. old ++ x) (sym (append-nil (encode_utf8 c))))

pub grows_by_valid_text : (set : TableSet) (old new text : List ℕ) → LacksPercent set → IsUtf8 old
    → IsValidFor set old → IsValidFor set text → new ≡ old ++ text → Grows set old (tokens text) new
grows_by_valid_text set old new text lacks u valid more e =
    grind (arith, valid_text_after_valid_text_is_valid, tokens_of_text_after_valid_text)

-- owned valid texts: after a call that appends a text or leaves it as it was,
-- it is valid if it is so in either case
pub valid_after_ok_or_err : {T F : Type 0} (set : TableSet) (old new more : List ℕ) (r : Result T F)
    → OnOk r (new ≡ old ++ more) → OnErr r (new ≡ old) → IsValidFor set old
    → (new ≡ old ++ more → IsValidFor set new) → IsValidFor set new
valid_after_ok_or_err set old new more (Ok x) grown kept valid f = f grown
valid_after_ok_or_err set old new more (Err x) grown kept valid f = subst (IsValidFor set)
    (sym kept) valid

-- owned valid texts: after a push that appends all or nothing,
-- a text is valid if it is valid in either case
pub valid_after_push : {T F : Type 0} (set : TableSet) (old new more : List ℕ) (r : Result T F)
    → new ≡ cond (is_ok r) (old ++ more) old → IsValidFor set old
    → (new ≡ old ++ more → IsValidFor set new) → IsValidFor set new
valid_after_push set old new more (Ok x) e valid f = f e
valid_after_push set old new more (Err x) e valid f = subst (IsValidFor set) (sym e) valid
