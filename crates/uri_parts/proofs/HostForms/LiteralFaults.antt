-- The error of an address in brackets is one in the whole text.
use Rattle.uri_parts.proofs.Common.{◌≡◌, ℕ, ◌+◌, Bool, true, false, not, cond, List, [], ◌∷◌, drop, get_or, Option, Some, None, subst, arith, IsCharBoundary, get_or-drop, Ok, Err, codes, ⊤, eqb-true, false≢true, nat_tests, ParseError, TableSet, is_one_of, hexdig_set, ipv_future_set, starts, IsErrorIn, IsErrorKindAt, unexpected, closed, literal, cannot_begin_ipv6, ScanResult, scan_to_mark}

-- IP literals, their errors: a text that begins with a byte (mark) has it first
first-byte-is-mark : (mark : ℕ) (text : List ℕ) → starts mark text ≡ true → get_or text 0 0 ≡ mark
first-byte-is-mark mark [] e = absurd (false≢true e)
first-byte-is-mark mark (c ∷ text) e = eqb-true c mark e

-- IP literals, their errors: if what is left begins with a byte (mark), this is the byte at place
byte-at-position-is-mark : (mark place : ℕ) (text : List ℕ) → starts mark (drop place text) ≡ true
    → get_or text place 0 ≡ mark
byte-at-position-is-mark mark place text e =
    grind (arith, nat_tests, get_or-drop, first-byte-is-mark)

-- what is wrong where an address that begins after a `[` ends with an error
module _ (text : List ℕ) (place : ℕ) (bracket : starts 91 (drop place text) ≡ true) where
  HasErrorKindAt : ScanResult → Type 0
  HasErrorKindAt (Ok end) = ⊤
  HasErrorKindAt (Err e) = IsErrorKindAt text e.kind e.index

  both-branches-have-error-kind : (test : Bool) (a b : ScanResult)
      → HasErrorKindAt a → HasErrorKindAt b → HasErrorKindAt (cond test a b)
  both-branches-have-error-kind true a b h k = h
  both-branches-have-error-kind false a b h k = k

  result-without-error-has-error-kind : (end : ℕ) → HasErrorKindAt (Ok end)
  unfolding HasErrorKindAt
  result-without-error-has-error-kind end = tt

  unexpected-error-has-its-kind : (i : ℕ) → HasErrorKindAt (Err (unexpected i))
  unfolding HasErrorKindAt
  unexpected-error-has-its-kind i = tt

  unclosed-literal-error-has-its-kind : (end : Option ℕ)
      → HasErrorKindAt (closed text (place + 1) end)
  unfolding HasErrorKindAt
  unclosed-literal-error-has-its-kind None = grind (arith, nat_tests, byte-at-position-is-mark)
  unclosed-literal-error-has-its-kind (Some end) =
      grind (arith, nat_tests, both-branches-have-error-kind)

  scan-to-mark-error-has-its-kind : (set : TableSet) (mark : ℕ) (next : ℕ → ScanResult) → ((n : ℕ)
      → HasErrorKindAt (next n)) → (i : ℕ) → HasErrorKindAt (scan_to_mark text set mark next i)
  scan-to-mark-error-has-its-kind set mark next h i =
      grind (arith, nat_tests, both-branches-have-error-kind, unexpected-error-has-its-kind)

  literal-error-has-its-kind : HasErrorKindAt (literal text (place + 1))
  unfolding literal
  literal-error-has-its-kind = both-branches-have-error-kind
      (not (cannot_begin_ipv6 text (place + 1))) _ _ (unclosed-literal-error-has-its-kind _)
      (both-branches-have-error-kind (is_one_of (codes "vV") (get_or text (place + 1) 0)) _ _
      (scan-to-mark-error-has-its-kind hexdig_set 46 _
      (scan-to-mark-error-has-its-kind ipv_future_set 93 _ result-without-error-has-error-kind) _)
      (unexpected-error-has-its-kind _))

  pub literal_error_is_in_text : (e : ParseError) → literal text (place + 1) ≡ Err e
      → IsCharBoundary text e.index → IsErrorIn text e
  unfolding HasErrorKindAt
  literal_error_is_in_text e is boundary =
      record { boundary = boundary; fault = subst HasErrorKindAt is literal-error-has-its-kind }
