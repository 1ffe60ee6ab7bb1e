-- The error that the parser comes to, by how a text begins: with a scheme and `//`, with a scheme
-- alone, or without.
use native.Mathlib.Omega.{arith}
use Rattle.uri_parts.proofs.Common.{◌≡◌, ℕ, ◌+◌, Bool, true, false, List, get_or, drop, sym, ap, ◌∙◌, zero-add, ◌&&◌, Some, if◌then◌else◌, drop-drop, is_ascii_alphabetic, cond-true, cond-false, colon, valid_prefix, after, TableSet, scheme_set, starts, has_authority, unexpected, Kind, OptionalParseError, error_from_path, is_next, authority_error, hier_part_error, schemeless_error, parsed_error}

-- parsing: the last of three facts that do not all hold, of which the others do
pub last_of_three_fails : (all first second third : Bool) → all ≡ (first && (second && third))
    → all ≡ false → first ≡ true → second ≡ true → third ≡ false
last_of_three_fails all first second third e f g h = grind arith

module _ (segment : TableSet) (kind : Kind) (text : List ℕ) where
  -- parsing: the error of the text, if the characters of a scheme end at `scheme`
  abbrev error_after_scheme_characters : ℕ → OptionalParseError
  error_after_scheme_characters scheme = if is_next text colon scheme then
      (if is_ascii_alphabetic (get_or text 0 0) then hier_part_error kind text
      (scheme + 1) else Some (unexpected 0)) else (if kind.needs_scheme then Some
      (unexpected scheme) else schemeless_error segment kind text scheme)

  error_is_after_scheme_characters : parsed_error segment kind text
      ≡ error_after_scheme_characters (valid_prefix scheme_set text)
  unfolding parsed_error
  error_is_after_scheme_characters = ap error_after_scheme_characters (zero-add _)

  error_after_scheme : starts colon (after scheme_set text) ≡ true
      → is_ascii_alphabetic (get_or text 0 0) ≡ true → parsed_error segment kind text
      ≡ hier_part_error kind text (valid_prefix scheme_set text + 1)
  error_after_scheme mark letter =
      error_is_after_scheme_characters ∙ (cond-true _ _ _ mark ∙ cond-true _ _ _ letter)

  slashes_after_scheme : has_authority (drop (valid_prefix scheme_set text + 1) text)
      ≡ has_authority (drop 1 (after scheme_set text))
  slashes_after_scheme = ap has_authority (sym (drop-drop 1 (valid_prefix scheme_set text) text))

  -- parsing: with a scheme and `//`, the error is that of an authority
  pub error_of_scheme_and_slashes : starts colon (after scheme_set text) ≡ true
      → is_ascii_alphabetic (get_or text 0 0) ≡ true
      → has_authority (drop 1 (after scheme_set text)) ≡ true → parsed_error segment kind text
      ≡ authority_error kind text (valid_prefix scheme_set text + 1 + 2)
  unfolding hier_part_error
  error_of_scheme_and_slashes mark letter slashes =
      error_after_scheme mark letter ∙ cond-true _ _ _ (slashes_after_scheme ∙ slashes)

  -- parsing: with a scheme and no `//`, the error is that of a path
  pub error_of_scheme_without_slashes : starts colon (after scheme_set text) ≡ true
      → is_ascii_alphabetic (get_or text 0 0) ≡ true
      → has_authority (drop 1 (after scheme_set text)) ≡ false → parsed_error segment kind text
      ≡ error_from_path kind text (valid_prefix scheme_set text + 1)
  unfolding hier_part_error
  error_of_scheme_without_slashes mark letter none =
      error_after_scheme mark letter ∙ cond-false _ _ _ (slashes_after_scheme ∙ none)

  -- parsing: without a scheme, where none is needed
  pub error_without_scheme : starts colon (after scheme_set text) ≡ false
      → kind.needs_scheme ≡ false → parsed_error segment kind text
      ≡ schemeless_error segment kind text (valid_prefix scheme_set text)
  error_without_scheme none optional =
      error_is_after_scheme_characters ∙ (cond-false _ _ _ none ∙ cond-false _ _ _ optional)
