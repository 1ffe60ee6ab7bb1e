-- Where a component ends whose characters are those of a set, and its error there.
use Rattle.fluent_uri_c.proofs.Common.{common_steps, ◌≡◌, ℕ, ◌<◌, ◌≤◌, true, false, ◌&&◌, List, length, sym, ◌∙◌, arith, zero-add, Some, None, IsTrue, IsUtf8, and_from, eq-eqb, is_utf8-from_IsUtf8, LacksPercent, TableSet, starts, is_text_for, parse_rejection, IsPossibleUtf8, component_error, is_possible_length}
use Rattle.fluent_uri.specs.Prelude.{is_next, percent_sign, scan_end, unexpected, valid_prefix}
use Rattle.uri_pct.proofs.Offered.{is_valid_for_is_scanned_to_end, valid_prefix_is_at_most_length}
use Rattle.uri_parts.proofs.Offered.{text_ends_where_position_is_length}
use Rattle.fluent_uri_c.proofs.ValidBytes.{utf8_error-of-utf8}

-- components for C: a text, and where a scan by the set ends in it
pub record IsScanned (set : TableSet) (text : List ℕ) (end : ℕ) : Type 0 where
  pub utf8 : IsUtf8 text
  pub possible : IsTrue (is_possible_length text)
  pub here : end ≡ scan_end text set 0

pub scanned-bytes : (set : TableSet) (bytes text : List ℕ) (end : ℕ) → IsPossibleUtf8 bytes
    → text ≡ bytes → end ≡ scan_end text set 0 → IsScanned set bytes end
scanned-bytes set bytes text end accepted same here = grind arith

module _ (set : TableSet) (text : List ℕ) (end : ℕ) (is : IsScanned set text end) where
  prefix : end ≡ valid_prefix set text
  prefix = is.here ∙ zero-add (valid_prefix set text)

  -- components for C: a scan ends within the text
  pub scan-is-within : end ≤ length text
  scan-is-within = grind (arith, valid_prefix_is_at_most_length, prefix)

  -- components for C: a text that is scanned to its end passes its test
  pub scanned-text-passes : LacksPercent set → end ≡ length text → is_text_for set text ≡ true
  unfolding is_text_for
  scanned-text-passes lacks whole = and_from _ _ (is_utf8-from_IsUtf8 text is.utf8)
      (is_valid_for_is_scanned_to_end set text lacks is.utf8
      ∙ eq-eqb (valid_prefix set text) (length text) (sym prefix ∙ whole))

  -- components for C: a text that is scanned to its end has no error
  pub scanned-text-has-no-error : end ≡ length text → component_error set text ≡ None
  scanned-text-has-no-error whole =
      grind (arith, common_steps, starts, text_ends_where_position_is_length, utf8_error-of-utf8)

  -- components for C: another character where the scan ends is unexpected
  pub other-character-is-error : (set.pct_encoded && is_next text percent_sign end) ≡ false
      → end < length text → component_error set text ≡ Some (parse_rejection (unexpected end))
  other-character-is-error percent less =
      grind (arith, text_ends_where_position_is_length, utf8_error-of-utf8)
