-- The parser returns the error that `refusal` defines for a whole text.
use Rattle.uri_parts.proofs.Common.{◌≡◌, ℕ, ◌+◌, Bool, true, false, cond, List, get_or, refl, sym, ap, subst, ◌∙◌, arith, ⊎_elim, zero-add, Some, codes, if◌then◌else◌, Result, is_ok, is_none, IsUtf8, result_err, is_ascii_alphabetic, cases_Bool, cond-true, cond-false, TableSet, scheme_set, reg_name_set, userinfo_set, is_one_of, is_reg_name_char, is_userinfo_char, allows_past_ascii, ireg_name_set, iuserinfo_set, nat_tests, valid_prefix, valid_prefix_of_superset_goes_on_from_subset, has_authority, unexpected, OptionalParseError, refusal, error_from_authority, error_from_relative_path, error_from_hier_part, is_next, scan_end, Kind, first_segment_set, kind_by_flags, hier_part_error, schemeless_error, parsed_error, ParseError}
use Rattle.uri_parts.proofs.Parsing.WholeTexts.{slashes-begin-with-no-scheme, slashes-follow-no-scheme-characters}
use Rattle.uri_parts.proofs.Splitting.Relative.{scheme_set_lacks_percent}
use Rattle.uri_parts.proofs.Parsing.Acceptance.{parses}
use Rattle.uri_parts.proofs.Refusals.Accepted.{result-is-ok-iff-no-error, no-error-iff-text-is-parsed}
use Rattle.uri_parts.proofs.Refusals.Names.{authority_error-is-error_from_authority}
use Rattle.uri_parts.proofs.Refusals.Rooted.{Adjoins}
use Rattle.uri_parts.proofs.TextKinds.Separations.{SeparatesComponents, greater-set-has-all-but-marks}
use Rattle.uri_parts.proofs.Theorems.{tables_of_kind_separate}

module _ (segment : TableSet) (kind : Kind) (w : SeparatesComponents segment kind)
    (j : Adjoins kind)
    (text : List ℕ) where
  -- a first segment is read on from after the characters of a scheme
  first-segment-scan-goes-on-after-scheme-characters : scan_end text segment
      (valid_prefix scheme_set text) ≡ scan_end text segment 0
  first-segment-scan-goes-on-after-scheme-characters = sym
      (valid_prefix_of_superset_goes_on_from_subset scheme_set segment w.scheme_within
      scheme_set_lacks_percent
      text)
      ∙ sym (zero-add _)

  relative-path-error-from-start : error_from_relative_path kind text segment
      (valid_prefix scheme_set text) ≡ error_from_relative_path kind text segment 0
  unfolding error_from_relative_path
  relative-path-error-from-start =
      grind (arith, nat_tests, first-segment-scan-goes-on-after-scheme-characters)

  hier_part_error-is-error_from_hier_part : (i : ℕ) → hier_part_error kind text i
      ≡ error_from_hier_part kind text i
  unfolding hier_part_error error_from_hier_part
  hier_part_error-is-error_from_hier_part i =
      grind (arith, nat_tests, authority_error-is-error_from_authority)

  schemeless_error-by-slashes : schemeless_error segment kind text (valid_prefix scheme_set text)
      ≡ (if has_authority text then error_from_authority kind text 2
      else error_from_relative_path kind text segment 0)
  unfolding schemeless_error
  schemeless_error-by-slashes =
      ⊎_elim (λ a. cond-true _ _ _ (slashes-follow-no-scheme-characters text ∙ a)
      ∙ authority_error-is-error_from_authority segment kind w j text (valid_prefix scheme_set text
      + 2) (omega arith) ∙ ap (λ n. error_from_authority kind text (n + 2))
      (slashes-begin-with-no-scheme text a) ∙ sym (cond-true _ _ _ a))
      (λ a. cond-false _ _ _ (slashes-follow-no-scheme-characters text ∙ a)
      ∙ relative-path-error-from-start ∙ sym (cond-false _ _ _ a)) (cases_Bool (has_authority text))

  parsed_error-of-kind-is-refusal : segment ≡ first_segment_set kind
      → parsed_error segment kind text ≡ refusal kind text
  unfolding parsed_error refusal
  parsed_error-of-kind-is-refusal e =
      let scheme : ℕ = scan_end text scheme_set 0 in
      let rest : OptionalParseError → OptionalParseError → OptionalParseError =
      λ h r. cond (is_next text 58 scheme) (cond (is_ascii_alphabetic (get_or text 0 0)) h
      (Some (unexpected 0))) (cond kind.needs_scheme (Some (unexpected scheme)) r) in
      ap (λ h. rest h (schemeless_error segment kind text scheme))
      (hier_part_error-is-error_from_hier_part (scheme + 1))
      ∙ ap (rest (error_from_hier_part kind text (scheme + 1)))
      (ap (schemeless_error segment kind text) (zero-add (valid_prefix scheme_set text))
      ∙ schemeless_error-by-slashes ∙ ap (λ s. cond (has_authority text)
      (error_from_authority kind text 2) (error_from_relative_path kind text s 0)) e)

userinfo-char-but-colon-is-name-char : (c : ℕ) → is_one_of (codes ":") c ≡ false
    → is_reg_name_char c ≡ false → is_userinfo_char c ≡ false
userinfo-char-but-colon-is-name-char c m e = grind (arith, nat_tests)

-- parse errors: in the four kinds, userinfo, names and paths have octets, and only `:` tells
-- userinfo from a name; the Bools are whether an IRI's, and with a scheme needed
kind-by-flags-adjoins : (international needs_scheme : Bool)
    → Adjoins (kind_by_flags international needs_scheme)
unfolding allows_past_ascii
kind-by-flags-adjoins false needs_scheme = record {
  userinfo_octets = refl;
  reg_name_octets = refl;
  path_octets = refl;
  only_colon = greater-set-has-all-but-marks (codes ":") reg_name_set userinfo_set
      userinfo-char-but-colon-is-name-char (λ c. refl);
}
kind-by-flags-adjoins true needs_scheme = record {
  userinfo_octets = refl;
  reg_name_octets = refl;
  path_octets = refl;
  only_colon = greater-set-has-all-but-marks (codes ":") ireg_name_set iuserinfo_set
      userinfo-char-but-colon-is-name-char (λ c. refl);
}

-- parse errors: in a kind that is one of the four, userinfo, names and paths have octets, and only
-- `:` tells userinfo from a name
pub known-kind-adjoins : (kind : Kind) → kind ≡ kind_by_flags kind.path.ucschar kind.needs_scheme
    → Adjoins kind
known-kind-adjoins kind known = subst Adjoins (sym known) (kind-by-flags-adjoins _ _)

-- parse errors: for a known kind the parser returns the error that `refusal` defines
pub parsed_error-is-refusal : (kind tables : Kind) (segment : TableSet)
    → kind ≡ kind_by_flags kind.path.ucschar kind.needs_scheme → tables ≡ kind
    → segment ≡ first_segment_set kind
    → (text : List ℕ) → parsed_error segment tables text ≡ refusal kind text
parsed_error-is-refusal kind tables segment known k s text =
    grind (arith, parsed_error-of-kind-is-refusal, tables_of_kind_separate, known-kind-adjoins)

pub ok_exactly_if_parsed : {A : Type 0} (kind tables : Kind) (segment : TableSet)
    → kind ≡ kind_by_flags kind.path.ucschar kind.needs_scheme
    → tables ≡ kind → segment ≡ first_segment_set kind → (text : List ℕ) → IsUtf8 text
    → (result : Result A ParseError) → result_err result ≡ parsed_error segment tables text
    → is_ok result ≡ parses segment tables text
ok_exactly_if_parsed kind tables segment known k s text u result e =
    result-is-ok-iff-no-error result ∙ ap is_none e ∙ no-error-iff-text-is-parsed
    tables text segment (tables_of_kind_separate kind tables segment known k s) u
