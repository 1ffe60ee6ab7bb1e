-- What `check` writes for each line, and for the lines of an input.
use Rattle.uri_streams.proofs.Common.{arith, ◌≡◌, ◌+◌, ◌++◌, ◌⊎◌, ℕ, Bool, true, false, cond, List, [], ◌∷◌, refl, ap, sym, subst, ◌∙◌, inl, inr, length, Option, Some, None, not, ◌&&◌, nat_lt, Result, Err, slice_get, if◌then◌else◌, AllPass, concat, filter, list_all, list_all-from_AllPass, and_parts, is_of_kind, cut_at_field, cut_of, cut_without_other_fields, field_cut, fields_of, line_text, is_error, is_last, is_stop, line_cut, line_output, line_result, output_of, processed, processed_lines, result_output, kind_named, LineResult, passed_if, passes_check, Known, cut_result, KindName, TooLong, Job}
use Rattle.uri_streams.specs.Checks.{AreMergedFrom, checking, has_text_of_kind, is_passed, is_text_of_kind, is_within_maximum, lines_for, lines_within_maximum, output_for, passes_over_errors}
use Rattle.uri_streams.specs.declared.fault.NoText.{NoText}
use Rattle.uri_streams.specs.declared.job.Field.{Field}
use Rattle.uri_streams.specs.declared.job.OnError.{OnError}
use Rattle.uri_streams.proofs.MergedLines.{AreMergedFrom-passed, lines_of-concat, AreLines-filtered, AreLines-of-input}

-- whether the command gets no text since the line is too long
abbrev is_too_long : Result (List ℕ) NoText → Bool
is_too_long (Err (TooLong most)) = true
is_too_long other = false

-- lines: a field that is looked for is found or not, whatever its length
is_too_long-of-field : (field : Option Field) (text : List ℕ)
    → is_too_long (cut_of field text).text ≡ false
unfolding field_cut
is_too_long-of-field None text = refl
is_too_long-of-field (Some field) text =
    at (slice_get (fields_of field.delimiter text) field.before)
  where
    at : (o : Option (List ℕ))
        → is_too_long (cut_at_field field.delimiter field.before
        (fields_of field.delimiter text) o).text ≡ false
    at None = refl
    at (Some found) = refl

-- lines: one that is not too long is not cut as one that is
is_too_long-within-maximum : (job : Job) (line : List ℕ) → is_within_maximum job line ≡ true
    → is_too_long (line_cut job line).text ≡ false
is_too_long-within-maximum job line within =
    at (nat_lt job.max_line (length (line_text job.is_null line))) within
  where
    at : (b : Bool) → not b ≡ true
        → is_too_long (if b then cut_without_other_fields (Err (TooLong job.max_line))
        else cut_of job.field (line_text job.is_null line)).text ≡ false
    at true is = absurd (cc)
    at false is = is_too_long-of-field job.field (line_text job.is_null line)

-- lines: one that is too long is an error
line_cut-past-maximum : (job : Job) (line : List ℕ) → is_within_maximum job line ≡ false
    → line_cut job line ≡ cut_without_other_fields (Err (TooLong job.max_line))
line_cut-past-maximum job line past =
    at (nat_lt job.max_line (length (line_text job.is_null line))) past
  where
    at : (b : Bool) → not b ≡ false
        → (if b then cut_without_other_fields (Err (TooLong job.max_line))
        else cut_of job.field (line_text job.is_null line))
        ≡ cut_without_other_fields (Err (TooLong job.max_line))
    at true is = refl
    at false is = absurd (cc)

-- lines: what `check` writes of a line that passes, or does not, and that it is no error
output-of-passed : (errors : OnError) (line before after : List ℕ) (b : Bool)
    → (result_output errors line before (passed_if b) after ≡ (if b then line else []))
    × ((is_error (passed_if b) && is_stop errors) ≡ false)
output-of-passed errors line before after b = grind arith

module _ (job : Job) (kind : KindName) (is_inverted : Bool) where
  abbrev check : Job
  check = checking job kind is_inverted

  -- whether `check` passes what is of the kind, or is not
  abbrev passes : Bool → Bool
  passes is_of_kind = if is_inverted then not is_of_kind else is_of_kind

  -- lines: what is not of the kind passes if `--invert` is given
  passed_if-not-of-kind : passed_if is_inverted ≡ passed_if (passes false)
  passed_if-not-of-kind = grind arith

  -- lines: the result of `check` for what it gets of a line that is not too long
  cut_result-of-check : (known : Known) (text : Result (List ℕ) NoText) → is_too_long text ≡ false
      → cut_result check known text ≡ (passed_if (passes (is_text_of_kind job kind text)), known)
  unfolding passes_check
  cut_result-of-check known text short =
      grind (arith, kind_named, kind, passes, passed_if-not-of-kind, passes_check)

  -- lines: `check` writes the line if it passes, and else nothing, and goes on
  abbrev WritesIfPassed : ℕ → Known → List ℕ → Type 0
  WritesIfPassed number known line = (line_output check (processed check number known line)
      ≡ (if is_passed job kind is_inverted line then line else []))
      × (is_last check (processed check number known line) ≡ false)

  WritesIfPassed-within : (number : ℕ) (known : Known) (line : List ℕ)
      → is_within_maximum job line ≡ true → WritesIfPassed number known line
  WritesIfPassed-within number known line within =
      let b = passes (has_text_of_kind job kind line) in
      let cut = line_cut job line in
      let is : line_result check known line ≡ (passed_if b, known) = cut_result-of-check known
      cut.text (is_too_long-within-maximum job line within) in
      let after = (processed check number known line).after in
      let so = output-of-passed job.errors line cut.before after b in (
        ap (λ (r : LineResult × Known). result_output job.errors line cut.before r.0 after) is
            ∙ so.0 ∙ sym (ap (λ w. if w && b then line else []) within),
        ap (λ (r : LineResult × Known). is_error r.0 && is_stop job.errors) is ∙ so.1,
      )

  WritesIfPassed-past : (number : ℕ) (known : Known) (line : List ℕ)
      → is_within_maximum job line ≡ false → passes_over_errors job.errors ≡ true
      → WritesIfPassed number known line
  WritesIfPassed-past number known line past over = grind (arith, line_cut-past-maximum)

  -- no line that is too long ends the run or is written, or there is none
  abbrev pub IsQuiet : List (List ℕ) → Type 0
  IsQuiet lines = (passes_over_errors job.errors ≡ true)
      ⊎ (list_all (is_within_maximum job) lines ≡ true)

  WritesIfPassed-of-first : (number : ℕ) (known : Known) (line : List ℕ) (lines : List (List ℕ))
      → IsQuiet (line ∷ lines) → WritesIfPassed number known line × IsQuiet lines
  WritesIfPassed-of-first number known line lines (inl over) =
      (at (is_within_maximum job line) refl, inl over)
    where
      at : (b : Bool) → is_within_maximum job line ≡ b → WritesIfPassed number known line
      at true within = WritesIfPassed-within number known line within
      at false past = WritesIfPassed-past number known line past over
  WritesIfPassed-of-first number known line lines (inr all) =
      let parts = and_parts (is_within_maximum job line) (list_all (is_within_maximum job) lines)
      all in
      (WritesIfPassed-within number known line parts.0, inr parts.1)

  -- lines: `check` writes those that pass, as they stand
  output_of-check : (before : ℕ) (known : Known) (lines : List (List ℕ)) → IsQuiet lines
      → output_of check (processed_lines check before known lines)
      ≡ concat (filter (is_passed job kind is_inverted) lines)
  unfolding processed_lines
  output_of-check before known [] quiet = refl
  output_of-check before known (line ∷ lines) quiet =
      let first = WritesIfPassed-of-first (before + 1) known line lines quiet in
      ap (λ b. line_output check (processed check (before + 1) known line)
      ++ output_of check (if b then [] else processed_lines check (before + 1)
      (line_result check known line).1 lines)) first.0.1
      ∙ ap (λ l. l ++ output_of check (processed_lines check (before + 1)
      (line_result check known line).1 lines)) first.0.0
      ∙ ap (λ l. (if is_passed job kind is_inverted line then line else []) ++ l)
      (output_of-check (before + 1) (line_result check known line).1 lines first.1)
      ∙ at (is_passed job kind is_inverted line)
    where
      rest : List (List ℕ)
      rest = filter (is_passed job kind is_inverted) lines

      at : (b : Bool) → cond b line [] ++ concat rest ≡ concat (cond b (line ∷ rest) rest)
      at true = refl
      at false = refl

  pub output_for-check : (input : List ℕ) → IsQuiet (lines_for job input) → output_for check input
      ≡ concat (filter (is_passed job kind is_inverted) (lines_for job input))
  output_for-check input quiet = output_of-check 0 [] (lines_for job input) quiet

  lines_for-check : (input : List ℕ) → IsQuiet (lines_for job input)
      → lines_for job (output_for check input)
      ≡ filter (is_passed job kind is_inverted) (lines_for job input)
  lines_for-check input quiet =
      grind (arith, output_for-check, lines_of-concat, AreLines-filtered, AreLines-of-input, kind)

-- lines: the outputs of `check` and its inverse are merged from the lines that are not too long
pub AreMergedFrom-checks : (job : Job) (kind : KindName) (input : List ℕ)
    → (passes_over_errors job.errors ≡ true)
    ⊎ (list_all (is_within_maximum job) (lines_for job input) ≡ true)
    → AreMergedFrom (lines_for job (output_for (checking job kind false) input))
    (lines_for job (output_for (checking job kind true) input)) (lines_within_maximum job input)
AreMergedFrom-checks job kind input quiet = subst (λ l. AreMergedFrom l
    (lines_for job (output_for (checking job kind true) input)) (lines_within_maximum job input))
    (sym (lines_for-check job kind false input quiet)) (subst (λ l. AreMergedFrom
    (filter (is_passed job kind false) (lines_for job input)) l (lines_within_maximum job input))
    (sym (lines_for-check job kind true input quiet)) (AreMergedFrom-passed (is_within_maximum job)
    (has_text_of_kind job kind) (lines_for job input)))

-- general fact on lists, for lines: if all pass a test, so do those that do
filter-of-all : (keeps : List ℕ → Bool) (lines : List (List ℕ)) → list_all keeps lines ≡ true
    → filter keeps lines ≡ lines
filter-of-all keeps [] all = refl
filter-of-all keeps (line ∷ lines) all =
    let parts = and_parts (keeps line) (list_all keeps lines) all in
    ap (λ b. cond b (line ∷ filter keeps lines) (filter keeps lines)) parts.0
    ∙ ap (λ l. line ∷ l) (filter-of-all keeps lines parts.1)

-- lines: if none is too long, the outputs of `check` and its inverse are merged from all
pub AreMergedFrom-checks-of-all : (job : Job) (kind : KindName) (input : List ℕ)
    → AllPass (is_within_maximum job) (lines_for job input)
    → AreMergedFrom (lines_for job (output_for (checking job kind false) input))
    (lines_for job (output_for (checking job kind true) input)) (lines_for job input)
AreMergedFrom-checks-of-all job kind input all =
    let each = list_all-from_AllPass (is_within_maximum job) (lines_for job input) all in
    subst (AreMergedFrom (lines_for job (output_for (checking job kind false) input))
    (lines_for job (output_for (checking job kind true) input)))
    (filter-of-all (is_within_maximum job) (lines_for job input) each)
    (AreMergedFrom-checks job kind input (inr each))
