-- The first line is taken, and its output is written.
use Rattle.uri_streams.proofs.Common.{common_steps, ◌≡◌, ◌+◌, ◌-◌, ◌^◌, ◌<◌, ◌≤◌, ◌++◌, ℕ, Bool, true, false, cond, eqb, List, [], ◌∷◌, refl, ap, sym, ◌∙◌, subst, append_assoc, length, length-append, Option, Some, None, arith, ◌⊎◌, ⊎_elim, min, drop, flat_map, if◌then◌else◌, append-nil, drop-drop, flat_map-append, take_through, drop_through, Appends, Appends-nil, Appends-trans, Appends-kept, end_byte, lines_of, prepend_to_first_line, ProcessedLine, processed, processed_lines, processed_in, error_count, errors_of, line_report, tallies_of, is_error, is_last, line_result, line_output, output_of, ErrorOutput, LeavesRest, Reports, Sees, WritesOutput, left_after, FindsEnd, HasWrittenSoFar, ProcessedSoFar, Steps, WritesLine, Known, Remembers, Job, Tally, Task}
use Rattle.uri_streams.proofs.MergedLines.{concat-of-lines}
use Rattle.uri_streams.specs.declared.output.StepResult.{StepResult}
use Rattle.uri_streams.proofs.Reports.{Reports-after-Reports, Reports-nothing, Reports-then-nothing, Sees-after-Sees, Sees-nothing, tallies_of-one-more}

-- lines: the first is up to the first end, and the others are after it
lines-step : (end x : ℕ) (xs : List ℕ) → lines_of end (x ∷ xs)
    ≡ take_through end (x ∷ xs) ∷ lines_of end (drop_through end (x ∷ xs))
lines-step end x [] = grind arith
lines-step end x (y ∷ ys) = at (eqb x end) (lines-step end y ys)
  where
    at : (b : Bool) → lines_of end (y ∷ ys)
        ≡ take_through end (y ∷ ys) ∷ lines_of end (drop_through end (y ∷ ys))
        → cond b ((x ∷ []) ∷ lines_of end (y ∷ ys))
        (prepend_to_first_line x (lines_of end (y ∷ ys)))
        ≡ cond b (x ∷ []) (x ∷ take_through end (y ∷ ys))
        ∷ lines_of end (cond b (y ∷ ys) (drop_through end (y ∷ ys)))
    at true e = refl
    at false e = ap (prepend_to_first_line x) e

-- lines: the first of some bytes is up to the first end, and the others are after it
lines-of-some : (end : ℕ) (xs : List ℕ) → 0 < length xs
    → lines_of end xs ≡ take_through end xs ∷ lines_of end (drop_through end xs)
lines-of-some end [] some = absurd (omega (arith, some))
lines-of-some end (x ∷ xs) some = lines-step end x xs

module _ (job : Job) where
  -- the lines after one of known bytes
  abbrev pub lines_after_first : ℕ → Known → List ℕ → List ProcessedLine
  lines_after_first before known xs =
      let line = take_through (end_byte job.is_null) xs in
      if is_last job (processed job (before + 1) known line) then []
      else processed_lines job (before + 1) (line_result job known line).1
      (lines_of (end_byte job.is_null) (drop_through (end_byte job.is_null) xs))

  -- of known bytes the first line is processed, and those after it
  pub processed_lines-of-first-line : (before : ℕ) (known : Known) (xs : List ℕ) → 0 < length xs
      → processed_lines job before known (lines_of (end_byte job.is_null) xs)
      ≡ processed job (before + 1) known (take_through (end_byte job.is_null) xs)
      ∷ lines_after_first before known xs
  unfolding processed_lines
  processed_lines-of-first-line before known [] some = absurd (omega (arith, some))
  processed_lines-of-first-line before known (x ∷ xs) some =
      ap (processed_lines job before known) (lines-step (end_byte job.is_null) x xs)

  processed_lines-of-nothing : (before : ℕ) (known : Known)
      → processed_lines job before known (lines_of (end_byte job.is_null) []) ≡ []
  unfolding processed_lines
  processed_lines-of-nothing before known = refl

  lines_after_first-by : (before : ℕ) (known : Known) (xs : List ℕ) (b : Bool)
      → is_last job (processed job (before + 1) known (take_through (end_byte job.is_null) xs)) ≡ b
      → lines_after_first before known xs ≡ (if b then [] else processed_lines job (before + 1)
      (line_result job known (take_through (end_byte job.is_null) xs)).1
      (lines_of (end_byte job.is_null) (drop_through (end_byte job.is_null) xs)))
  lines_after_first-by before known xs b is = grind arith

of-one-more-line : (f : ProcessedLine → List ℕ) (lines : List ProcessedLine) (line : ProcessedLine)
    → flat_map f (lines ++ line ∷ []) ≡ flat_map f lines ++ f line
of-one-more-line f lines line = flat_map-append f lines (line ∷ [])
    ∙ ap (λ l. flat_map f lines ++ l) (append-nil (f line))

error_count-of-one-more-line : (lines : List ProcessedLine) (line : ProcessedLine)
    → error_count (lines ++ line ∷ []) ≡ error_count lines + (if is_error line.result then 1 else 0)
error_count-of-one-more-line lines line = grind (arith, common_steps)

left-after-one-more : {A : Type 0} (n : ℕ) (xs ys : List A) (y : A) → drop n xs ≡ y ∷ ys
    → drop (n + 1) xs ≡ ys
left-after-one-more n xs ys y e = sym (drop-drop 1 n xs) ∙ ap (drop 1) e

-- streams: what a run leaves is what the lines that are left make up
left_after-of-lines : (job : Job) (number : ℕ) (xs rest : List ℕ)
    → length (processed_in job xs) ≡ number → drop number (lines_of (end_byte job.is_null) xs)
    ≡ lines_of (end_byte job.is_null) rest → left_after job xs ≡ rest
left_after-of-lines job number xs rest count left = grind (arith, concat-of-lines)

-- streams: a step of a run; b, c: what is left to read before and after it; h, i, j: what the
-- writer holds, d, e, f: the error output, s, t, u: what the observer saw, when the run begins,
-- before the step and after it
module _ (job : Job) (number : ℕ) (task task_new : Task) (b c h i j : Option (List ℕ))
    (d e f : ErrorOutput) (s t u : Option (List Tally)) (tally tally_new : Tally)
    (step : StepResult) (fits : number < 2 ^ 64 - 1)
    (lines_new : tally_new.lines
    ≡ min (tally.lines + (if step.is_line then 1 else 0)) (2 ^ 64 - 1))
    (errors_new : tally_new.errors
    ≡ min (tally.errors + (if step.is_error then 1 else 0)) (2 ^ 64 - 1))
    (looks : Sees t u (if step.is_line then tally_new ∷ [] else [])) where
  module _ (xs : List ℕ) (so : ProcessedSoFar job number task xs b h i d e s t tally) where
    abbrev first : List ℕ
    first = take_through (end_byte job.is_null) so.rest

    abbrev line : ProcessedLine
    line = processed job (number + 1) so.known first

    abbrev lines : List ProcessedLine
    lines = so.lines ++ line ∷ []

    module _ (is : WritesLine job number so.known so.rest c i j e f task_new step) where
      lines_are : tally_new.lines ≡ number + 1
      lines_are = grind arith

      one : (y : Bool) → (if y then 1 else 0) ≤ 1
      one true = omega arith
      one false = omega arith

      errors_here : tally_new.errors ≡ tally.errors + (if step.is_error then 1 else 0)
      errors_here = omega (arith, errors_new, one step.is_error, so.few_errors, fits)

      errors_so_far : tally_new.errors
          ≡ error_count so.lines + (if is_error line.result then 1 else 0)
      errors_so_far = errors_here ∙ ap (λ n. n + (if step.is_error then 1 else 0)) so.errors_counted
          ∙ ap (λ y. error_count so.lines + (if y then 1 else 0)) is.4

      errors_are : tally_new.errors ≡ error_count lines
      errors_are = errors_so_far ∙ sym (error_count-of-one-more-line so.lines line)

      count_new : length lines ≡ number + 1
      count_new = omega (arith, length-append so.lines (line ∷ []), so.count)

      lines_left_new : drop (number + 1) (lines_of (end_byte job.is_null) xs)
          ≡ lines_of (end_byte job.is_null) (drop_through (end_byte job.is_null) so.rest)
      lines_left_new = left-after-one-more number (lines_of (end_byte job.is_null) xs) _ first
          (so.lines_left ∙ lines-of-some (end_byte job.is_null) so.rest is.0)

      reported_new : Reports d f (errors_of job lines)
      reported_new = subst (Reports d f) (sym (of-one-more-line (line_report job) so.lines line))
          (Reports-after-Reports d e f (errors_of job so.lines) (line_report job line) so.reported
          is.7)

      saw_new : Sees s u (tallies_of lines)
      saw_new = grind (arith, tallies_of-one-more, lines_are, errors_so_far, Sees-after-Sees)

      written_new : Appends h j (output_of job lines)
      written_new = subst (Appends h j) (sym (of-one-more-line (line_output job) so.lines line))
          (Appends-trans h i j (output_of job so.lines) (line_output job line) so.written is.2)

      whole_new : processed_in job xs ≡ lines ++ lines_after_first job number so.known so.rest
      whole_new = so.whole
          ∙ ap (λ l. so.lines ++ l) (processed_lines-of-first-line job number so.known so.rest is.0)
          ∙ sym (append_assoc so.lines (line ∷ []) (lines_after_first job number so.known so.rest))

      so_far : step.is_last ≡ false
          → ProcessedSoFar job (number + 1) task_new xs c h j d f s u tally_new
      so_far more =
          grind (
            arith,
            written_new,
            whole_new,
            lines_after_first-by,
            count_new,
            lines_left_new,
            lines_are,
            errors_are,
            errors_here,
            one,
            reported_new,
            saw_new,
          )

      all_processed : step.is_last ≡ true → processed_in job xs ≡ lines
      all_processed ends = grind (arith, common_steps, whole_new, lines_after_first-by)

      last : step.is_last ≡ true → WritesOutput job (Some xs) h j d f s u tally_new
      last ends =
          grind (
            arith,
            all_processed,
            written_new,
            reported_new,
            saw_new,
            lines_are,
            count_new,
            errors_are,
          )

      rest_left : step.is_last ≡ true → LeavesRest job (Some xs) c
      rest_left ends = is.1 ∙ ap Some (sym (left_after-of-lines job (number + 1) xs _
          (ap length (all_processed ends) ∙ count_new) lines_left_new))

    all_processed_at_end : so.rest ≡ [] → processed_in job xs ≡ so.lines
    all_processed_at_end none = grind (arith, common_steps, processed_lines-of-nothing)

    rest_left_at_end : FindsEnd so.rest c i j e f step → LeavesRest job (Some xs) c
    rest_left_at_end is = is.6 ∙ ap Some (sym is.0 ∙ sym (left_after-of-lines job number xs so.rest
        (ap length (all_processed_at_end is.0) ∙ so.count) so.lines_left))

    at_end : FindsEnd so.rest c i j e f step → WritesOutput job (Some xs) h j d f s u tally_new
    at_end is =
        let all = all_processed_at_end is.0 in
        let same_lines = lines_new
        ∙ ap (λ y. min (tally.lines + (if y then 1 else 0)) (2 ^ 64 - 1)) is.2 in
        let same_errors = errors_new
        ∙ ap (λ y. min (tally.errors + (if y then 1 else 0)) (2 ^ 64 - 1)) is.3 in
        let lines_are : tally_new.lines ≡ length so.lines =
        omega (arith, same_lines, so.lines_counted, so.count, fits) in
        let errors_same : tally_new.errors ≡ tally.errors =
        omega (arith, same_errors, so.few_errors, fits) in (
          subst (λ l. Appends h j (output_of job l)) (sym all)
              (Appends-kept h i j (output_of job so.lines) so.written is.1),
          subst (λ l. Reports d f (errors_of job l)) (sym all)
              (Reports-then-nothing d e f (errors_of job so.lines) so.reported is.5),
          subst (λ l. Sees s u (tallies_of l)) (sym all)
              (subst (Sees s u) (append-nil (tallies_of so.lines))
              (Sees-after-Sees s t u (tallies_of so.lines) [] so.saw
              (subst (λ (y : Bool). Sees t u (if y then tally_new ∷ [] else [])) is.2 looks))),
          lines_are ∙ sym (ap length all),
          errors_same ∙ so.errors_counted ∙ sym (ap error_count all),
        )

    stepped : Steps job number task b c i j e f task_new step
        → WritesLine job number so.known so.rest c i j e f task_new step
        ⊎ FindsEnd so.rest c i j e f step
    stepped st = grind arith

  -- streams: after a step that is not the last, one line more has been written and tallied; a: what
  -- was left to read at the beginning
  pub HasWrittenSoFar-after-step : (a : Option (List ℕ))
      → HasWrittenSoFar job number task a b h i d e s t tally
      → Steps job number task b c i j e f task_new step → step.is_last ≡ false
      → HasWrittenSoFar job (number + 1) task_new a c h j d f s u tally_new
  HasWrittenSoFar-after-step a so st more = grind (arith, so_far, stepped)

  -- streams: after the last step the whole output is written
  pub HasWrittenSoFar-then-last-step : (a : Option (List ℕ))
      → HasWrittenSoFar job number task a b h i d e s t tally
      → Steps job number task b c i j e f task_new step → step.is_last ≡ true
      → WritesOutput job a h j d f s u tally_new
  HasWrittenSoFar-then-last-step None so st ends = tt
  HasWrittenSoFar-then-last-step (Some xs) so st ends =
      ⊎_elim (λ (is : WritesLine job number so.so_far.known so.so_far.rest c i j e f task_new step).
      last xs so.so_far is ends) (at_end xs so.so_far) (stepped xs so.so_far st)

  -- streams: after the last step the reader is left with what is after the lines
  pub HasWrittenSoFar-then-rest-is-left : (a : Option (List ℕ))
      → HasWrittenSoFar job number task a b h i d e s t tally
      → Steps job number task b c i j e f task_new step → step.is_last ≡ true → LeavesRest job a c
  HasWrittenSoFar-then-rest-is-left None so st ends = tt
  HasWrittenSoFar-then-rest-is-left (Some xs) so st ends =
      ⊎_elim (λ (is : WritesLine job number so.so_far.known so.so_far.rest c i j e f task_new step).
      rest_left xs so.so_far is ends) (rest_left_at_end xs so.so_far) (stepped xs so.so_far st)

-- streams: at first nothing has been read or written, and the tally is zero; a, h: what is left to
-- read, what the writer holds, d, s: the error output, what the observer saw
pub HasWrittenSoFar-at-start : (job : Job) (task : Task) (a h : Option (List ℕ)) (d : ErrorOutput)
    (s : Option (List Tally)) (tally : Tally) → Remembers task job.command [] → tally.lines ≡ 0
    → tally.errors ≡ 0 → HasWrittenSoFar job 0 task a a h h d d s s tally
HasWrittenSoFar-at-start job task None h d s tally remembers lines errors =
    record { so_far = tt }
HasWrittenSoFar-at-start job task (Some xs) h d s tally remembers lines errors = record {
  so_far = record {
    lines = [];
    known = [];
    rest = xs;
    left_is = refl;
    written = Appends-nil h;
    whole = refl;
    remembers = remembers;
    count = refl;
    lines_left = refl;
    lines_counted = lines;
    errors_counted = errors;
    few_errors = omega (arith, errors);
    reported = Reports-nothing d;
    saw = Sees-nothing s;
  };
}
