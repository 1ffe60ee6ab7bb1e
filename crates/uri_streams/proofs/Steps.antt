-- What is read of a line, and written for it, is a step.
use Rattle.uri_streams.proofs.Common.{common_steps}
use Rattle.std.proofs.Common.{◌≡◌, ◌+◌, ◌++◌, ℕ, Bool, false, List, [], ◌∷◌, refl, ap, sym, ◌∙◌, subst, Option, Some, None, IfSome, inl, cond, ◌<◌, ◌≢◌, length, arith}
use Rattle.std.specs.Prelude.{◌&&◌, IfErr, IfOk, Result, Ok, Err, not}
use Rattle.std.specs.Io.Buffered.{reader_remaining}
use Rattle.std.proofs.BufReadLemmas.{Consumes_through, take_through_nonempty}
use Rattle.std.proofs.KnownBytes.{Consumes-nil}
use Rattle.std.proofs.lemmas.List.Elements.{All-nil}
use Rattle.std.specs.Io.BufRead.{drop_through, DropsConsumable, DropsThrough, take_through}
use Rattle.std.specs.Io.KnownBytes.{Appends, Consumes, Keeps, prepend_known}
use Rattle.uri_commands.specs.Prefixes.{AppendsPrefix}
use Rattle.uri_streams.specs.Causes.{is_input_cause}
use Rattle.uri_commands.specs.declared.sink.Sink.{Sink}
use Rattle.uri_streams.specs.Lines.{end_byte, lines_of}
use Rattle.uri_streams.specs.Fields.{Cut}
use Rattle.uri_streams.specs.Outputs.{ProcessedLine, errors_of, is_error, is_stop, line_cut, line_end, line_ending, line_output, line_result, output_of, processed, processed_lines, result_output, result_report}
use Rattle.uri_streams.specs.Results.{LineResult}
use Rattle.uri_streams.specs.Returned.{IsResult, result_in}
use Rattle.uri_streams.specs.Models.{FailsInWriting, IsBufferedLine, IsStepOf, ReadsFirstLine, ReadsPartOfLine, StepFails, Steps, WritesLineOutput, WritesOutputPrefix, WritesResult, bytes_output, bytes_report}
use Rattle.uri_streams.specs.Runs.{ErrorOutput, Reports, ReportsPrefix, error_output_of}
use Rattle.uri_streams.specs.Tasks.{Known, Remembers, cut_result}
use Rattle.uri_streams.specs.declared.failure.Cause.{Cause}
use Rattle.uri_streams.specs.declared.job.Job.{Job}
use Rattle.uri_streams.specs.declared.line_result.LineResult.{LineResult as Returned}
use Rattle.uri_streams.specs.declared.output.StepResult.{StepResult}
use Rattle.uri_streams.specs.declared.source.Source.{Source}
use Rattle.uri_streams.specs.declared.task.Task.{Task}
use Rattle.uri_streams.proofs.Cuts.{StandsFor, StandsFor-of-limited-line, bytes_output-if-StandsFor, line_cut-if-StandsFor}
use Rattle.uri_streams.proofs.Parts.{Consumes-buffered}
use Rattle.uri_commands.proofs.Offered.{AppendsPrefix-after-Keeps, AppendsPrefix-of-longer, AppendsPrefix-of-kept}
use Rattle.uri_streams.proofs.Failures.{Appends-after-Keeps, KeepsFailures-in-writing}
use Rattle.uri_streams.proofs.Reports.{ReportsPrefix-of-longer}
use Rattle.uri_streams.proofs.Returns.{output-end-is-line-end}
use Rattle.uri_streams.proofs.Streams.{processed_lines-of-first-line, lines_after_first}

-- lines: the first line of known bytes is taken, these bytes stand for it, and this is what ends
-- its output
pub record HasLine (job : Job) (left left_new : Option (List ℕ)) (line end : List ℕ) : Type 0 where
  pub taken : IfSome left (λ xs. (0 < length xs)
      × StandsFor job line (take_through (end_byte job.is_null) xs)
      × (left_new ≡ Some (drop_through (end_byte job.is_null) xs))
      × (end ≡ line_end job (take_through (end_byte job.is_null) xs)))

-- lines: one that was read in parts, up to the limit, is a line of the job; the equations replace
-- equal arguments
pub HasLine-of-read : (job : Job) (left left_new : Option (List ℕ)) (byte : ℕ)
    (line line_is end : List ℕ) (read : Option Bool) (is_return : Bool)
    → byte ≡ end_byte job.is_null → line ≡ line_is → read ≡ Some is_return
    → end ≡ line_ending job.is_null (not job.is_null && is_return)
    → IfSome read (ReadsFirstLine left left_new byte (job.max_line + 3) line)
    → HasLine job left left_new line_is end
HasLine-of-read job left left_new byte line line_is end read is_return e l r ends taken =
    grind (arith, StandsFor-of-limited-line, output-end-is-line-end)

HasLine-of-whole-line : (job : Job) (left left_new : Option (List ℕ)) (line end : List ℕ)
    → IfSome left (λ xs. line ≡ take_through (end_byte job.is_null) xs)
    × DropsThrough left left_new (end_byte job.is_null) → 0 < length line
    → end ≡ line_end job line → HasLine job left left_new line end
HasLine-of-whole-line job left left_new line end all some ends =
    grind (arith, take_through_nonempty)

pub HasLine-buffered : (job : Job) (unknown : Bool) (buffer : List ℕ)
    (inner left_new : Option (List ℕ)) (line end : List ℕ)
    → IsBufferedLine (end_byte job.is_null) buffer line → end ≡ line_end job line
    → DropsConsumable (cond unknown None (prepend_known buffer inner)) left_new
    (Some (length buffer)) (length line)
    → HasLine job (cond unknown None (prepend_known buffer inner)) left_new line end
HasLine-buffered job unknown buffer inner left_new line end first ends drops =
    let left = cond unknown None (prepend_known buffer inner) in
    let byte = end_byte job.is_null in
    HasLine-of-whole-line job left left_new line end
    (Consumes_through byte left left left_new [] line (Consumes-nil left) (All-nil (λ x. x ≢ byte))
    (subst (Consumes left left_new) (sym first.first)
    (Consumes-buffered unknown buffer inner left_new (length line) first.within drops))
    first.lacks_end (λ _. first.ends)
    (λ none. absurd (omega (arith, first.some, none)))) first.some ends

-- what is written of a line is a step, or a failure
module _ (job : Job) (before : ℕ) (task task_new : Task) (left left_new : Option (List ℕ))
    (held mid held_new : Option (List ℕ)) (err err_new : ErrorOutput) (line end : List ℕ)
    (has : HasLine job left left_new line end) (kept : Keeps held mid) where
  module _ (xs : List ℕ) (known : Known) (is_left : left ≡ Some xs) where
    abbrev whole : List ℕ
    whole = take_through (end_byte job.is_null) xs

    has_here : HasLine job (Some xs) left_new line end
    has_here = subst (λ o. HasLine job o left_new line end) is_left has

    same_result : line_result job known line ≡ line_result job known whole
    same_result = ap (λ (c : Cut). cut_result job known c.text)
        (line_cut-if-StandsFor job line whole has_here.taken.1)

    output_is : bytes_output job known line end
        ≡ line_output job (processed job (before + 1) known whole)
    output_is = grind (arith, bytes_output-if-StandsFor)

    first_of : {A : Type 0} (f : List ProcessedLine → A)
        → f (processed_lines job before known (lines_of (end_byte job.is_null) xs))
        ≡ f (processed job (before + 1) known whole ∷ lines_after_first job before known xs)
    first_of f = ap f (processed_lines-of-first-line job before known xs has_here.taken.0)

    first_output : output_of job (processed_lines job before known (lines_of (end_byte job.is_null)
        xs))
        ≡ bytes_output job known line end ++ output_of job (lines_after_first job before known xs)
    first_output = first_of (output_of job)
        ∙ ap (λ l. l ++ output_of job (lines_after_first job before known xs)) (sym output_is)

    first_report : errors_of job (processed_lines job before known (lines_of (end_byte job.is_null)
        xs))
        ≡ bytes_report job (before + 1) known line
        ++ errors_of job (lines_after_first job before known xs)
    first_report = first_of (errors_of job)
        ∙ ap (λ (l : LineResult × Known). result_report job.errors (before + 1) l.0
        ++ errors_of job (lines_after_first job before known xs)) (sym same_result)

  line-output-is-step : (step : StepResult)
      → WritesLineOutput job (before + 1) task line end mid held_new err err_new task_new step
      → Steps job before task left left_new held held_new err err_new task_new step
  line-output-is-step step written = at left refl
    where
      at : (o : Option (List ℕ)) → left ≡ o
          → Steps job before task o left_new held held_new err err_new task_new step
      at None e = record { stepped = tt }
      at (Some xs) e = record {
        stepped = λ known remembers.
            let has' = (has_here xs known e).taken in
            let same = same_result xs known e in
            let w = written.written known remembers in
            inl (
              has'.0,
              has'.2,
              subst (Appends held held_new) (output_is xs known e)
                  (Appends-after-Keeps held mid held_new _ kept w.0),
              w.2,
              w.3 ∙ ap (λ (r : LineResult × Known). is_error r.0) same,
              w.4 ∙ ap (λ (r : LineResult × Known). is_error r.0 && is_stop job.errors) same,
              subst (λ (r : LineResult × Known). Remembers task_new job.command r.1) same w.5,
              subst (λ (r : LineResult × Known). Reports err err_new
                  (result_report job.errors (before + 1) r.0)) same w.1,
            );
      }

  StepFails-in-writing : (cause : Cause) → is_input_cause cause ≡ false
      → WritesOutputPrefix job (before + 1) task line end mid held_new err err_new cause
      → StepFails job before task left left_new held held_new err err_new cause
  StepFails-in-writing cause reading prefix = at left refl
    where
      at : (o : Option (List ℕ)) → left ≡ o
          → StepFails job before task o left_new held held_new err err_new cause
      at None e = record { failed = tt }
      at (Some xs) e = record {
        failed = λ known remembers. (
          subst (AppendsPrefix held held_new) (sym (first_output xs known e))
              (AppendsPrefix-of-longer held held_new _ _
              (AppendsPrefix-after-Keeps held mid held_new _ kept
              (prefix.prefix known remembers).0)),
          subst (ReportsPrefix err err_new) (sym (first_report xs known e))
              (ReportsPrefix-of-longer err err_new _ _ (prefix.prefix known remembers).1),
          λ input. absurd (cc (input, reading)),
        );
      }

-- what is written for a cut of a line is written for the line
module _ (job : Job) (number : ℕ) (task task_new : Task) (line end : List ℕ)
    (held held_new : Option (List ℕ)) (err err_new : ErrorOutput)
    (cut : Cut) (made : Returned) (cut_is : cut ≡ line_cut job line)
    (gives : (known : Known) → Remembers task job.command known
    → IsResult job.command (cut_result job known cut.text) made task_new) where
  made_is : (known : Known) → Remembers task job.command known
      → result_output job.errors line cut.before (result_in made) (cut.after ++ end)
      ≡ bytes_output job known line end
  made_is known remembers = grind arith

  reported_is : (known : Known) → Remembers task job.command known
      → result_report job.errors number (result_in made) ≡ bytes_report job number known line
  reported_is known remembers = grind arith

  pub writes-output-of-cut : (result : Result StepResult Cause)
      → IfOk result (WritesResult job.errors number line cut.before (result_in made)
      (cut.after ++ end) held held_new err err_new)
      → AppendsPrefix held held_new (result_output job.errors line cut.before (result_in made)
      (cut.after ++ end))
      → ReportsPrefix err err_new (result_report job.errors number (result_in made))
      → IfOk result (WritesLineOutput job number task line end held held_new err err_new task_new)
      × IfErr result (WritesOutputPrefix job number task line end held held_new err err_new)
  writes-output-of-cut result output prefix reported = grind (arith, made_is, reported_is)

-- streams: a call is a step of a run if it writes the output of the first line that is left, or
-- fails in that; writer_mid: before the output is written
pub IsStepOf-of-written-line : {R W E : Type 0} (job : Job) (before : ℕ)
    (remaining : R → Option (List ℕ)) (contents : W → Option (List ℕ))
    (reported : E → Option (List ℕ)) (task task_new : Task) (reader reader_new : Source R)
    (writer writer_mid writer_new : Sink W) (err err_new : Sink E) (line end : List ℕ)
    (result : Result StepResult Cause)
    → HasLine job (reader_remaining remaining reader.reader)
    (reader_remaining remaining reader_new.reader) line end
    → Keeps (contents writer.writer) (contents writer_mid.writer)
    → reader_new.has_failed ≡ reader.has_failed → writer_mid.has_failed ≡ writer.has_failed
    → IfOk result (WritesLineOutput job (before + 1) task line end (contents writer_mid.writer)
    (contents writer_new.writer) (error_output_of reported err) (error_output_of reported err_new)
    task_new)
    → IfErr result (WritesOutputPrefix job (before + 1) task line end (contents writer_mid.writer)
    (contents writer_new.writer) (error_output_of reported err) (error_output_of reported err_new))
    → FailsInWriting result writer_mid writer_new
    → IsStepOf job before remaining contents reported task task_new reader reader_new writer
    writer_new err err_new result
IsStepOf-of-written-line job before remaining contents reported task task_new reader reader_new
    writer writer_mid writer_new err err_new line end (Ok step) has kept same same' written prefix
    failures =
    grind (arith, line-output-is-step, KeepsFailures-in-writing)
IsStepOf-of-written-line job before remaining contents reported task task_new reader reader_new
    writer writer_mid writer_new err err_new line end (Err cause) has kept same same' written prefix
    failures = record {
      steps = tt;
      fails = StepFails-in-writing job before task task_new _ _ _ _ _ _ _ line end has kept cause
          failures.reading prefix;
      failures = KeepsFailures-in-writing (Err cause) reader reader_new writer writer_mid writer_new
          same same' failures;
    }

pub StepFails-in-reading : (job : Job) (before : ℕ) (task : Task)
    (left left_new held held_new : Option (List ℕ)) (err err_new : ErrorOutput) (cause : Cause)
    → ReadsPartOfLine left left_new (end_byte job.is_null) → Keeps held held_new
    → Reports err err_new []
    → StepFails job before task left left_new held held_new err err_new cause
StepFails-in-reading job before task None left_new held held_new err err_new cause stopped kept
    none = record { failed = tt }
StepFails-in-reading job before task (Some xs) left_new held held_new err err_new cause stopped kept
    none =
    grind (arith, common_steps, AppendsPrefix-of-kept, ReportsPrefix-of-longer)
