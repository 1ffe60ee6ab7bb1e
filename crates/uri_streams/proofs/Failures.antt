-- What a writer holds, and what was reported, after a failure.
use Rattle.std.proofs.Common.{arith, ◌≡◌, ◌≢◌, ◌++◌, ℕ, List, [], All, refl, ap, sym, ◌∙◌, subst, Option, Some, None, true≢false}
use Rattle.std.proofs.lemmas.List.{append-nil}
use Rattle.std.proofs.lemmas.List.Concat.{flat_map-append}
use Rattle.std.proofs.lemmas.List.Elements.{All-nil}
use Rattle.std.specs.Io.KnownBytes.{Appends, Consumes, Keeps}
use Rattle.std.proofs.KnownBytes.{Appends-kept}
use Rattle.uri_commands.specs.Prefixes.{AppendsPrefix}
use Rattle.uri_commands.proofs.Offered.{AppendsPrefix-after-Appends, AppendsPrefix-of-appended}
use Rattle.std.specs.Prelude.{◌||◌, IfErr, IfOk, Err, Ok, Result, true}
use Rattle.std.specs.List.{flat_map}
use Rattle.std.specs.Result.{IsErrAnd}
use Rattle.uri_commands.specs.Sinks.{KeepsFinalError}
use Rattle.uri_commands.specs.declared.sink.Sink.{Sink}
use Rattle.uri_streams.specs.Causes.{is_input_cause, is_output_cause}
use Rattle.uri_streams.specs.Lines.{end_byte, lines_of}
use Rattle.uri_streams.specs.Outputs.{ProcessedLine, processed_lines, processed_in, line_output, errors_of, line_report, output_of}
use Rattle.uri_streams.specs.Runs.{ErrorOutput, Reports, StopsAfterPrefix, WritesOutput, ReportsPrefix, WritesWholeLines}
use Rattle.uri_streams.specs.Models.{FailsInWriting, HasWrittenSoFar, KeepsFailures, ProcessedSoFar, StepFails}
use Rattle.uri_streams.specs.declared.failure.Cause.{Cause}
use Rattle.uri_streams.specs.declared.failure.Cause.TheVariants.{Output}
use Rattle.uri_streams.specs.declared.job.Job.{Job}
use Rattle.uri_streams.specs.declared.run.Tally.{Tally}
use Rattle.uri_streams.specs.declared.source.Source.{Source}
use Rattle.uri_streams.specs.declared.task.Task.{Task}
use Rattle.uri_streams.proofs.Reports.{Reports-then-nothing, ReportsPrefix-after-Reports, ReportsPrefix-of-longer}

-- writers of `urilines`: what is appended after nothing was is appended; a, b, c: what is held
pub Appends-after-Keeps : (a b c : Option (List ℕ)) (bs : List ℕ) → Keeps a b → Appends b c bs
    → Appends a c bs
Appends-after-Keeps a b c bs k p = grind arith

-- streams: a failure after the lines that were processed so far; b: what is left to read before it;
-- h, i: what the writer holds, d, e: the error output, s, t: what the observer saw, when the run
-- begins and before the failure
module _ (job : Job) (number : ℕ) (task : Task) (xs : List ℕ) (b h i : Option (List ℕ))
    (d e : ErrorOutput) (s t : Option (List Tally)) (tally : Tally)
    (so : ProcessedSoFar job number task xs b h i d e s t tally) where
  abbrev others : List ProcessedLine
  others = processed_lines job number so.known (lines_of (end_byte job.is_null) so.rest)

  in-parts : (f : ProcessedLine → List ℕ)
      → flat_map f (processed_in job xs) ≡ flat_map f so.lines ++ flat_map f others
  in-parts f = ap (flat_map f) so.whole ∙ flat_map-append f so.lines others

  left_with : (left j : Option (List ℕ)) (f : ErrorOutput) (part : List ℕ)
      → Consumes (Some so.rest) left part → All (λ x. x ≢ end_byte job.is_null) part
      → Appends h j (output_of job so.lines) → Reports d f (errors_of job so.lines)
      → WritesWholeLines job xs left h j d f
  left_with left j f part consumes none written reported = grind arith

-- streams: where a line fails after the lines before it were written, the output is a prefix;
-- a, b, c: what is left to read, h, i, j: what the writer holds, d, e, f: the error output,
-- s, t: what the observer saw
pub HasWrittenSoFar-then-step-fails : (job : Job) (number : ℕ) (task : Task)
    (a b c h i j : Option (List ℕ)) (d e f : ErrorOutput) (s t : Option (List Tally))
    (tally : Tally) (cause : Cause) → HasWrittenSoFar job number task a b h i d e s t tally
    → StepFails job number task b c i j e f cause
    → StopsAfterPrefix job a c h j d f (is_input_cause cause)
HasWrittenSoFar-then-step-fails job number task None b c h i j d e f s t tally cause so st = tt
HasWrittenSoFar-then-step-fails job number task (Some xs) b c h i j d e f s t tally cause far
    st =
    let so = far.so_far in
    let parts = in-parts job number task xs b h i d e s t tally so in
    let here = subst (λ o. StepFails job number task o c i j e f cause) so.left_is st in
    let step = here.failed so.known so.remembers in (
      subst (AppendsPrefix h j) (sym (parts (line_output job)))
          (AppendsPrefix-after-Appends h i j (output_of job so.lines) _ so.written step.0),
      subst (ReportsPrefix d f) (sym (parts (line_report job)))
          (ReportsPrefix-after-Reports d e f (errors_of job so.lines) _ so.reported step.1),
      λ input. let stopped = step.2 input in
          left_with job number task xs b h i d e s t tally so c j f stopped.2.0 stopped.2.1
          stopped.2.2 (Appends-kept h i j (output_of job so.lines) so.written stopped.0)
          (Reports-then-nothing d e f (errors_of job so.lines) so.reported stopped.1),
    )

-- streams: where a run fails before the next line, the output so far is a prefix; a, b: what is
-- left to read, h, i: what is held, d, e: the error output, s, t: what the observer saw
pub HasWrittenSoFar-then-run-fails : (job : Job) (number : ℕ) (task : Task)
    (a b h i : Option (List ℕ)) (d e : ErrorOutput) (s t : Option (List Tally))
    (tally : Tally) (cause : Cause) → HasWrittenSoFar job number task a b h i d e s t tally
    → StopsAfterPrefix job a b h i d e (is_input_cause cause)
HasWrittenSoFar-then-run-fails job number task None b h i d e s t tally cause so = tt
HasWrittenSoFar-then-run-fails job number task (Some xs) b h i d e s t tally cause far =
    let so = far.so_far in
    let parts = in-parts job number task xs b h i d e s t tally so in (
      AppendsPrefix-of-appended h i (output_of job so.lines) _ _ so.written
          (parts (line_output job)),
      subst (ReportsPrefix d e) (sym (parts (line_report job)))
          (ReportsPrefix-of-longer d e (errors_of job so.lines) _ so.reported.0),
      λ input. left_with job number task xs b h i d e s t tally so b i e []
          (subst (λ o. Consumes (Some so.rest) o []) (sym so.left_is) refl)
          (All-nil (λ x. x ≢ end_byte job.is_null)) so.written so.reported,
    )

-- streams: after the last step the writer is flushed: the whole output is written, or a prefix if
-- that fails; a, c: what is left to read, h, j: what is held, d, e: the error output, s, t: what
-- the observer saw
pub record EndsFlushed (job : Job) (a c h j : Option (List ℕ)) (d e : ErrorOutput)
    (s t : Option (List Tally)) (result : Result Tally Cause) : Type 0 where
  pub output : IfOk result (WritesOutput job a h j d e s t)
  pub stops : IfErr result (λ cause. StopsAfterPrefix job a c h j d e (is_input_cause cause))

-- streams: a run ends so if the output was written before the flush; i: what is held then
pub EndsFlushed-after-WritesOutput : (job : Job) (a c h i j : Option (List ℕ)) (d e : ErrorOutput)
    (s t : Option (List Tally)) (tally : Tally) (result : Result Tally Cause)
    → WritesOutput job a h i d e s t tally → Keeps i j → IfOk result (λ same. same ≡ tally)
    → IfErr result (λ cause. cause ≡ Output) → EndsFlushed job a c h j d e s t result
EndsFlushed-after-WritesOutput job None c h i j d e s t tally (Ok same) output kept is fails =
    record { output = tt; stops = tt }
EndsFlushed-after-WritesOutput job None c h i j d e s t tally (Err cause) output kept is fails =
    record { output = tt; stops = tt }
EndsFlushed-after-WritesOutput job (Some xs) c h i j d e s t tally (Ok same) output kept is fails =
    grind (arith, Appends-kept)
EndsFlushed-after-WritesOutput job (Some xs) c h i j d e s t tally (Err cause) output kept is
    fails =
    let whole = Appends-kept h i j (output_of job (processed_in job xs)) output.0 kept in
    record {
      output = tt;
      stops = (
        AppendsPrefix-of-appended h j _ [] _ whole
            (sym (append-nil (output_of job (processed_in job xs)))),
        output.1.0,
        λ input. absurd (true≢false (sym input ∙ ap is_input_cause fails)),
      );
    }

-- failures: after nothing failed, an error that is passed on keeps its failures; reader_mid,
-- writer_mid: before the call that failed
pub KeepsFailures-passed-on : {T R W : Type 0} (result : Result T Cause) (cause : Cause)
    (reader reader_mid reader_new : Source R) (writer writer_mid writer_new : Sink W)
    → IsErrAnd result (λ x. x ≡ cause) → reader_mid.has_failed ≡ reader.has_failed
    → writer_mid.has_failed ≡ writer.has_failed
    → reader_new.has_failed ≡ (is_input_cause cause || reader_mid.has_failed)
    → writer_new.has_failed ≡ (is_output_cause cause || writer_mid.has_failed)
    → (is_input_cause cause ≡ true → KeepsFinalError reader_new.error)
    → (is_output_cause cause ≡ true → KeepsFinalError writer_new.error)
    → KeepsFailures result reader reader_new writer writer_new
KeepsFailures-passed-on h cause reader reader_mid reader_new writer writer_mid writer_new is same
    same' reading writing read_error write_error =
    grind arith

-- failures: a call that fails in nothing but writing keeps its failures, if the reader has failed
-- no more than before; writer_mid: before the call
pub KeepsFailures-in-writing : {T R W : Type 0} (result : Result T Cause)
    (reader reader_new : Source R) (writer writer_mid writer_new : Sink W)
    → reader_new.has_failed ≡ reader.has_failed → writer_mid.has_failed ≡ writer.has_failed
    → FailsInWriting result writer_mid writer_new
    → KeepsFailures result reader reader_new writer writer_new
KeepsFailures-in-writing result reader reader_new writer writer_mid writer_new same same' fails =
    grind arith
