-- What private functions say of a run on its way.
use Rattle.std.specs.Prelude.{◌≡◌, ◌≢◌, ◌<◌, ◌≤◌, ◌+◌, ◌⊎◌, ℕ, List, [], ◌++◌, length, take, All, Bool, true, false, Option, Some, IfSome, ◌&&◌, ◌-◌, slice_index, ◌||◌, IfErr, IfOk, IsTrue, Result, drop}
use Rattle.std.specs.Str.{IsAscii}
use Rattle.std.specs.Io.{StopsAt}
use Rattle.std.specs.Io.BufRead.{take_through, drop_through}
use Rattle.std.specs.Io.Buffered.{reader_buffer, reader_remaining}
use Rattle.std.specs.Io.KnownBytes.{Appends, Consumes, Keeps}
use Rattle.std.specs.declared.io.buffered.BufReader.{BufReader}
use Rattle.uri_commands.specs.Prefixes.{AppendsPrefix}
use Rattle.uri_commands.specs.Sinks.{KeepsFinalError}
use Rattle.uri_commands.specs.declared.sink.Sink.{Sink}
use Rattle.uri_streams.specs.Causes.{caused_by_input, caused_by_output, is_input_cause}
use Rattle.uri_streams.specs.Lines.{end_byte, ends_with_return, line_text, lines_of}
use Rattle.uri_streams.specs.Outputs.{ProcessedLine, error_count, is_error, is_last, is_stop, line_cut, line_output, line_result, output_of, processed, errors_of, processed_in, processed_lines, result_output, line_report, result_report, tallies_of}
use Rattle.uri_streams.specs.Results.{LineResult}
use Rattle.uri_streams.specs.Runs.{ErrorOutput, Reports, ReportsPrefix, Sees, error_output_of}
use Rattle.uri_streams.specs.Tasks.{Known, Remembers}
use Rattle.uri_streams.specs.declared.failure.Cause.{Cause}
use Rattle.uri_streams.specs.declared.job.Job.{Job}
use Rattle.uri_streams.specs.declared.line_ends.Line.{Line}
use Rattle.uri_streams.specs.declared.job.OnError.{OnError}
use Rattle.uri_streams.specs.declared.output.StepResult.{StepResult}
use Rattle.uri_streams.specs.declared.run.Tally.{Tally}
use Rattle.uri_streams.specs.declared.source.Source.{Source}
use Rattle.uri_streams.specs.declared.task.Task.{Task}

-- A run reads a line: what is left to read, before and after (`_new`), loses its first line.
-- `line` has as many of its bytes as the limit allows, and `is_return` tells whether a `\r` is
-- before its end.
abbrev pub ReadsFirstLine : Option (List ℕ) → Option (List ℕ) → ℕ → ℕ → List ℕ → Bool → Type 0
ReadsFirstLine left left_new end limit line is_return = IfSome left (λ xs. (0 < length xs)
    × (line ≡ take limit (take_through end xs)) × (left_new ≡ Some (drop_through end xs))
    × (is_return ≡ ends_with_return end (take_through end xs)))

-- the writer of a run has flushed all, as the Bool says, if its reader has nothing buffered and may
-- wait
abbrev pub IsFlushedIfDrained : {R A : Type 0} → BufReader R A → Bool → Type 0
IsFlushedIfDrained reader is_flushed = reader_buffer reader ≡ [] → is_flushed ≡ true

-- the line is the first line of a reader's buffer, with the byte `end` that ends it
pub record IsBufferedLine (end : ℕ) (buffer line : List ℕ) : Type 0 where
  pub within : length line ≤ length buffer
  pub first : line ≡ take (length line) buffer
  pub some : 0 < length line
  pub lacks_end : StopsAt line end
  pub ends : slice_index line (length line - 1) ≡ end

-- the text of a line is its bytes without what ends it, and is ASCII if that is known; the Bool is
-- whether NUL ends lines
pub record IsCutLine (is_null : Bool) (line : Line) : Type 0 where
  pub text : line.text.now ≡ line_text is_null line.bytes.now
  pub ascii : IsTrue line.is_ascii → IsAscii line.text.now

-- a reader fails within a line: what is left to read, before and after, loses a part of the first
-- line, without the byte `end` that ends it
abbrev pub ReadsPartOfLine : Option (List ℕ) → Option (List ℕ) → ℕ → Type 0
ReadsPartOfLine left left_new end =
    (part : List ℕ) × Consumes left left_new part × All (λ x. x ≢ end) part

-- the output of a run for a line, before what ends it: `line` is the line's bytes, and `known` what
-- is known from earlier lines
abbrev pub bytes_output : Job → Known → List ℕ → List ℕ → List ℕ
bytes_output job known line end =
    result_output job.errors line (line_cut job line).before (line_result job known line).0
    ((line_cut job line).after ++ end)

-- what a run reports on the error output for a line of this number: `line` is the line's bytes, and
-- `known` what is known from earlier lines
abbrev pub bytes_report : Job → ℕ → Known → List ℕ → List ℕ
bytes_report job number known line =
    result_report job.errors number (line_result job known line).0

-- a step of a run writes the result of a line of this number, with what is before and after it;
-- `line`: the line's bytes; `held`, `err`: what the writer holds, and the error output, before and
-- after (`_new`)
abbrev pub WritesResult : OnError → ℕ → List ℕ → List ℕ → LineResult → List ℕ → Option (List ℕ)
    → Option (List ℕ) → ErrorOutput → ErrorOutput → StepResult → Type 0
WritesResult errors number line before line_result after held held_new err err_new step =
    Appends held held_new (result_output errors line before line_result after)
    × Reports err err_new (result_report errors number line_result)
    × (step.is_line ≡ true) × (step.is_error ≡ is_error line_result)
    × (step.is_last ≡ (is_error line_result && is_stop errors))

-- a step of a run writes the output of a line with this number, these bytes and this end; `task`,
-- `held`, `err`: the task, what the writer holds, and the error output, before and after (`_new`)
pub record WritesLineOutput (job : Job) (number : ℕ) (task : Task) (line end : List ℕ)
    (held held_new : Option (List ℕ)) (err err_new : ErrorOutput) (task_new : Task)
    (step : StepResult) : Type 0 where
  pub written : (known : Known) → Remembers task job.command known
      → Appends held held_new (bytes_output job known line end)
      × Reports err err_new (bytes_report job number known line) × (step.is_line ≡ true)
      × (step.is_error ≡ is_error (line_result job known line).0)
      × (step.is_last ≡ (is_error (line_result job known line).0 && is_stop job.errors))
      × Remembers task_new job.command (line_result job known line).1

-- A step of a run writes a prefix of the output of a line with this number, these bytes and this
-- end, and then fails.
-- `held`, `err`: what the writer holds, and the error output, before and after (`_new`).
pub record WritesOutputPrefix (job : Job) (number : ℕ) (task : Task) (line end : List ℕ)
    (held held_new : Option (List ℕ)) (err err_new : ErrorOutput) (cause : Cause) : Type 0 where
  pub prefix : (known : Known) → Remembers task job.command known
      → AppendsPrefix held held_new (bytes_output job known line end)
      × ReportsPrefix err err_new (bytes_report job number known line)

-- A step of a run processes the first line of what is left to read, `xs`, and writes its output.
-- `before`: how many lines came before; `known`: what is known from these; `held`, `err`: what the
-- writer holds, and the error output, before and after (`_new`).
abbrev pub WritesLine : Job → ℕ → Known → List ℕ → Option (List ℕ) → Option (List ℕ)
    → Option (List ℕ) → ErrorOutput → ErrorOutput → Task → StepResult → Type 0
WritesLine job before known xs left_new held held_new err err_new task_new step =
    let line = take_through (end_byte job.is_null) xs in
    let done = processed job (before + 1) known line in
    (0 < length xs) × (left_new ≡ Some (drop_through (end_byte job.is_null) xs))
    × Appends held held_new (line_output job done) × (step.is_line ≡ true)
    × (step.is_error ≡ is_error done.result) × (step.is_last ≡ is_last job done)
    × Remembers task_new job.command (line_result job known line).1
    × Reports err err_new (line_report job done)

-- a step of a run finds the end of the input, as nothing is left to read, and writes nothing;
-- `held`, `err`: what the writer holds, and the error output, before and after (`_new`)
abbrev pub FindsEnd : List ℕ → Option (List ℕ) → Option (List ℕ) → Option (List ℕ) → ErrorOutput
    → ErrorOutput → StepResult → Type 0
FindsEnd xs left_new held held_new err err_new step =
    (xs ≡ []) × Keeps held held_new × (step.is_line ≡ false) × (step.is_error ≡ false)
    × (step.is_last ≡ true) × Reports err err_new [] × (left_new ≡ Some [])

-- A step of a run succeeds: it processes the first line left to read, or finds the end of the
-- input.
-- `left`, `held`, `err`: what is left to read, what the writer holds, and the error output, before
-- and after (`_new`); `before`: how many lines came before.
pub record Steps (job : Job) (before : ℕ) (task : Task)
    (left left_new held held_new : Option (List ℕ)) (err err_new : ErrorOutput) (task_new : Task)
    (step : StepResult) : Type 0 where
  pub stepped : IfSome left (λ xs. (known : Known) → Remembers task job.command known
      → WritesLine job before known xs left_new held held_new err err_new task_new step
      ⊎ FindsEnd xs left_new held held_new err err_new step)

-- A step of a run fails: a prefix of the output for what is left to read is written, and nothing if
-- the reader failed.
-- `left`, `held`, `err`: what is left to read, what the writer holds, and the error output, before
-- and after (`_new`); `before`: how many lines came before.
pub record StepFails (job : Job) (before : ℕ) (task : Task)
    (left left_new held held_new : Option (List ℕ)) (err err_new : ErrorOutput) (cause : Cause)
    : Type 0 where
  pub failed : IfSome left (λ xs. (known : Known) → Remembers task job.command known
      → AppendsPrefix held held_new
      (output_of job (processed_lines job before known (lines_of (end_byte job.is_null) xs)))
      × ReportsPrefix err err_new
      (errors_of job (processed_lines job before known (lines_of (end_byte job.is_null) xs)))
      × (is_input_cause cause ≡ true → Keeps held held_new × Reports err err_new []
      × ReadsPartOfLine left left_new (end_byte job.is_null)))

-- What failed in a call of a run is what its result says, and the reader or the writer keeps the
-- error.
-- Both are given before and after (`_new`).
pub record KeepsFailures {T R W : Type 0} (result : Result T Cause) (reader reader_new : Source R)
    (writer writer_new : Sink W) : Type 0 where
  pub reading : reader_new.has_failed ≡ (caused_by_input result || reader.has_failed)
  pub writing : writer_new.has_failed ≡ (caused_by_output result || writer.has_failed)
  pub read_error : caused_by_input result ≡ true → KeepsFinalError reader_new.error
  pub write_error : caused_by_output result ≡ true → KeepsFinalError writer_new.error

-- A call of a run fails in nothing but writing, as its result says, and the writer keeps the error.
-- The writer is given before and after (`_new`).
pub record FailsInWriting {T W : Type 0} (result : Result T Cause) (writer writer_new : Sink W)
    : Type 0 where
  pub reading : caused_by_input result ≡ false
  pub writing : writer_new.has_failed ≡ (caused_by_output result || writer.has_failed)
  pub write_error : caused_by_output result ≡ true → KeepsFinalError writer_new.error

-- A call is a step of a run: it succeeds or fails as one, and keeps its failures.
-- The functions tell what is left to read, and what the writers hold. `before`: how many lines came
-- before; `task`, `reader`, `writer`, `err`: before and after (`_new`).
pub record IsStepOf {R W E : Type 0} (job : Job) (before : ℕ) (remaining : R → Option (List ℕ))
    (contents : W → Option (List ℕ)) (reported : E → Option (List ℕ)) (task task_new : Task)
    (reader reader_new : Source R) (writer writer_new : Sink W) (err err_new : Sink E)
    (result : Result StepResult Cause) : Type 0 where
  pub steps : IfOk result (Steps job before task (reader_remaining remaining reader.reader)
      (reader_remaining remaining reader_new.reader) (contents writer.writer)
      (contents writer_new.writer) (error_output_of reported err)
      (error_output_of reported err_new) task_new)
  pub fails : IfErr result (StepFails job before task (reader_remaining remaining reader.reader)
      (reader_remaining remaining reader_new.reader) (contents writer.writer)
      (contents writer_new.writer) (error_output_of reported err)
      (error_output_of reported err_new))
  pub failures : KeepsFailures result reader reader_new writer writer_new

-- In the middle of a run over the input `xs`: what was written is the output for the lines that
-- were processed, and what is left to read comes after these.
-- `held`, `err`, `seen`: what the writer holds, the error output, and the tallies that the observer
-- saw, at the beginning and now (`_new`); `left`: what is left to read; `number`: how many lines
-- were processed.
pub record ProcessedSoFar (job : Job) (number : ℕ) (task : Task) (xs : List ℕ)
    (left held held_new : Option (List ℕ)) (err err_new : ErrorOutput)
    (seen seen_new : Option (List Tally)) (tally : Tally) : Type 0 where
  pub lines : List ProcessedLine
  pub known : Known
  pub rest : List ℕ
  pub left_is : left ≡ Some rest
  pub written : Appends held held_new (output_of job lines)
  pub whole : processed_in job xs
      ≡ lines ++ processed_lines job number known (lines_of (end_byte job.is_null) rest)
  pub remembers : Remembers task job.command known
  pub count : length lines ≡ number
  pub lines_left : drop number (lines_of (end_byte job.is_null) xs)
      ≡ lines_of (end_byte job.is_null) rest
  pub lines_counted : tally.lines ≡ number
  pub errors_counted : tally.errors ≡ error_count lines
  pub few_errors : tally.errors ≤ number
  pub reported : Reports err err_new (errors_of job lines)
  pub saw : Sees seen seen_new (tallies_of lines)

-- in the middle of a run, if its input is known; `left`: what is left to read, at the beginning and
-- now (`_new`)
pub record HasWrittenSoFar (job : Job) (number : ℕ) (task : Task)
    (left left_new held held_new : Option (List ℕ)) (err err_new : ErrorOutput)
    (seen seen_new : Option (List Tally)) (tally : Tally) : Type 0 where
  pub so_far : IfSome left (λ xs. ProcessedSoFar job number task xs left_new held held_new err
      err_new seen seen_new tally)
