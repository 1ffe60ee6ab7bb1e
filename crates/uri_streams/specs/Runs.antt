-- What a run reads and writes.
use Rattle.std.specs.Prelude.{◌≡◌, ◌≢◌, ℕ, Bool, List, ◌++◌, length, All, true, false, Option, IfSome, Some, drop}
use Rattle.std.specs.List.{concat}
use Rattle.std.specs.Io.KnownBytes.{Appends, Keeps}
use Rattle.uri_commands.specs.Prefixes.{AppendsPrefix}
use Rattle.uri_commands.specs.declared.sink.Sink.{Sink}
use Rattle.uri_streams.specs.Causes.{is_input}
use Rattle.uri_streams.specs.Lines.{end_byte, lines_of}
use Rattle.uri_streams.specs.Outputs.{ProcessedLine, error_count, output_of, processed_in, errors_of, processed_lines, tallies_of}
use Rattle.uri_streams.specs.Tasks.{Known}
use Rattle.uri_streams.specs.declared.failure.Failure.{Failure}
use Rattle.uri_streams.specs.declared.job.Job.{Job}
use Rattle.uri_streams.specs.declared.run.Tally.{Tally}

-- the error output of a run: whether it has failed, and the bytes that it holds
pub record ErrorOutput : Type 0 where
  pub has_failed : Bool
  pub held : Option (List ℕ)

-- the error output of a run that a sink is; the function tells which bytes its writer holds
abbrev pub error_output_of : {E : Type 0} → (E → Option (List ℕ)) → Sink E → ErrorOutput
error_output_of contents err = record { has_failed = err.has_failed; held = contents err.writer }

-- the error output of a run, before and after, gets a prefix of the text; once it has failed, it
-- stays so and gets nothing
abbrev pub ReportsPrefix : ErrorOutput → ErrorOutput → List ℕ → Type 0
ReportsPrefix old new text = AppendsPrefix old.held new.held text
    × (old.has_failed ≡ true → (new.has_failed ≡ true) × Keeps old.held new.held)

-- the error output of a run, before and after, gets the whole text, unless it fails or has failed
abbrev pub Reports : ErrorOutput → ErrorOutput → List ℕ → Type 0
Reports old new text = ReportsPrefix old new text
    × (new.has_failed ≡ false → Appends old.held new.held text)

-- an observer of a run, whose tallies are given before and after if they are known, saw these
abbrev pub Sees : Option (List Tally) → Option (List Tally) → List Tally → Type 0
Sees seen seen_new tallies = IfSome seen (λ before. seen_new ≡ Some (before ++ tallies))

-- A whole run: what the writer holds, before and after (`_new`), grows by the output for what is
-- left to read, and the tally counts lines and errors.
-- `err`: the error output; `seen`: the tallies that the observer saw.
abbrev pub WritesOutput : Job → Option (List ℕ) → Option (List ℕ) → Option (List ℕ) → ErrorOutput
    → ErrorOutput → Option (List Tally) → Option (List Tally) → Tally → Type 0
WritesOutput job left held held_new err err_new seen seen_new tally = IfSome left (λ xs.
    Appends held held_new (output_of job (processed_in job xs))
    × Reports err err_new (errors_of job (processed_in job xs))
    × Sees seen seen_new (tallies_of (processed_in job xs))
    × (tally.lines ≡ length (processed_in job xs))
    × (tally.errors ≡ error_count (processed_in job xs)))

-- The writer's bytes, before and after (`_new`), grow by the output for all lines that were read
-- whole of the input `xs`.
-- The reader's bytes lose no more than these lines and a part of the next.
-- `err`: the error output.
abbrev pub WritesWholeLines : Job → List ℕ → Option (List ℕ) → Option (List ℕ)
    → Option (List ℕ) → ErrorOutput → ErrorOutput → Type 0
WritesWholeLines job xs left_new held held_new err err_new =
    (lines : List ProcessedLine) × (known : Known) × (part : List ℕ) × (rest : List ℕ)
    × Appends held held_new (output_of job lines) × Reports err err_new (errors_of job lines)
    × (processed_in job xs
    ≡ lines ++ processed_lines job (length lines) known
    (lines_of (end_byte job.is_null) (part ++ rest)))
    × (left_new ≡ Some rest) × All (λ x. x ≢ end_byte job.is_null) part

-- what a run leaves of an input: the lines after those that the job processes
abbrev pub left_after : Job → List ℕ → List ℕ
left_after job input =
    concat (drop (length (processed_in job input)) (lines_of (end_byte job.is_null) input))

-- a run that succeeds leaves the reader what is after the lines that it processed; the Options are
-- what is left to read before and after it
abbrev pub LeavesRest : Job → Option (List ℕ) → Option (List ℕ) → Type 0
LeavesRest job left left_new = IfSome left (λ xs. left_new ≡ Some (left_after job xs))

-- A run ends early: what the writer holds, before and after (`_new`), grows by a prefix of the
-- output for what was left to read, and so does the error output, `err`, of its errors.
-- If the reader failed, they grow by the output and the errors for all lines that were read whole.
abbrev pub StopsAfterPrefix : Job → Option (List ℕ) → Option (List ℕ) → Option (List ℕ)
    → Option (List ℕ) → ErrorOutput → ErrorOutput → Bool → Type 0
StopsAfterPrefix job left left_new held held_new err err_new has_reader_failed =
    IfSome left (λ xs. AppendsPrefix held held_new (output_of job (processed_in job xs))
    × ReportsPrefix err err_new (errors_of job (processed_in job xs))
    × (has_reader_failed ≡ true → WritesWholeLines job xs left_new held held_new err err_new))

-- a run fails early: what the writer holds grows by a prefix of the output, as for
-- `StopsAfterPrefix`
abbrev pub FailsAfterPrefix : Job → Option (List ℕ) → Option (List ℕ) → Option (List ℕ)
    → Option (List ℕ) → ErrorOutput → ErrorOutput → Failure → Type 0
FailsAfterPrefix job left left_new held held_new err err_new failure =
    StopsAfterPrefix job left left_new held held_new err err_new (is_input failure)
