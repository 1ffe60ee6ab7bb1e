-- What is written for an input: one line for each of its lines, unless that has no output.
use Rattle.std.specs.Prelude.{ℕ, ◌+◌, List, [], ◌∷◌, ◌++◌, codes, decimal, Bool, true, false, ◌&&◌, if◌then◌else◌}
use Rattle.std.specs.List.{count_by, flat_map}
use Rattle.uri_streams.specs.Fields.{Cut, bounded_cut}
use Rattle.uri_streams.specs.Results.{LineResult, Text, Unchanged, NoLine, Error}
use Rattle.uri_streams.specs.Lines.{end_byte, has_return, line_text, lines_of}
use Rattle.uri_streams.specs.Tasks.{Known, cut_result}
use Rattle.uri_streams.specs.declared.job.Job.{Job}
use Rattle.uri_streams.specs.declared.job.OnError.{OnError}
use Rattle.uri_streams.specs.declared.job.OnError.TheVariants as errors
use Rattle.uri_streams.specs.declared.run.Tally.{Tally}

-- a line, cut around what the command of the job gets of it
abbrev pub line_cut : Job → List ℕ → Cut
line_cut job line = bounded_cut job.max_line job.field (line_text job.is_null line)

-- the result of a line under a job, with what is known from earlier lines; and what is known after
-- it
abbrev pub line_result : Job → Known → List ℕ → LineResult × Known
line_result job known line = cut_result job known (line_cut job line).text

-- what ends the output of a line; the Bools are whether NUL ends lines, and whether a `\r` is
-- before the line's end
abbrev pub line_ending : Bool → Bool → List ℕ
line_ending is_null is_return = if is_return then codes "\r\n" else end_byte is_null ∷ []

-- what ends the output of this line under a job, unless it passes as it is: what ended the
-- line, or would have ended the last one
abbrev pub line_end : Job → List ℕ → List ℕ
line_end job line = line_ending job.is_null (has_return job.is_null line)

-- whether the result of a line of an input is an error
abbrev pub is_error : LineResult → Bool
is_error (Error message) = true
is_error other = false

-- whether the error of a line ends the run, as `--errors stop` asks
abbrev pub is_stop : OnError → Bool
is_stop errors.Stop = true
is_stop mode = false

-- a line of an input that was processed: its number, itself, its result, and what is before and
-- after its field
pub record ProcessedLine : Type 0 where
  -- from 1
  pub number : ℕ
  -- as it is in the input, with what ends it
  pub line : List ℕ
  -- the fields before the one that the command gets
  pub before : List ℕ
  pub result : LineResult
  -- the fields after it, and what ends the line
  pub after : List ℕ

-- how a job processes the line of this number, with what is known from earlier lines
abbrev pub processed : Job → ℕ → Known → List ℕ → ProcessedLine
processed job number known line = record {
  number = number;
  line = line;
  before = (line_cut job line).before;
  result = (line_result job known line).0;
  after = (line_cut job line).after ++ line_end job line;
}

-- whether the run of a job ends with this line
abbrev pub is_last : Job → ProcessedLine → Bool
is_last job line = is_error line.result && is_stop job.errors

-- how a job processes lines, after so many others and with what is known from these: under `stop`
-- none after the first error
unfoldable pub processed_lines : Job → ℕ → Known → List (List ℕ) → List ProcessedLine
processed_lines job before known [] = []
processed_lines job before known (line ∷ lines) =
    processed job (before + 1) known line
    ∷ (if is_last job (processed job (before + 1) known line) then []
    else processed_lines job (before + 1) (line_result job known line).1 lines)

-- what is written for a line that is an error; the texts are what is before its field, the message,
-- and what is after the field
abbrev pub error_output : OnError → List ℕ → List ℕ → List ℕ → List ℕ
error_output errors.Line before message after = (before ++ (codes "error: " ++ message)) ++ after
error_output errors.Drop before message after = []
error_output errors.Stderr before message after = []
error_output errors.Stop before message after = []

-- what is written for a line with this result; the texts are the line as it is, and what is
-- before and after its field
abbrev pub result_output : OnError → List ℕ → List ℕ → LineResult → List ℕ → List ℕ
result_output mode line before (Text text) after = (before ++ text) ++ after
result_output mode line before Unchanged after = line
result_output mode line before NoLine after = []
result_output mode line before (Error message) after = error_output mode before message after

-- what a job writes for a line that was processed
abbrev pub line_output : Job → ProcessedLine → List ℕ
line_output job line = result_output job.errors line.line line.before line.result line.after

-- what a job writes for lines that were processed
abbrev pub output_of : Job → List ProcessedLine → List ℕ
output_of job lines = flat_map (line_output job) lines

-- the line for the error output that reports the error of a line with this number; the text is the
-- error's message
abbrev pub reported_error : ℕ → List ℕ → List ℕ
reported_error number message =
    codes "error: line " ++ (decimal number ++ (codes ": " ++ (message ++ codes "\n")))

-- what goes to the error output for the error of a line with this number: nothing under `line` and
-- `drop`
abbrev pub error_report : OnError → ℕ → List ℕ → List ℕ
error_report errors.Line number message = []
error_report errors.Drop number message = []
error_report errors.Stderr number message = reported_error number message
error_report errors.Stop number message = reported_error number message

-- what goes to the error output for a line with this number and this result
abbrev pub result_report : OnError → ℕ → LineResult → List ℕ
result_report mode number (Text text) = []
result_report mode number Unchanged = []
result_report mode number NoLine = []
result_report mode number (Error message) = error_report mode number message

-- what a job reports on the error output for a line that was processed
abbrev pub line_report : Job → ProcessedLine → List ℕ
line_report job line = result_report job.errors line.number line.result

-- what a job reports on the error output for lines that were processed
abbrev pub errors_of : Job → List ProcessedLine → List ℕ
errors_of job lines = flat_map (line_report job) lines

-- how many of the lines that were processed are errors
abbrev pub error_count : List ProcessedLine → ℕ
error_count lines = count_by (λ line. is_error line.result) lines

-- how a job processes the lines of an input
abbrev pub processed_in : Job → List ℕ → List ProcessedLine
processed_in job input = processed_lines job 0 [] (lines_of (end_byte job.is_null) input)

-- the tallies of a run after each of these lines, after so many lines and errors
abbrev pub tallies_after : ℕ → ℕ → List ProcessedLine → List Tally
tallies_after before errors [] = []
tallies_after before errors (line ∷ lines) =
    let errors_now = errors + (if is_error line.result then 1 else 0) in
    record { lines = before + 1; errors = errors_now } ∷ tallies_after (before + 1) errors_now lines

-- the tallies of a run after each of its lines
abbrev pub tallies_of : List ProcessedLine → List Tally
tallies_of lines = tallies_after 0 0 lines
