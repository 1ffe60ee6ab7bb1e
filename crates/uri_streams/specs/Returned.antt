-- What contracts see of a cut and of a result.
use Rattle.std.specs.Prelude.{◌≡◌, ℕ, List, ◌++◌, codes, string_bytes, Result, Ok, Err}
use Rattle.std.specs.Borrow.{Bor}
use Rattle.uri_commands.specs.Refusals.{command_error_text}
use Rattle.uri_streams.specs.Fields.{Cut, no_text_message}
use Rattle.uri_streams.specs.Results.{LineResult, Text, Unchanged, NoLine, Error, double_slash_message}
use Rattle.uri_streams.specs.Tasks.{Known, Remembers}
use Rattle.uri_streams.specs.declared.line_result.LineResult.{LineResult as Returned}
use Rattle.uri_streams.specs.declared.command.Command.{Command}
use Rattle.uri_streams.specs.declared.cut.Cut.{Cut as ReturnedCut}
use Rattle.uri_streams.specs.declared.task.Task.{Task}
use Rattle.uri_streams.specs.declared.line_result.LineResult.TheVariants as returned
use Rattle.uri_streams.specs.declared.fault.LineError.{LineError}
use Rattle.uri_streams.specs.declared.fault.LineError.TheVariants.{Refused, Target}
use Rattle.uri_streams.specs.declared.fault.LineError.TheVariants as faults
use Rattle.uri_streams.specs.declared.fault.NoText.{NoText}
use Rattle.uri_commands.specs.Messages.{error_text}

-- the message that the error of a line prints
abbrev pub line_error_message : LineError → List ℕ
line_error_message (faults.NoText why) = no_text_message why
line_error_message (Refused why) = command_error_text why
line_error_message (Target error) = codes "target: " ++ error_text error
line_error_message faults.PathStartsWithDoubleSlash = double_slash_message

-- the text that the command gets of a line, or why it gets none
abbrev pub text_in : Result (Bor (List ℕ)) NoText → Result (List ℕ) NoText
text_in (Ok bytes) = Ok bytes.now
text_in (Err why) = Err why

-- the cut of a line as contracts name it, with bytes, for one that a call returned
abbrev pub cut_in : ReturnedCut → Cut
cut_in cut = record {
  before = cut.before.now;
  text = text_in cut.text;
  after =
      cut.after.now;
}

-- the result of a line as contracts name it, with bytes and messages, for one that a call returned
abbrev pub result_in : Returned → LineResult
result_in (returned.Text text) = Text (string_bytes text)
result_in (returned.Borrowed text) = Text text.now
result_in returned.Unchanged = Unchanged
result_in returned.NoLine = NoLine
result_in (returned.Error fault) = Error (line_error_message fault)

-- a call returns the result of a line under the command, and the task remembers what is known after
-- it
abbrev pub IsResult : Command → LineResult × Known → Returned → Task → Type 0
IsResult command next returned task = (result_in returned ≡ next.0) × Remembers task command next.1

-- the result of a line that a call returned is a text, or an error
abbrev pub IsTextOrError : Returned → Type 0
IsTextOrError (returned.Text text) = Unit {0}
IsTextOrError (returned.Borrowed text) = Unit {0}
IsTextOrError (returned.Error fault) = Unit {0}
IsTextOrError other = ⊥
