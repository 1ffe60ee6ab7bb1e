-- The lines that `check` passes, as they are.
use Rattle.std.specs.Prelude.{◌≡◌, ◌⊎◌, ℕ, Bool, true, false, not, ◌&&◌, List, [], ◌∷◌, length, nat_lt, Result, Ok, Err, if◌then◌else◌}
use Rattle.std.specs.List.{filter}
use Rattle.std.specs.Str.{is_utf8}
use Rattle.fluent_uri.specs.Prelude.{is_of_kind}
use Rattle.uri_streams.specs.Lines.{end_byte, line_text, lines_of}
use Rattle.uri_streams.specs.Outputs.{line_cut, output_of, processed_in}
use Rattle.uri_commands.specs.Kinds.{kind_named}
use Rattle.uri_streams.specs.Tasks.{given_text}
use Rattle.uri_streams.specs.declared.command.Command.TheVariants.{Each}
use Rattle.uri_commands.specs.declared.kinds.KindName.{KindName}
use Rattle.uri_streams.specs.declared.command.LineCommand.TheVariants.{Check}
use Rattle.uri_streams.specs.declared.fault.NoText.{NoText}
use Rattle.uri_streams.specs.declared.job.Job.{Job}
use Rattle.uri_streams.specs.declared.job.OnError.{OnError}
use Rattle.uri_streams.specs.declared.job.OnError.TheVariants.{Drop, Stderr}

-- the command `check` with the options of a job; the Bool is whether `--invert` is given
abbrev pub checking : Job → KindName → Bool → Job
checking job kind is_inverted = record job { command = Each (Check kind is_inverted) }

-- what a job writes for an input
abbrev pub output_for : Job → List ℕ → List ℕ
output_for job input = output_of job (processed_in job input)

-- the lines of an input of a job, each with what ends it
abbrev pub lines_for : Job → List ℕ → List (List ℕ)
lines_for job input = lines_of (end_byte job.is_null) input

-- whether the text of a line is no longer than a job allows
abbrev pub is_within_maximum : Job → List ℕ → Bool
is_within_maximum job line = not (nat_lt job.max_line (length (line_text job.is_null line)))

-- whether what a command gets of a line is a text of the kind, with `--mend` after it is mended
abbrev pub is_text_of_kind : Job → KindName → Result (List ℕ) NoText → Bool
is_text_of_kind job kind (Ok bytes) =
    is_utf8 bytes && is_of_kind (kind_named kind) (given_text (checking job kind false) bytes)
is_text_of_kind job kind (Err why) = false

-- whether the text or the field that the command of a job gets of a line is a text of the kind
abbrev pub has_text_of_kind : Job → KindName → List ℕ → Bool
has_text_of_kind job kind line = is_text_of_kind job kind (line_cut job line).text

-- whether `check` passes a line that is no longer than the maximum; the Bool is whether `--invert`
-- is given
abbrev pub is_passed : Job → KindName → Bool → List ℕ → Bool
is_passed job kind is_inverted line = is_within_maximum job line
    && (if is_inverted then not (has_text_of_kind job kind line)
    else has_text_of_kind job kind line)

-- whether a line that is an error leaves the output as it is, and the run goes on
abbrev pub passes_over_errors : OnError → Bool
passes_over_errors Drop = true
passes_over_errors Stderr = true
passes_over_errors mode = false

-- the lines of an input of a job that are no longer than the maximum
abbrev pub lines_within_maximum : Job → List ℕ → List (List ℕ)
lines_within_maximum job input = filter (is_within_maximum job) (lines_for job input)

-- the lines, the last list, are those of two lists, of which each keeps its order
unfoldable pub AreMergedFrom : List (List ℕ) → List (List ℕ) → List (List ℕ) → Type 0
AreMergedFrom some others [] = (some ≡ []) × (others ≡ [])
AreMergedFrom some others (line ∷ lines) =
    ((rest : List (List ℕ)) × (some ≡ line ∷ rest) × AreMergedFrom rest others lines)
    ⊎ ((rest : List (List ℕ)) × (others ≡ line ∷ rest) × AreMergedFrom some rest lines)
