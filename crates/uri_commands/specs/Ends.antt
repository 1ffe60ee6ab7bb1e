-- How a command ends: what the output and the error output got.
use Rattle.std.specs.Prelude.{◌≡◌, ℕ, Bool, true, false, List, Option, Some, None, IsTrue, Result, Ok, Err}
use Rattle.std.specs.Io.KnownBytes.{Appends, Keeps}
use Rattle.uri_commands.specs.Commands.{Command, output_of, words_of}
use Rattle.uri_commands.specs.Prefixes.{AppendsPrefix}
use Rattle.uri_commands.specs.declared.refusal.CommandError.{CommandError}
use Rattle.uri_commands.specs.declared.refusal.CommandError.TheVariants.{OutputFailed}

-- A run of `uritool` succeeded: the words are a command with an output, `out` got it, and `err` got
-- nothing.
-- The bytes that each writer holds are given before and after, which is `_new`.
abbrev pub IsSuccess : List (List ℕ) → Option (List ℕ) → Option (List ℕ) → Option (List ℕ)
    → Option (List ℕ) → Type 0
IsSuccess words out out_new err err_new = (command : Command) × (lines : List ℕ)
    × (words ≡ words_of command) × (output_of command ≡ Some lines)
    × Appends out out_new lines × Keeps err err_new

-- A run of `uritool` with these words failed: if they are a command without an output, the status
-- is 1, and `out` got nothing.
-- The bytes that the writer holds are given before and after, which is `_new`.
abbrev pub IsFailure : List (List ℕ) → Option (List ℕ) → Option (List ℕ) → ℕ → Type 0
IsFailure words out out_new status =
    (command : Command) → words ≡ words_of command → output_of command ≡ None
    → (status ≡ 1) × Keeps out out_new

-- a writer of `uritool` got the line, or a prefix of it if the Bool, whether it was written whole,
-- is false; the Options are its bytes before and after
abbrev pub WritesLineOrPrefix : Option (List ℕ) → Option (List ℕ) → List ℕ → Bool → Type 0
WritesLineOrPrefix old new line is_shown = AppendsPrefix old new line
    × (IsTrue is_shown → Appends old new line)

-- whether the error of a command of `uritool` is that its output cannot be written
abbrev pub is_output_failure : CommandError → Bool
is_output_failure OutputFailed = true
is_output_failure why = false

-- whether a command of `uritool` failed since its output cannot be written
abbrev pub has_output_failed : {A : Type 0} → Result A CommandError → Bool
has_output_failed (Ok value) = false
has_output_failed (Err why) = is_output_failure why
