-- What the batch over lines leaves: std's `slice_split` says what the lines are.
use Rattle.std.specs.Prelude.{◌≡◌, ◌⊎◌, ℕ, suc, ◌+◌, ◌<◌, ◌≤◌, List, [], ◌∷◌, ◌++◌, length, drop, ◌==◌, Bool, ◌&&◌, Option, Ok, Err, option_map, slice_get, is_some, IsOk, IsFalse, IsSomeAnd, IsTrue}
use Rattle.std.specs.List.{slice_split}
use Rattle.std.specs.Result.{result_ok}
use Rattle.fluent_uri_c.specs.Columns.{SaysFullIfFull, bytes_of, joined_results}
use Rattle.fluent_uri_c.specs.declared.outcome.Outcome.{Outcome}
use Rattle.fluent_uri_c.specs.Endings.{EndsAt}
use Rattle.fluent_uri_c.specs.Errors.{number_of}
use Rattle.fluent_uri_c.specs.Full.{as_size, errors_buffer, out_buffer}
use Rattle.fluent_uri_c.specs.Kinds.{kind_numbered}
use Rattle.fluent_uri_c.specs.Options.{rules_choice}
use Rattle.fluent_uri_c.specs.Results.{Returned, is_possible_length, normalize_result}

-- the byte that separates the lines of a batch over lines
abbrev pub newline : ℕ
newline = 10

-- whether a byte separates the lines of a batch over lines
abbrev pub is_newline : ℕ → Bool
is_newline byte = byte == newline

-- the lines of the input of a batch over lines: what is between its newlines, one more than there
-- are newlines
abbrev pub lines_of : List ℕ → List (List ℕ)
lines_of input = slice_split is_newline input

-- the number, in the C header, of the error that a call returns, or 0 if it returns a text
abbrev pub number_returned : Returned → ℕ
number_returned (Ok text) = 0
number_returned (Err why) = number_of why.error

-- what a batch over lines writes for a text: its normal form, or nothing if it is rejected, and a
-- newline; the numbers are those of its kind and of the options
abbrev pub written_line : ℕ → ℕ → List ℕ → List ℕ
written_line kind options text =
    bytes_of (result_ok (normalize_result kind options text)) ++ newline ∷ []

-- what a batch over lines writes for the line at an index of the input, if there is one; the first
-- numbers are those of the kind and of the options
abbrev pub written_at : ℕ → ℕ → List ℕ → ℕ → Option (List ℕ)
written_at kind options input i =
    option_map (written_line kind options) (slice_get (lines_of input) i)

-- the number of the error of the line at an index of a batch's input, if there is one; the first
-- numbers are those of the kind and of the options
abbrev pub error_number_at : ℕ → ℕ → List ℕ → ℕ → Option ℕ
error_number_at kind options input i =
    option_map (λ text. number_returned (normalize_result kind options text))
    (slice_get (lines_of input) i)

-- a batch over lines takes memory for the line at an index, which has a normal form; the first
-- numbers are those of the kind and of the options
abbrev pub TakesMemoryAt : ℕ → ℕ → List ℕ → ℕ → Type 0
TakesMemoryAt kind options input i =
    IsSomeAnd (slice_get (lines_of input) i) (λ text. IsOk (normalize_result kind options text))

-- A batch over lines has no room for the line after `done` others: it does not fit the buffer, or
-- the number of its error the errors.
-- The last two numbers say which is full, and how long it must be.
abbrev pub IsFullAt : ℕ → ℕ → List ℕ → List ℕ → List ℕ → ℕ → ℕ → ℕ → Type 0
IsFullAt kind options input buffer errors which needed done =
    let end = length (joined_results (written_at kind options input) (suc done)) in
    ((which ≡ out_buffer) × (length buffer < end) × (needed ≡ as_size end))
    ⊎ ((which ≡ errors_buffer) × (length errors ≤ done) × (needed ≡ as_size (done + 1)))

-- a batch over lines has done the first `done` lines, which take `consumed` bytes of the input with
-- the newlines after them: the lines that are left are those of what is after these, if there are
-- any
pub record HasConsumed (input : List ℕ) (done consumed : ℕ) : Type 0 where
  pub all : done ≡ length (lines_of input) → consumed ≡ length input
  pub left : done < length (lines_of input)
      → (consumed ≤ length input) × (drop done (lines_of input) ≡ lines_of (drop consumed input))

-- the buffers that a batch over lines writes: the lines, and the numbers of their errors
pub record LineBuffers : Type 0 where
  pub bytes : List ℕ
  pub errors : List ℕ

-- the buffers of a batch over lines, of the bytes of the lines, and the numbers of their errors
abbrev pub line_buffers : List ℕ → List ℕ → LineBuffers
line_buffers bytes errors = record { bytes = bytes; errors = errors }

-- What a batch over lines leaves if there are such a kind and such options: what is written for the
-- lines that are done, and their numbers. The lines are one after the other. After these,
-- everything is as it was.
pub record HasWritten (kind options : ℕ) (input : List ℕ) (old new : LineBuffers)
    (outcome : Outcome) (number : ℕ) : Type 0 where
  pub bytes : new.bytes ≡ joined_results (written_at kind options input) outcome.index
      ++ drop (length (joined_results (written_at kind options input) outcome.index)) old.bytes
  pub total : outcome.length ≡ length (joined_results (written_at kind options input) outcome.index)
  pub errors : (i : ℕ) → i < outcome.index
      → slice_get new.errors i ≡ error_number_at kind options input i
  pub other_errors : drop outcome.index new.errors ≡ drop outcome.index old.errors
  pub end : EndsAt (length (lines_of input)) (slice_get (lines_of input))
      (TakesMemoryAt kind options input)
      (IsFullAt kind options input old.bytes old.errors outcome.which outcome.needed)
      outcome.index number
  pub consumed : HasConsumed input outcome.index outcome.consumed

-- whether there are such a kind and such options, and lines of such a length
abbrev pub are_lines_valid : ℕ → ℕ → List ℕ → Bool
are_lines_valid kind options input =
    is_some (kind_numbered kind) && is_some (rules_choice options) && is_possible_length input

-- What the batch that normalises lines writes to its buffers, reports in its outcome and returns as
-- a number.
-- If there is no such kind or no such option, or the input is too long, it does nothing.
pub record LeavesLines (kind options : ℕ) (input : List ℕ) (old new : LineBuffers)
    (outcome : Outcome) (number : ℕ) : Type 0 where
  pub error : outcome.error ≡ number
  pub full : SaysFullIfFull outcome number
  pub invalid : IsFalse (are_lines_valid kind options input) → (number ≡ 9)
      × (outcome.index ≡ 0) × (outcome.length ≡ 0) × (outcome.consumed ≡ 0) × (new ≡ old)
  pub done : IsTrue (are_lines_valid kind options input)
      → HasWritten kind options input old new outcome number
