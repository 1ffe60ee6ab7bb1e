-- What a call leaves in its caller's memory.
use Rattle.std.specs.Prelude.{◌≡◌, ◌≢◌, ◌⊎◌, ℕ, Bool, List, ◌++◌, length, drop, nat_lt, Err, IsOkAnd, IsTrue, if◌then◌else◌}
use Rattle.std.specs.Result.{is_ok}
use Rattle.fluent_uri_c.specs.declared.errors.Error.TheVariants.{OutOfMemory}
use Rattle.fluent_uri_c.specs.declared.errors.Rejection.{Rejection}
use Rattle.fluent_uri_c.specs.declared.outcome.Outcome.{Outcome}
use Rattle.fluent_uri_c.specs.Errors.{number_of, rejected}
use Rattle.fluent_uri_c.specs.Results.{Returned}

-- a caller's buffer after a call for C: it begins with the text, if it is long enough, and nothing
-- else changed
abbrev pub written : List ℕ → List ℕ → List ℕ
written text buffer =
    if nat_lt (length buffer) (length text) then buffer else text ++ drop (length text) buffer

-- the outcome of a call for C that reports an error: its number, which text it is in, and at which
-- index
abbrev pub outcome_of : Rejection → Outcome
outcome_of why = record {
  error = number_of why.error;
  which = why.which;
  index = why.index;
  length = 0;
  needed = 0;
  consumed = 0;
}

-- the outcome of a call for C that reports a text of this length
abbrev pub outcome_of_length : ℕ → Outcome
outcome_of_length n = record {
  error = 0;
  which = 0;
  index = 0;
  length = n;
  needed = 0;
  consumed = 0;
}

-- the outcome of a call for C that reports a text, the argument: its length
abbrev pub outcome_of_text : List ℕ → Outcome
outcome_of_text text = outcome_of_length (length text)

-- the outcome of a batch: its error, which buffer is full and how long it must be, how many texts
-- are done, how long their results are, and how much of the input they take
abbrev pub outcome_of_batch : ℕ → ℕ → ℕ → ℕ → ℕ → ℕ → Outcome
outcome_of_batch error which needed done length consumed = record {
  error = error;
  which = which;
  index = done;
  length = length;
  needed = needed;
  consumed = consumed;
}

-- the outcome of a call for C reports the error that it returns, or, where the Bool says that it
-- takes memory, that an allocation failed
abbrev pub IsRejected : Bool → Returned → Outcome → Type 0
IsRejected takes_memory returned outcome =
    ((outcome ≡ outcome_of (rejected OutOfMemory)) × IsTrue takes_memory)
    ⊎ ((why : Rejection) × ((returned ≡ Err why) × (outcome ≡ outcome_of why)))

-- What a call for C whose result is a text writes to its buffer, reports in its outcome and returns
-- as a number; the Bool is whether it takes memory.
-- If there is a text, its length is reported, and the buffer begins with it if it is long enough.
-- If not, the buffer is as it was.
pub record LeavesTextOrDenied (takes_memory : Bool) (returned : Returned) (old new : List ℕ)
    (outcome : Outcome) (number : ℕ) : Type 0 where
  pub error : outcome.error ≡ number
  pub text : number ≡ 0 → IsOkAnd returned (λ text.
      (outcome ≡ outcome_of_text text) × (new ≡ written text old))
  pub rejected : number ≢ 0 → IsRejected takes_memory returned outcome
  pub kept : number ≢ 0 → new ≡ old

-- what a call for C that takes memory for the texts that it returns, and for nothing else, writes,
-- reports and returns
abbrev pub LeavesText : Returned → List ℕ → List ℕ → Outcome → ℕ → Type 0
LeavesText returned old new outcome number =
    LeavesTextOrDenied (is_ok returned) returned old new outcome number
