-- The exit status of `urilines`.
use Rattle.std.specs.Prelude.{◌≡◌, ◌≢◌, ℕ, Option, Some, None, Result, Ok, Err, nat_lt, if◌then◌else◌}
use Rattle.std.specs.IoError.{error_kind}
use Rattle.std.specs.declared.io.Error.{Error}
use Rattle.std.specs.declared.io.ErrorKind.TheVariants.{BrokenPipe}
use Rattle.uri_streams.specs.declared.failure.Failure.{Failure}
use Rattle.uri_streams.specs.declared.failure.Failure.TheVariants.{Input, Output, OutOfMemory}
use Rattle.uri_streams.specs.declared.job.OnError.{OnError}
use Rattle.uri_streams.specs.declared.job.OnError.TheVariants.{Drop}
use Rattle.uri_streams.specs.declared.run.Tally.{Tally}

-- the exit status of `urilines` for a run that processed all lines, or that `stop` ended: 1 if an
-- error was written
abbrev pub tally_status : OnError → Tally → ℕ
tally_status Drop tally = 0
tally_status mode tally = if nat_lt 0 tally.errors then 1 else 0

-- the exit status of `urilines` for how a run ended whose error output got all errors: a closed pipe
-- is no failure
abbrev pub IsRunStatus : OnError → Result Tally Failure → ℕ → Type 0
IsRunStatus errors (Ok tally) status = status ≡ tally_status errors tally
IsRunStatus errors (Err (Input error)) status = status ≡ 3
IsRunStatus errors (Err (Output error)) status =
    (error_kind error ≡ BrokenPipe → status ≡ 0) × (error_kind error ≢ BrokenPipe → status ≡ 3)
IsRunStatus errors (Err OutOfMemory) status = status ≡ 3

-- the exit status of `urilines` for how a run ended; the Option is why its error output failed, if
-- it did
abbrev pub IsStatusOf : OnError → Result Tally Failure → Option Error → ℕ → Type 0
IsStatusOf errors ended None status = IsRunStatus errors ended status
IsStatusOf errors ended (Some error) status =
    (error_kind error ≡ BrokenPipe → IsRunStatus errors ended status)
    × (error_kind error ≢ BrokenPipe → status ≡ 3)
