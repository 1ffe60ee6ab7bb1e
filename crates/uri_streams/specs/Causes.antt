-- Why a call failed.
use Rattle.std.specs.Prelude.{Bool, true, false, Result, Ok, Err}
use Rattle.uri_streams.specs.declared.failure.Failure.{Failure}
use Rattle.uri_commands.specs.Sinks.{IsFinal}
use Rattle.uri_streams.specs.declared.failure.Failure.TheVariants.{Input, Output, OutOfMemory}
use Rattle.uri_streams.specs.declared.failure.Cause.{Cause}
use Rattle.uri_streams.specs.declared.failure.Cause.TheVariants as causes

-- whether the failure of a run is that of its reader
abbrev pub is_input : Failure → Bool
is_input (Input error) = true
is_input failure = false

-- whether the failure of a run is that of its writer
abbrev pub is_output : Failure → Bool
is_output (Output error) = true
is_output failure = false

-- whether a call of a run returned that the reader failed
abbrev pub reading_failed : {T : Type 0} → Result T Failure → Bool
reading_failed (Ok value) = false
reading_failed (Err failure) = is_input failure

-- whether a call of a run returned that the writer failed
abbrev pub writing_failed : {T : Type 0} → Result T Failure → Bool
writing_failed (Ok value) = false
writing_failed (Err failure) = is_output failure

-- whether the cause of a run's early end is that its reader failed
abbrev pub is_input_cause : Cause → Bool
is_input_cause causes.Input = true
is_input_cause cause = false

-- whether the cause of a run's early end is that its writer failed
abbrev pub is_output_cause : Cause → Bool
is_output_cause causes.Output = true
is_output_cause cause = false

-- whether a call of a run returned that its reader failed, which then keeps its error
abbrev pub caused_by_input : {T : Type 0} → Result T Cause → Bool
caused_by_input (Ok value) = false
caused_by_input (Err cause) = is_input_cause cause

-- whether a call of a run returned that its writer failed, which then keeps its error
abbrev pub caused_by_output : {T : Type 0} → Result T Cause → Bool
caused_by_output (Ok value) = false
caused_by_output (Err cause) = is_output_cause cause

-- the error of the reader or the writer that ended a run is no interruption, after which a call is
-- made again
abbrev pub HasFinalError : Failure → Type 0
HasFinalError (Input error) = IsFinal error
HasFinalError (Output error) = IsFinal error
HasFinalError OutOfMemory = Unit {0}
