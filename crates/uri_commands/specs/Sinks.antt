-- What a writer that keeps its error says of it.
use Rattle.std.specs.Prelude.{◌≡◌, ◌≢◌, ℕ, Bool, List, [], Option, Some, None, Result, Ok, Err, true}
use Rattle.std.specs.IoError.{error_kind}
use Rattle.std.specs.declared.io.Error.{Error}
use Rattle.std.specs.declared.io.ErrorKind.{ErrorKind}
use Rattle.std.specs.declared.io.ErrorKind.TheVariants.{Interrupted, WriteZero}

-- a call of a writer, with what it returned
pub data Call : Type 0 where
  Wrote : Result ℕ Error → Call
  Flushed : Result (Unit {0}) Error → Call

-- an error ends what is done, since it is no interruption, after which a call is made again
abbrev pub IsFinal : Error → Type 0
IsFinal error = error_kind error ≢ Interrupted

-- a reader or a writer keeps why it failed, and that was no interruption
abbrev pub KeepsFinalError : Option Error → Type 0
KeepsFinalError None = ⊥
KeepsFinalError (Some error) = IsFinal error

-- what a writer keeps after a failed call is the error of that call, unless it was interrupted
abbrev pub KeepsErrorOf : {A : Type 0} → Result A Error → Option Error → Type 0
KeepsErrorOf (Ok value) kept = Unit {0}
KeepsErrorOf (Err error) kept = IsFinal error → kept ≡ Some error

-- a text is put to a writer: all is flushed after it only if the text is empty and all was flushed
-- before; the Bools are whether all is flushed, before and after
abbrev pub IsFlushedUnlessPut : Bool → Bool → List ℕ → Type 0
IsFlushedUnlessPut old new text = new ≡ true → (text ≡ []) × (old ≡ true)

-- the error that is kept has this kind
abbrev pub KeepsKind : Option Error → ErrorKind → Type 0
KeepsKind None kind = ⊥
KeepsKind (Some error) kind = error_kind error ≡ kind

-- the call of a writer is a write that was interrupted
abbrev pub IsInterruptedWrite : Call → Type 0
IsInterruptedWrite (Wrote (Ok count)) = ⊥
IsInterruptedWrite (Wrote (Err error)) = error_kind error ≡ Interrupted
IsInterruptedWrite (Flushed outcome) = ⊥

-- the call of a writer is a flush that was interrupted
abbrev pub IsInterruptedFlush : Call → Type 0
IsInterruptedFlush (Wrote outcome) = ⊥
IsInterruptedFlush (Flushed (Ok value)) = ⊥
IsInterruptedFlush (Flushed (Err error)) = error_kind error ≡ Interrupted

-- The call of a writer is a write that ended what was done, and its error is kept.
-- That of a write that took nothing is `WriteZero`. One that was interrupted too often may have any.
abbrev pub IsFailedWrite : Option Error → Call → Type 0
IsFailedWrite kept (Wrote (Ok count)) = (count ≡ 0) × KeepsKind kept WriteZero
IsFailedWrite kept (Wrote (Err error)) = IsFinal error → kept ≡ Some error
IsFailedWrite kept (Flushed outcome) = ⊥

-- The call of a writer is a flush that failed, and its error is kept. One that was interrupted too
-- often may have any.
abbrev pub IsFailedFlush : Option Error → Call → Type 0
IsFailedFlush kept (Wrote outcome) = ⊥
IsFailedFlush kept (Flushed (Ok value)) = ⊥
IsFailedFlush kept (Flushed (Err error)) = IsFinal error → kept ≡ Some error
