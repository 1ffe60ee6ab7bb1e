-- What an interrupted call of a writer says.
use Rattle.uri_commands.proofs.Common.{Option, Some, None, Ok, Err, IfSome, Call, Flushed, IsFailedFlush, IsFailedWrite, IsInterruptedFlush, IsInterruptedWrite, Wrote}
use Rattle.std.specs.declared.io.Error.{Error}

pub any-error-after-interrupted-write : (kept : Option Error) (last : Option Call)
    → IfSome last IsInterruptedWrite → IfSome last (IsFailedWrite kept)
any-error-after-interrupted-write kept None i = tt
any-error-after-interrupted-write kept (Some (Wrote (Ok count))) i = absurd i
any-error-after-interrupted-write kept (Some (Wrote (Err error))) i = λ final. absurd (final i)
any-error-after-interrupted-write kept (Some (Flushed outcome)) i = absurd i

pub any-error-after-interrupted-flush : (kept : Option Error) (last : Option Call)
    → IfSome last IsInterruptedFlush → IfSome last (IsFailedFlush kept)
any-error-after-interrupted-flush kept None i = tt
any-error-after-interrupted-flush kept (Some (Wrote outcome)) i = absurd i
any-error-after-interrupted-flush kept (Some (Flushed (Ok value))) i = absurd i
any-error-after-interrupted-flush kept (Some (Flushed (Err error))) i = λ final. absurd (final i)
