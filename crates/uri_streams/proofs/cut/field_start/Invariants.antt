-- The field after as many others begins here.
use Rattle.uri_streams.specs.Fields.{IsFieldStart}
use Rattle.uri_streams.proofs.cut.field_start.Given as goal

abbrev pub invariant-loop-skipped : goal.invariant-loop-skipped
invariant-loop-skipped l = IsFieldStart l.delimiter l.skipped l.line l.start
