-- What was written is the output so far, and nothing has failed.
use Rattle.uri_streams.proofs.Common.{◌≡◌, ◌-◌, ◌^◌, reader_remaining, HasWrittenSoFar, error_output_of}
use Rattle.uri_streams.proofs.run.process_lines.Given as goal

abbrev pub invariant-loop-number : goal.invariant-loop-number
invariant-loop-number g l = HasWrittenSoFar l.fn.job l.number l.task
    (reader_remaining g.R.Read.remaining l.initial.reader.reader)
    (reader_remaining g.R.Read.remaining l.reader.reader)
    (g.W.Write.contents l.initial.writer.writer) (g.W.Write.contents l.writer.writer)
    (error_output_of g.E.Write.contents l.initial.err) (error_output_of g.E.Write.contents l.err)
    (g.V.Watch.seen l.initial.watch) (g.V.Watch.seen l.watch) l.tally
    × (l.reader.has_failed ≡ l.initial.reader.has_failed)
    × (l.writer.has_failed ≡ l.initial.writer.has_failed)

abbrev pub decreases-loop-number : goal.decreases-loop-number
decreases-loop-number g l = 2 ^ 64 - 1 - l.number
