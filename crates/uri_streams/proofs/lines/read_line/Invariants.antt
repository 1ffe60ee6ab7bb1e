-- What was read so far has no end, and the line has the first bytes of it.
use Rattle.uri_streams.proofs.Common.{◌≡◌, ◌≢◌, ◌-◌, ◌^◌, ℕ, List, All, length, take, min, ends_with_byte, reader_remaining, Consumes, Keeps}
use Rattle.uri_streams.proofs.lines.read_line.Given as goal

abbrev pub invariant-loop-reads : goal.invariant-loop-reads
invariant-loop-reads g l = (done : List ℕ) × (l.line.items ≡ take l.limit done)
    × All (λ x. x ≢ l.end) done × Consumes
    (reader_remaining g.R.Read.remaining l.initial.reader.reader)
    (reader_remaining g.R.Read.remaining l.reader.reader) done
    × (l.count ≡ min (length done) (2 ^ 64 - 1))
    × Keeps (g.W.Write.contents l.initial.writer.writer) (g.W.Write.contents l.writer.writer)
    × (l.is_return ≡ ends_with_byte 13 done) × (l.reader.has_failed ≡ l.initial.reader.has_failed)
    × (l.writer.has_failed ≡ l.initial.writer.has_failed)

abbrev pub decreases-loop-reads : goal.decreases-loop-reads
decreases-loop-reads g l = 2 ^ 64 - 1 - l.reads
