use Rattle.uri_streams.proofs.Common.{eqb, refl, Keeps-refl, reader_buffer, reader_capacity, reader_inner}
use Rattle.uri_streams.proofs.Steps.{HasLine-buffered, IsStepOf-of-written-line}
use Rattle.uri_streams.proofs.run.process_line.Goals as goal

pub returns : goal.returns
returns g c =
    let reader = c.args.reader.now.reader in
    let has = HasLine-buffered c.args.step.job.now (eqb (reader_capacity reader) 0)
    (reader_buffer reader) (g.R.Read.remaining (reader_inner reader)) _ _ _ c.in-Some.ensures.line
    c.in-Some.ensures.end c.skip.ensures.bytes in
    IsStepOf-of-written-line _ _ _ _ _ _ _ _ _ _ _ _ _ _ _ _ _ has (Keeps-refl _)
    c.skip.ensures.failed refl c.write_line-written.ensures.whole
    c.write_line-written.ensures.prefix c.write_line-written.ensures.failures
