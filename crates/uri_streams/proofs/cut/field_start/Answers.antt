use Rattle.uri_streams.proofs.Common.{arith}
use Rattle.uri_streams.proofs.Fields.{IsFieldStart-more, no_field}
use Rattle.uri_streams.proofs.cut.field_start.Goals as goal

pub loop-skipped-preserved : goal.loop-skipped-preserved
loop-skipped-preserved c = IsFieldStart-more c.args.delimiter c.loop-skipped.skipped c.args.line.now
    c.loop-skipped.start c.loop-skipped.invariant c.in-Some.index c.in-Some.ensures.0
    c.in-Some.ensures.1

pub returns-in-None : goal.returns-in-None
returns-in-None c = grind (arith, no_field)
