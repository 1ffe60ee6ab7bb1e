use Rattle.uri_streams.proofs.Common.{arith, ◌∙◌, reader_remaining, error_output_of}
use Rattle.fluent_uri.proofs.Outcomes.{IfErr-of-only-error}
use Rattle.uri_streams.proofs.Failures.{EndsFlushed-after-WritesOutput, KeepsFailures-in-writing, HasWrittenSoFar-then-run-fails, KeepsFailures-passed-on, HasWrittenSoFar-then-step-fails}
use Rattle.uri_streams.proofs.Streams.{HasWrittenSoFar-after-step, HasWrittenSoFar-at-start, HasWrittenSoFar-then-last-step, HasWrittenSoFar-then-rest-is-left}
use Rattle.uri_streams.proofs.Parts.{OnOk-of-any}
use Rattle.uri_streams.proofs.run.process_lines.Goals as goal

pub loop-number-init : goal.loop-number-init
loop-number-init g c = grind (arith, HasWrittenSoFar-at-start)

pub loop-number-preserved : goal.loop-number-preserved
loop-number-preserved g c = grind (arith, HasWrittenSoFar-after-step)

pub returns-in_err-step : goal.returns-in_err-step
returns-in_err-step g c =
    grind (arith, IfErr-of-only-error, HasWrittenSoFar-then-step-fails, KeepsFailures-passed-on)

pub returns-then-step : goal.returns-then-step
returns-then-step g c =
    let (written, read_failures, write_failures) = c.loop-number.invariant in
    let failures = c.in_ok-step.ensures.failures in
    let ended = EndsFlushed-after-WritesOutput c.args.job.now
    (reader_remaining g.R.Read.remaining c.args.reader.now.reader)
    (reader_remaining g.R.Read.remaining c.process_line.new.reader.reader)
    (g.W.Write.contents c.args.writer.now.writer)
    (g.W.Write.contents c.process_line.new.writer.writer)
    (g.W.Write.contents c.flushed.new.writer.writer)
    (error_output_of g.E.Write.contents c.args.err.now)
    (error_output_of g.E.Write.contents c.process_line.new.err) (g.V.Watch.seen c.args.watch.now)
    (g.V.Watch.seen c.show_tally.new.watch) c.count.new.self c.flushed.result
    (HasWrittenSoFar-then-last-step _ _ _ _ _ _ _ _ _ _ _ _ _ _ _ _ _ _
    (omega (arith, c.loop-number-test.true)) c.count.ensures.lines c.count.ensures.errors
    c.show_tally.ensures _ written c.in_ok-step.ensures.steps c.if-step.true)
    c.flushed.ensures.keeps c.flushed.ensures.tally c.flushed.ensures.cause in
    record {
      output = ended.output;
      stops = ended.stops;
      left = OnOk-of-any c.flushed.result _ (HasWrittenSoFar-then-rest-is-left _ _ _ _ _ _ _ _ _
          _ _ _ _ _ _ _ _ _ (omega (arith, c.loop-number-test.true)) c.count.ensures.lines
          c.count.ensures.errors c.show_tally.ensures _ written c.in_ok-step.ensures.steps
          c.if-step.true);
      flushed = c.flushed.ensures.flushed;
      failures = KeepsFailures-in-writing c.flushed.result _ _ _ _ _
          (failures.reading ∙ read_failures) (failures.writing ∙ write_failures)
          c.flushed.ensures.failures;
    }

pub returns-clause-failures : goal.returns-clause-failures
returns-clause-failures g c = grind arith

pub returns-clause-stops : goal.returns-clause-stops
returns-clause-stops g c = grind (arith, HasWrittenSoFar-then-run-fails)
