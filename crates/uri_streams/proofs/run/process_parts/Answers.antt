use Rattle.uri_streams.proofs.Common.{refl, rules, sym, subst, ◌∙◌, reader_remaining, ReadsPartOfLine}
use Rattle.fluent_uri.proofs.Outcomes.{IfErr-of-only-error}
use Rattle.uri_streams.proofs.Failures.{KeepsFailures-passed-on}
use Rattle.uri_streams.proofs.Reports.{Reports-nothing}
use Rattle.uri_streams.proofs.Steps.{HasLine-of-read, IsStepOf-of-written-line, StepFails-in-reading}
use Rattle.uri_streams.proofs.run.process_parts.Goals as goal

pub returns-in_err-is_return : goal.returns-in_err-is_return
returns-in_err-is_return g c =
    let failures = c.in_err-is_return.ensures.failures in
    record {
      steps = search rules;
      fails = IfErr-of-only-error _ c.from_residual.result c.in_err-is_return.field-0.0
          c.from_residual.ensures.1
          (StepFails-in-reading c.args.step.job.now _ _ _ _ _ _ _ _ _
          (subst (ReadsPartOfLine (reader_remaining g.R.Read.remaining c.args.reader.now.reader)
          (reader_remaining g.R.Read.remaining c.read_line.new.reader.reader))
          c.line_ending.ensures c.in_err-is_return.ensures.stopped)
          c.read_line.ensures.keeps (Reports-nothing _));
      failures = KeepsFailures-passed-on c.from_residual.result c.in_err-is_return.field-0.0
          c.args.reader.now c.args.reader.now c.read_line.new.reader c.args.writer.now
          c.args.writer.now c.read_line.new.writer c.from_residual.ensures.1 refl refl
          failures.reading failures.writing failures.read_error failures.write_error;
    }

pub returns-in-Some : goal.returns-in-Some
returns-in-Some g c =
    let read = c.in_ok-is_return.ensures in
    let has = HasLine-of-read c.args.step.job.now _ _ _ _ _ _ _ _ c.line_ending.ensures
    (sym c.as_slice.ensures.value ∙ sym c.new.ensures.bytes) c.in-Some.is c.line_end.ensures
    read.line in
    IsStepOf-of-written-line _ _ _ _ _ _ _ _ _ _ c.read_line.new.writer _ _ _ _ _ _ has
    c.read_line.ensures.keeps read.failures.reading read.failures.writing
    c.write_line.ensures.whole c.write_line.ensures.prefix c.write_line.ensures.failures
