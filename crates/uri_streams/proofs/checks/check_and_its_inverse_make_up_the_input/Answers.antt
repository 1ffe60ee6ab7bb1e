use Rattle.uri_streams.proofs.Common.{inl, end_byte}
use Rattle.uri_streams.proofs.CheckedLines.{AreMergedFrom-checks, AreMergedFrom-checks-of-all, output_for-check}
use Rattle.uri_streams.proofs.MergedLines.{concat-of-lines}
use Rattle.uri_streams.proofs.checks.check_and_its_inverse_make_up_the_input.Goals as goal

pub returns-clause-lines : goal.returns-clause-lines
returns-clause-lines c = λ job input. concat-of-lines (end_byte job.is_null) input

pub returns-clause-passed : goal.returns-clause-passed
returns-clause-passed c = λ job kind is_inverted input over.
    output_for-check job kind is_inverted input (inl over)

pub returns-clause-merged : goal.returns-clause-merged
returns-clause-merged c = λ job kind input over. AreMergedFrom-checks job kind input (inl over)

pub returns-clause-whole : goal.returns-clause-whole
returns-clause-whole c = λ job kind input all. AreMergedFrom-checks-of-all job kind input all
