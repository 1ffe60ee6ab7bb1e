use Rattle.uri_ops.proofs.Common.{arith, ltb-true, ltb-false}
use Rattle.uri_ops.proofs.AsciiForms.EncodedRuns.{ascii-run-is-unchanged-when-encoded}
use Rattle.uri_ops.proofs.convert.encoded.ascii_prefix_len.Goals as goal

pub returns-then-this-clause-inside : goal.returns-then-this-clause-inside
returns-then-this-clause-inside c = c.ascii_end.ensures.within

pub returns-then-this-clause-unchanged : goal.returns-then-this-clause-unchanged
returns-then-this-clause-unchanged c = ascii-run-is-unchanged-when-encoded _ _
    c.ascii_end.ensures.within (λ k h. ltb-true _ 128 (c.ascii_end.ensures.pass k (omega arith) h))

pub returns-then-this-clause-stops : goal.returns-then-this-clause-stops
returns-then-this-clause-stops c = λ h. ltb-false _ 128 (c.ascii_end.ensures.stop h)
