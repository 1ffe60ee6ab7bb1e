use Rattle.uri_ops.proofs.Common.{arith, ⊎_elim, ◌<◌, ◌≤◌, cases_lt}
use Rattle.uri_ops.proofs.Normal.UnchangedBytes.{each-byte-of-unchanged-octet-is-unchanged}
use Rattle.uri_ops.proofs.normalize.unchanged_octets.unchanged_octets_end.Goals as goal

pub loop-end-preserved : goal.loop-end-preserved
loop-end-preserved c =
    let end = c.loop-end.end in
    record {
      from = omega (arith, c.loop-end.invariant.from);
      within = omega (arith, c.loop-end-test.true);
      unchanged =
          λ limit k from to. ⊎_elim (λ (h : k < end). c.loop-end.invariant.unchanged limit k from h)
          (λ (h : end ≤ k). each-byte-of-unchanged-octet-is-unchanged
          c.args.alone limit c.args.bytes.now end c.if-bytes-end-eq37.true
          (c.are_digits_unchanged.ensures c.if-are_digits_unchanged.true) k h to) (cases_lt k end);
    }
