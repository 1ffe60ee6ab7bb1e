use Rattle.uri_ops.proofs.Common.{common_steps, arith, sym, ◌∙◌, string_bytes}
use Rattle.uri_ops.proofs.Builders.BuilderGrowth.{string_len-is-length-of-bytes}
use Rattle.uri_ops.proofs.Targeting.JoinedPieces.{empty-query-is-absent, query-with-bytes-is-there, pushed-query-ends-at-length}
use Rattle.uri_ops.proofs.resolve.target_text.push_query.Goals as goal

pub returns-then-is_empty-clause-end : goal.returns-then-is_empty-clause-end
returns-then-is_empty-clause-end c = λ query is. empty-query-is-absent query c.args.query.now
    (string_bytes c.args.out.now) is (sym c.is_empty.ensures ∙ c.if-is_empty.true)

pub returns-clause-end : goal.returns-clause-end
returns-clause-end c =
    grind (
      arith,
      common_steps,
      pushed-query-ends-at-length,
      query-with-bytes-is-there,
      string_len-is-length-of-bytes,
    )
