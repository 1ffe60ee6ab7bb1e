use Rattle.uri_mend.proofs.Common.{common_steps, ◌<◌, get_or, rules, subst, arith, IsCharBoundary-after_ascii, lacks_percent}
use Rattle.uri_mend.proofs.EncodedRuns.{ascii-after-scan-is-encoded}
use Rattle.uri_mend.proofs.component.encode_next.Goals as goal

pub returns-clause-progress : goal.returns-clause-progress
returns-clause-progress c =
    let small : get_or c.args.text.now c.args.from.end 0
    < 128 = subst (λ t. get_or t c.args.from.end 0 < 128) c.as_bytes.ensures.value (omega arith) in
    record {
      boundary = IsCharBoundary-after_ascii c.args.text.now c.args.from.end c.utf8.text
          c.requires.inside small;
      ordered = omega arith;
      inside = search rules;
    }

pub returns-clause-encoded : goal.returns-clause-encoded
returns-clause-encoded c = grind (arith, common_steps, ascii-after-scan-is-encoded, lacks_percent)
