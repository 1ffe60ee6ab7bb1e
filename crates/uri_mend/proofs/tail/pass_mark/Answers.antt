use Rattle.uri_mend.proofs.Common.{common_steps, ◌≡◌, get_or, ap, sym, ◌∙◌, arith, IsCharBoundary-after_ascii}
use Rattle.uri_mend.proofs.MendedTails.{run-goes-on-by-mark}
use Rattle.uri_mend.proofs.tail.pass_mark.Goals as goal

pub returns-then-bytes-from-clause-progress : goal.returns-then-bytes-from-clause-progress
returns-then-bytes-from-clause-progress c out at =
    let text = c.args.text.now in
    let end = c.args.from.end in
    let same : get_or text end 0 ≡ c.args.mark =
    ap (λ t. get_or t end 0) (sym c.as_bytes-bytes.ensures.value) ∙ c.if-bytes-from.true in
    record {
      boundary = IsCharBoundary-after_ascii text end c.utf8.text
          (omega (arith, c.if-from-bytes.true, c.as_bytes-bytes.ensures.len))
          (omega (arith, same, c.requires.ascii));
      ordered = omega (arith, at.ordered);
      inside = at.inside;
    }

pub returns-then-bytes-from-clause-text : goal.returns-then-bytes-from-clause-text
returns-then-bytes-from-clause-text c out = grind (arith, common_steps, run-goes-on-by-mark)
