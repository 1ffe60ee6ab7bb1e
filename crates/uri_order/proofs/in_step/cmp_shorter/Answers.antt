use Rattle.std.proofs.Common.{length, arith}
use Rattle.std.proofs.lemmas.Grind.{common_steps}
use Rattle.uri_order.proofs.InStep.{order_of_longer_text, prefix_is_kept}
use Rattle.uri_order.proofs.in_step.cmp_shorter.Goals as goal

pub loop-count-preserved : goal.loop-count-preserved
loop-count-preserved g c =
    let kept = prefix_is_kept (length (g.B.ReadBack.unread c.args.other)) c.loop-count.count
    c.read_back-start.result _ _ _ _ c.read_back-start.ensures.text c.read_back-start.ensures.end in
    grind (arith, common_steps, kept)

pub returns : goal.returns
returns g c = grind (arith, common_steps, order_of_longer_text)
