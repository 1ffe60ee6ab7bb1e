use Rattle.uri_ops.proofs.Targeting.TextViews.{host-ends-within-authority}
use Rattle.uri_ops.proofs.resolve.text_view.TextView.of_core.Goals as goal

pub invariant_of-result-clause-host : goal.invariant_of-result-clause-host
invariant_of-result-clause-host g c = host-ends-within-authority g.K.Kind.kind c.as_str.result.now
    (record { utf8 = c.as_str.utf8; grammar = c.as_str.ensures.of_kind })
