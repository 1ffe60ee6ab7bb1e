use Rattle.uri_ops.proofs.Common.{sym, subst, IsOfKind, ArePackedPositionsOf}
use Rattle.uri_ops.proofs.traits.core_of.Goals as goal

pub new-requires-clause-of_kind : goal.new-requires-clause-of_kind
new-requires-clause-of_kind g c = subst (λ k. IsOfKind k c.as_str.result.now)
    (sym g.met.R.RiMaybeRef.kind_is_its_own) c.as_str.ensures.of_kind

pub new-requires-clause-at : goal.new-requires-clause-at
new-requires-clause-at g c = subst (λ t. ArePackedPositionsOf t c.packed_positions.result)
    (sym c.as_str.ensures.text) c.packed_positions.ensures
