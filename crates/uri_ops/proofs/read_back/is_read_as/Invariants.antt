-- The text is the other one exactly if what is left of it is.
use Rattle.uri_ops.proofs.Common.{◌≡◌, ◌↔◌, length}
use Rattle.uri_ops.proofs.read_back.is_read_as.Given as goal

abbrev pub invariant-loop-rest : goal.invariant-loop-rest
invariant-loop-rest g l = (g.A.ReadBack.unread l.initial.text ≡ l.initial.left)
    ↔ (g.A.ReadBack.unread l.text ≡ l.left)

abbrev pub decreases-loop-rest : goal.decreases-loop-rest
decreases-loop-rest g l = length (g.A.ReadBack.unread l.text)
