-- What is left of the text gives the rest.
use Rattle.std.proofs.Common.{◌≡◌, length}
use Rattle.std.specs.List.{fold}
use Rattle.uri_order.specs.HashedTexts.{hashed_text}
use Rattle.uri_order.proofs.hashing.hash_back.Given as goal

abbrev pub invariant-loop-block : goal.invariant-loop-block
invariant-loop-block g l =
    fold g.H.Hasher.write l.initial.state (hashed_text (g.A.ReadBack.unread l.initial.text))
    ≡ fold g.H.Hasher.write l.state (hashed_text (g.A.ReadBack.unread l.text))

abbrev pub decreases-loop-block : goal.decreases-loop-block
decreases-loop-block g l = length (g.A.ReadBack.unread l.text)
