use Rattle.uri_ops.proofs.Common.{sym, subst, IsUtf8, IsUtf8-had}
use Rattle.uri_ops.proofs.normalize.room.take_bytes.Goals as goal

pub returns-clause-utf8 : goal.returns-clause-utf8
returns-clause-utf8 c = subst (λ bytes. IsUtf8 bytes.items)
    (sym c.into_bytes.ensures.value) (IsUtf8-had _ c.replace.result.ok)
