use Rattle.uri_commands.proofs.Appended.{AppendsPrefix-after-Appends, AppendsPrefix-of-longer}
use Rattle.uri_commands.proofs.refusal.put_indexed.Goals as goal

pub returns-then-put-clause-prefix : goal.returns-then-put-clause-prefix
returns-then-put-clause-prefix g c =
    rw (c.in-Some.is, ← c.as_bytes.ensures.value) (AppendsPrefix-after-Appends _ _ _ _ _
    (c.put.ensures.whole c.if-put.true) c.put_index.ensures.prefix)

pub returns-else-put-clause-prefix : goal.returns-else-put-clause-prefix
returns-else-put-clause-prefix g c =
    rw (← c.as_bytes.ensures.value) (AppendsPrefix-of-longer _ _ _ _ c.put.ensures.prefix)
