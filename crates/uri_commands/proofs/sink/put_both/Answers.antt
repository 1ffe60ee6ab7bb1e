use Rattle.uri_commands.proofs.Appended.{AppendsPrefix-after-Appends, AppendsPrefix-of-longer}
use Rattle.uri_commands.proofs.sink.put_both.Goals as goal

pub returns-then-put-clause-prefix : goal.returns-then-put-clause-prefix
returns-then-put-clause-prefix g c = AppendsPrefix-after-Appends _ _ _ _ _
    (c.put.ensures.whole c.if-put.true) c.put-then-put.ensures.prefix

pub returns-else-put-clause-prefix : goal.returns-else-put-clause-prefix
returns-else-put-clause-prefix g c = AppendsPrefix-of-longer _ _ _ _ c.put.ensures.prefix
