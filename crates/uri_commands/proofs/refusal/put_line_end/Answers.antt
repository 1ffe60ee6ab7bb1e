use Rattle.uri_commands.proofs.Appended.{AppendsPrefix-after-Appends, AppendsPrefix-of-longer}
use Rattle.uri_commands.proofs.refusal.put_line_end.Goals as goal

pub returns-then-put_indexed-clause-prefix : goal.returns-then-put_indexed-clause-prefix
returns-then-put_indexed-clause-prefix g c = AppendsPrefix-after-Appends _ _ _ _ _
    (c.put_indexed.ensures.whole c.if-put_indexed.true) c.put.ensures.prefix

pub returns-else-put_indexed-clause-prefix : goal.returns-else-put_indexed-clause-prefix
returns-else-put_indexed-clause-prefix g c =
    AppendsPrefix-of-longer _ _ _ _ c.put_indexed.ensures.prefix
