use Rattle.uri_commands.proofs.Offered.{AppendsPrefix-after-Appends, AppendsPrefix-of-longer}
use Rattle.uri_streams.proofs.output.put_around.Goals as goal

pub returns-then-put_both-clause-prefix : goal.returns-then-put_both-clause-prefix
returns-then-put_both-clause-prefix g c = AppendsPrefix-after-Appends _ _ _ _ _
    (c.put_both.ensures.whole c.if-put_both.true) c.put_both-then-put_both.ensures.prefix

pub returns-else-put_both-clause-prefix : goal.returns-else-put_both-clause-prefix
returns-else-put_both-clause-prefix g c = AppendsPrefix-of-longer _ _ _ _ c.put_both.ensures.prefix
