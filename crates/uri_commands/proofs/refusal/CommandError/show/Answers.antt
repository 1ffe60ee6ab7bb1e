use Rattle.uri_commands.proofs.Common.{common_steps, arith, ◌++◌, ◌∙◌, ap, codes, subst, AppendsPrefix}
use Rattle.uri_commands.specs.Messages.{index_text}
use Rattle.uri_commands.proofs.Appended.{AppendsPrefix-after-Appends, AppendsPrefix-of-longer}
use Rattle.uri_commands.proofs.Refusals.{error-line-in-parts}
use Rattle.uri_commands.proofs.refusal.CommandError.show.Goals as goal

pub returns-then-put_both-clause-whole : goal.returns-then-put_both-clause-whole
returns-then-put_both-clause-whole g c = grind (arith, common_steps, error-line-in-parts)

pub returns-then-put_both-clause-prefix : goal.returns-then-put_both-clause-prefix
returns-then-put_both-clause-prefix g c = subst (AppendsPrefix
    (g.E.Write.contents c.args.err.now.writer) (g.E.Write.contents c.put_line_end.new.err.writer))
    (error-line-in-parts c.as_bytes.result.now _ _ c.args.self (ap
    (λ s. s ++ c.message-message.result.text.now ++ index_text c.message-message.result.index)
    c.as_bytes.ensures.value ∙ c.message-message.ensures)) (AppendsPrefix-after-Appends _ _ _ _ _
    (c.put_both.ensures.whole c.if-put_both.true) c.put_line_end.ensures.prefix)

pub returns-else-put_both-clause-prefix : goal.returns-else-put_both-clause-prefix
returns-else-put_both-clause-prefix g c = subst (AppendsPrefix
    (g.E.Write.contents c.args.err.now.writer) (g.E.Write.contents c.put_both.new.writer.writer))
    (error-line-in-parts c.as_bytes.result.now _ _ c.args.self (ap
    (λ s. s ++ c.message-message.result.text.now ++ index_text c.message-message.result.index)
    c.as_bytes.ensures.value ∙ c.message-message.ensures)) (AppendsPrefix-of-longer _ _ _
    ((c.message-message.result.text.now ++ index_text c.message-message.result.index) ++ codes "\n")
    c.put_both.ensures.prefix)
