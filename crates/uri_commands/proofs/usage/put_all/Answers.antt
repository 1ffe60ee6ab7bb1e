use Rattle.uri_commands.proofs.Common.{arith}
use Rattle.uri_commands.proofs.WrittenTexts.{AppendsPrefix-of-all-texts, AppendsPrefix-of-one-more-text}
use Rattle.uri_commands.proofs.usage.put_all.Goals as goal

pub returns-then-not-put-clause-prefix : goal.returns-then-not-put-clause-prefix
returns-then-not-put-clause-prefix g c =
    AppendsPrefix-of-one-more-text (λ text. text.now) c.args.texts.now c.loop-text.text-index _ _ _
    _ _ c.loop-text-test.true c.as_bytes.ensures.value c.loop-text.invariant.0 c.put.ensures.prefix

pub returns-clause-prefix : goal.returns-clause-prefix
returns-clause-prefix g c = grind (arith, AppendsPrefix-of-all-texts)
