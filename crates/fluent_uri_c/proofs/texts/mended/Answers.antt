use Rattle.fluent_uri_c.proofs.Common.{arith}
use Rattle.fluent_uri_c.proofs.Mends.{mended_result-of-error, mended_result-of-mended}
use Rattle.fluent_uri_c.proofs.texts.mended.Goals as goal

pub returns-in-Ok-clause-text : goal.returns-in-Ok-clause-text
returns-in-Ok-clause-text g c = mended_result-of-mended g.K.Kind.kind c.args.bytes.now _ _
    c.in_ok-text.ensures.rejected c.in_ok-text.ensures.text c.in-Ok.ensures.mended

pub returns-in-Err-clause-text : goal.returns-in-Err-clause-text
returns-in-Err-clause-text g c = grind (arith, mended_result-of-error)
