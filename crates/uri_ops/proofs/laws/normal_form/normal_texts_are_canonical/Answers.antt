use Rattle.uri_ops.proofs.SchemeRules.RuledTexts.{normal-text-under-rules-is-text-of-kind}
use Rattle.uri_ops.proofs.laws.normal_form.normal_texts_are_canonical.Goals as goal

pub returns-clause-text : goal.returns-clause-text
returns-clause-text c = λ kind rules text sets w.
    normal-text-under-rules-is-text-of-kind kind rules sets text w
