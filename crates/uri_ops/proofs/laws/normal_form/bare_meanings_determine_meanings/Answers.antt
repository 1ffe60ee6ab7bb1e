use Rattle.uri_ops.proofs.Common.{ap, under_rules}
use Rattle.uri_ops.proofs.Meanings.PortMeanings.{meaning_of-from-bare-meaning}
use Rattle.uri_ops.proofs.laws.normal_form.bare_meanings_determine_meanings.Goals as goal

pub returns-clause-rules : goal.returns-clause-rules
returns-clause-rules c = λ kind rules text.
    ap (under_rules rules) (meaning_of-from-bare-meaning kind rules.ports text)
