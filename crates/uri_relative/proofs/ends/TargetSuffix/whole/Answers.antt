use Rattle.uri_relative.proofs.Common.{sym, ◌∙◌, recompose-components}
use Rattle.uri_relative.proofs.ends.TargetSuffix.whole.Goals as goal

pub returns-clause-text : goal.returns-clause-text
returns-clause-text c =
    c.as_str.ensures.text ∙ sym (recompose-components c.args.target.now.text.now)
