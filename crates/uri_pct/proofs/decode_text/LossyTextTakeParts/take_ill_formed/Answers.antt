use Rattle.uri_pct.proofs.Common.{◌∙◌, encode_utf8, cond-true}
use Rattle.uri_pct.proofs.Decodings.Taking.{OnOk-from-is_ok}
use Rattle.uri_pct.proofs.decode_text.LossyTextTakeParts.take_ill_formed.Goals as goal

pub returns : goal.returns
unfolding encode_utf8
returns c = OnOk-from-is_ok c.push.result
    (λ e. record { text = c.push.ensures.bytes ∙ cond-true _ _ _ e })
