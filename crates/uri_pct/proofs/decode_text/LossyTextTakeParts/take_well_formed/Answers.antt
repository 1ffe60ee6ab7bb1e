use Rattle.uri_pct.proofs.Common.{◌∙◌, cond-true, utf8_pieces}
use Rattle.uri_pct.proofs.Decodings.Taking.{OnOk-from-is_ok, appended_text_takes_lossy_text_of_parts}
use Rattle.uri_pct.proofs.Unicode.PartPieces.{decoded_parts_have_their_pieces}
use Rattle.uri_pct.proofs.decode_text.LossyTextTakeParts.take_well_formed.Goals as goal

pub returns : goal.returns
returns c = OnOk-from-is_ok c.push_str.result (λ e.
    appended_text_takes_lossy_text_of_parts c.args.self.now _ _ c.args.text.now c.utf8.text
    (decoded_parts_have_their_pieces (utf8_pieces c.args.text.now)) (c.push_str.ensures.bytes
    ∙ cond-true _ _ _ e))
