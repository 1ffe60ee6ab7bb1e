use Rattle.uri_pct.proofs.Common.{◌∙◌, cond-true}
use Rattle.uri_pct.proofs.Decodings.Taking.{OnOk-from-is_ok, appended_text_takes_lossy_text_of_parts, literal_part_has_utf8_pieces_of_its_text}
use Rattle.uri_pct.proofs.decode_text.LossyTextTakeParts.take_unencoded.Goals as goal

pub returns : goal.returns
returns c = OnOk-from-is_ok c.push_str.result (λ e.
    appended_text_takes_lossy_text_of_parts c.args.self.now _ _ c.args.text.now c.utf8.text
    (literal_part_has_utf8_pieces_of_its_text c.args.text.now)
    (c.push_str.ensures.bytes ∙ cond-true _ _ _ e))
