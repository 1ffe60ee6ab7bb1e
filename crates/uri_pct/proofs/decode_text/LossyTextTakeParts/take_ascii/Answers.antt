use Rattle.uri_pct.proofs.Common.{[], ◌∷◌, ◌++◌, ap, ◌∙◌, encode_utf8, string_bytes, cond-true, encode_ascii, utf8_pieces}
use Rattle.uri_pct.proofs.Decodings.Taking.{OnOk-from-is_ok, appended_text_takes_lossy_text_of_parts}
use Rattle.uri_pct.proofs.Unicode.AsciiOctets.{ascii_byte_is_utf8}
use Rattle.uri_pct.proofs.Unicode.PartPieces.{decoded_parts_have_their_pieces}
use Rattle.uri_pct.proofs.decode_text.LossyTextTakeParts.take_ascii.Goals as goal

pub returns : goal.returns
returns c = OnOk-from-is_ok c.push.result (λ e.
    let text = c.args.byte ∷ [] in
    let before = string_bytes c.args.self.now.text in
    let put = c.push.ensures.bytes ∙ cond-true _ _ _ e
    ∙ ap (λ ch. before ++ encode_utf8 ch) c.from.ensures
    ∙ ap (λ bytes. before ++ bytes) (encode_ascii c.args.byte c.requires) in
    appended_text_takes_lossy_text_of_parts c.args.self.now _ _ text
    (ascii_byte_is_utf8 c.args.byte c.requires)
    (decoded_parts_have_their_pieces (utf8_pieces text)) put)
