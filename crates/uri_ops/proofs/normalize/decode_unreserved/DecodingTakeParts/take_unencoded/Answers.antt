use Rattle.uri_ops.proofs.Common.{refl, on_ok_weaker, set_of, lowered_text_if}
use Rattle.uri_ops.proofs.Meanings.TakenDecodings.{appended-text-is-decoded-parts, literal-part-is-lowered}
use Rattle.uri_ops.proofs.normalize.decode_unreserved.DecodingTakeParts.take_unencoded.Goals as goal

pub returns : goal.returns
returns c =
    let s = c.args.self.now in
    on_ok_weaker c.push_literal.result (λ written. appended-text-is-decoded-parts s _ _
    (lowered_text_if s.lowers c.args.text.now) refl refl refl written
    (literal-part-is-lowered s.lowers (set_of s.table) c.args.text.now c.utf8.text))
    c.push_literal.ensures
