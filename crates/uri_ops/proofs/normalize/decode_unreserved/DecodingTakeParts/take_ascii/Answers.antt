use Rattle.uri_ops.proofs.Common.{[], ◌∷◌, refl, on_ok_weaker, decode_octet, set_of, Octet, print, lowered_if}
use Rattle.uri_ops.proofs.Meanings.DecodedOctets.{decoded-part-of-ascii-octet}
use Rattle.uri_ops.proofs.Meanings.TakenDecodings.{appended-text-is-decoded-parts}
use Rattle.uri_ops.proofs.normalize.decode_unreserved.DecodingTakeParts.take_ascii.Goals as goal

pub returns : goal.returns
returns c =
    let s = c.args.self.now in
    let alone = print (lowered_if s.lowers (decode_octet (Octet c.args.byte) ∷ [])) in
    on_ok_weaker c.push_decoded_octet.result (λ written. appended-text-is-decoded-parts
    s _ _ alone refl refl refl written (decoded-part-of-ascii-octet s.lowers
    (set_of s.table) c.args.byte c.requires)) c.push_decoded_octet.ensures
