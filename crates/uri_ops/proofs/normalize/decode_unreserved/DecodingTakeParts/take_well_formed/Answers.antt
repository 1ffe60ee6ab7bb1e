use Rattle.uri_ops.proofs.Common.{refl, on_ok_weaker, encode_text, set_of, print}
use Rattle.uri_ops.proofs.Meanings.TakenDecodings.{appended-text-is-decoded-parts, decoded-octets-past-ascii-are-encoded-text}
use Rattle.uri_ops.proofs.normalize.decode_unreserved.DecodingTakeParts.take_well_formed.Goals as
    goal

pub returns : goal.returns
returns c =
    let s = c.args.self.now in
    let text = c.args.text.now in
    let decodable = set_of c.decodable.result in
    on_ok_weaker c.push_text.result (λ written. appended-text-is-decoded-parts s _ _
    (print (encode_text decodable text)) refl refl refl written
    (decoded-octets-past-ascii-are-encoded-text s.lowers decodable
    (set_of s.table) text c.decodable.ensures c.utf8.text c.requires)) c.push_text.ensures.ok
