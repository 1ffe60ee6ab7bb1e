use Rattle.uri_ops.proofs.Common.{map, refl, on_ok_weaker, set_of, Octet, print}
use Rattle.uri_ops.proofs.Meanings.TakenDecodings.{appended-text-is-decoded-parts, ill-formed-octets-are-unchanged}
use Rattle.uri_ops.proofs.normalize.decode_unreserved.DecodingTakeParts.take_ill_formed.Goals as
    goal

pub returns : goal.returns
returns c = on_ok_weaker c.push_octets.result (λ written. appended-text-is-decoded-parts
    c.args.self.now _ _ (print (map Octet c.args.bytes.now)) refl refl refl written
    (ill-formed-octets-are-unchanged c.args.self.now.lowers
    (set_of c.args.self.now.table) c.args.bytes.now)) c.push_octets.ensures.ok
