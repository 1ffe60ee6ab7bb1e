use Rattle.uri_ops.proofs.Meanings.Decodable.{valid-text-is-decodable}
use Rattle.uri_ops.proofs.normalize.decode_unreserved.push_decoded_component.Goals as goal

pub push_decoded-requires : goal.push_decoded-requires
push_decoded-requires g c = valid-text-is-decodable
    c.table.result g.E.Encoder.set c.as_str.result.now c.table.ensures c.as_str.ensures.valid
