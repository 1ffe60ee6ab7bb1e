use Rattle.uri_ops.proofs.Common.{[], false, ap, ◌∙◌, widest_set, decode_unreserved, set_of, print, empty_text_is_valid}
use Rattle.uri_ops.proofs.Meanings.Decodable.{valid-text-is-decodable}
use Rattle.uri_ops.proofs.FromEnd.NormalParts.{nothing_is_written, two_pieces}
use Rattle.uri_ops.proofs.read_back.normal_authority.part_back.Goals as goal

pub new-requires : goal.new-requires
new-requires g c = valid-text-is-decodable
    c.table.result g.E.Encoder.set c.as_str.result.now c.table.ensures c.as_str.ensures.valid

pub new-requires-in-None : goal.new-requires-in-None
new-requires-in-None g c = empty_text_is_valid widest_set

pub returns-in-Some : goal.returns-in-Some
returns-in-Some g c = rw c.in-Some.is (two_pieces _ _ _ _ _ c.join-in-Some.ensures
    (two_pieces _ _ _ _ _ c.join.ensures c.copied.ensures
    (c.new.ensures ∙ ap (λ set. print (decode_unreserved set c.as_str.result.now)) c.table.ensures
    ∙ ap (λ text. print (decode_unreserved g.E.Encoder.set text)) c.as_str.ensures.text))
    c.copied-in-Some.ensures)

pub returns-in-None : goal.returns-in-None
returns-in-None g c = rw c.in-None.is (two_pieces _ _ _ [] [] c.join-in-None-2.ensures
    (two_pieces _ _ _ [] [] c.join-in-None.ensures c.copied-in-None.ensures (c.new-in-None.ensures
    ∙ nothing_is_written false (set_of c.table-in-None.result))) c.copied-in-None-2.ensures)
