use Rattle.uri_ops.proofs.Common.{sym, ap, ◌∙◌, append_assoc, decode_unreserved, print, set_of}
use Rattle.uri_ops.proofs.FromEnd.Blocks.{put_before}
use Rattle.uri_ops.proofs.Meanings.Decodable.{valid-text-is-decodable}
use Rattle.uri_ops.proofs.read_back.normal_block.put_part.Goals as goal

pub put_component-end-requires-clause-valid : goal.put_component-end-requires-clause-valid
put_component-end-requires-clause-valid g c = valid-text-is-decodable
    c.table.result g.E.Encoder.set c.as_str.result.now c.table.ensures c.as_str.ensures.valid

pub returns-clause-text : goal.returns-clause-text
returns-clause-text g c =
    let text = ap (λ set. print (decode_unreserved set c.as_str.result.now)) c.table.ensures
    ∙ ap (λ t. print (decode_unreserved g.E.Encoder.set t)) c.as_str.ensures.text in
    let part = print (decode_unreserved (set_of c.table.result) c.as_str.result.now) in
    rw (c.in-Some.is, sym text, append_assoc c.args.before.now part c.args.after.now)
    (put_before _ _ c.args.end _ _ c.args.block.now _ _ c.put_text.ensures.within
    (put_before _ _ c.args.end _ _ c.args.block.now _ _ c.put_component-end.ensures.within
    c.put_text-end.ensures.text c.put_component-end.ensures.text) c.put_text.ensures.text)
