use Rattle.uri_ops.proofs.Common.{[], true, ◌∙◌, widest_set, set_of, empty_text_is_valid}
use Rattle.uri_ops.proofs.FromEnd.NormalParts.{nothing_is_written, two_pieces}
use Rattle.uri_ops.proofs.read_back.normal_authority.authority_back.Goals as goal

pub new-requires : goal.new-requires
new-requires g c = empty_text_is_valid widest_set

pub returns-in-None : goal.returns-in-None
returns-in-None g c =
    let host = two_pieces _ _ _ [] [] c.join-in-None.ensures
    (c.new.ensures ∙ nothing_is_written true (set_of c.table.result)) c.copied-in-None-2.ensures in
    let port = two_pieces _ _ _ [] [] c.join-in-None-2.ensures c.copied-in-None-3.ensures
    c.copied-in-None-4.ensures in
    let nothing = two_pieces _ _ _ [] [] c.join-in-None-5.ensures c.copied-in-None.ensures
    (two_pieces _ _ _ [] [] c.join-in-None-4.ensures c.part_back-in-None.ensures
    (two_pieces _ _ _ [] [] c.join-in-None-3.ensures host port)) in
    rw c.in-None.is (λ kind users names. nothing)
