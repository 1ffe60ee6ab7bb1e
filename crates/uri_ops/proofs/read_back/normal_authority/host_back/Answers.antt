use Rattle.uri_ops.proofs.Common.{arith, map, true, sym, ap, ◌∙◌, str_to_ascii_lowercase, widest_set, left_bracket, decode_unreserved, lower_token, set_of, print, empty_text_is_valid, starts, host_kind, holds, host_meaning, host_text}
use Rattle.uri_ops.proofs.Meanings.BracketedHosts.{normal-name-is-lowered-decoded}
use Rattle.uri_ops.proofs.Meanings.Decodable.{unbracketed-host-is-decodable}
use Rattle.uri_ops.proofs.FromEnd.NormalParts.{empty_if_tested, not_empty_if_tested, first_piece_alone, host_with_address_is_its_text, host_without_address_is_lowered, nothing_is_written, second_piece_alone}
use Rattle.uri_ops.proofs.read_back.normal_authority.host_back.Goals as goal

pub new-requires : goal.new-requires
new-requires g c = grind (arith, holds, unbracketed-host-is-decodable)

pub returns-then-not-is_bracketed : goal.returns-then-not-is_bracketed
returns-then-not-is_bracketed g c =
    let host = c.host-host.result.now in
    first_piece_alone _ _ _ _ c.join.ensures c.copied.ensures (c.new.ensures
    ∙ ap (λ set. print (map lower_token (decode_unreserved set host))) c.table.ensures
    ∙ sym (normal-name-is-lowered-decoded g.R.Encoder.set host
    (sym c.is_bracketed.ensures ∙ c.if-not-is_bracketed.true))
    ∙ ap (λ h. host_text (host_meaning g.R.Encoder.set h (host_kind h))) c.host-host.ensures)

pub new-requires-then-is_empty : goal.new-requires-then-is_empty
new-requires-then-is_empty g c = empty_text_is_valid widest_set

pub returns-then-is_empty : goal.returns-then-is_empty
returns-then-is_empty g c = second_piece_alone _ _ _ _ c.join-then-is_empty.ensures
    (c.new-then-is_empty.ensures ∙ nothing_is_written true (set_of c.table-then-is_empty.result))
    (c.lowered.ensures ∙ ap str_to_ascii_lowercase (c.as_bytes.ensures.value ∙ c.host-host.ensures)
    ∙ host_without_address_is_lowered g.R.Encoder.set _ (ap (starts left_bracket) (sym
    c.host-host.ensures) ∙ sym c.is_bracketed.ensures ∙ c.if-not-is_bracketed.false) (sym c.requires
    ∙ empty_if_tested c.args.address.now (sym c.is_empty.ensures ∙ c.if-is_empty.true)))

pub new-requires-2 : goal.new-requires-2
new-requires-2 g c = empty_text_is_valid widest_set

pub returns : goal.returns
returns g c = second_piece_alone _ _ _ _ c.join-2.ensures
    (c.new-2.ensures ∙ nothing_is_written true (set_of c.table-2.result))
    (c.copied-2.ensures ∙ c.requires ∙ host_with_address_is_its_text g.R.Encoder.set _
    (ap (starts left_bracket) (sym c.host-host.ensures) ∙ sym c.is_bracketed.ensures
    ∙ c.if-not-is_bracketed.false) (λ none. not_empty_if_tested c.args.address.now
    (sym c.is_empty.ensures ∙ c.if-is_empty.false) (c.requires ∙ none)))
