use Rattle.uri_pct.proofs.Common.{sym, ap, ◌∙◌, arith, lossy_text}
use Rattle.uri_pct.proofs.Unicode.Lossy.{lossy_text_of_utf8_is_itself}
use Rattle.uri_pct.proofs.Unicode.PartPieces.{unencoded_text_decodes_to_itself, bytes_left-is-decoded}
use Rattle.uri_pct.proofs.Decodings.Taking.{parts_taken_give_lossy_text}
use Rattle.uri_pct.proofs.decode.Decode.to_string_lossy.Goals as goal

pub returns-then-is_unencoded-clause-text : goal.returns-then-is_unencoded-clause-text
returns-then-is_unencoded-clause-text c =
    grind (arith, lossy_text_of_utf8_is_itself, unencoded_text_decodes_to_itself)

pub returns-clause-text : goal.returns-clause-text
returns-clause-text c = parts_taken_give_lossy_text c.args.self.rest.now _ c.take_parts.new.taker
    c.args.self.whole c.in_ok-with_capacity.ensures.bytes c.in_ok-take_parts.ensures

pub returns-then-is_unencoded-clause-left : goal.returns-then-is_unencoded-clause-left
returns-then-is_unencoded-clause-left c = returns-then-is_unencoded-clause-text c
    ∙ ap lossy_text (sym (bytes_left-is-decoded c.args.self))

pub returns-clause-left : goal.returns-clause-left
returns-clause-left c = returns-clause-text c
    ∙ ap lossy_text (sym (bytes_left-is-decoded c.args.self))
