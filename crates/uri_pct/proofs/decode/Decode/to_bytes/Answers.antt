use Rattle.uri_pct.proofs.Common.{sym, ◌∙◌, arith}
use Rattle.uri_pct.proofs.Unicode.PartPieces.{bytes_left-is-decoded, unencoded_text_decodes_to_itself}
use Rattle.uri_pct.proofs.decode.Decode.to_bytes.Goals as goal

pub returns-then-is_unencoded-clause-bytes : goal.returns-then-is_unencoded-clause-bytes
returns-then-is_unencoded-clause-bytes c = grind (arith, unencoded_text_decodes_to_itself)

pub returns-then-is_unencoded-clause-left : goal.returns-then-is_unencoded-clause-left
returns-then-is_unencoded-clause-left c = returns-then-is_unencoded-clause-bytes c
    ∙ sym (bytes_left-is-decoded c.args.self)

pub returns-clause-left : goal.returns-clause-left
returns-clause-left c = c.in_ok-decoded_bytes.ensures ∙ sym (bytes_left-is-decoded c.args.self)
