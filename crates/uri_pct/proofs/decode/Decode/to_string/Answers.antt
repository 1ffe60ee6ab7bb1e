use Rattle.uri_pct.proofs.Common.{rules, ℕ, Vec, Global, sym, ap, ◌∙◌, subst, arith, IsUtf8, IsUtf8-string_bytes}
use Rattle.uri_pct.proofs.Unicode.PartPieces.{unencoded_text_decodes_to_itself, bytes_left-is-decoded}
use Rattle.uri_pct.proofs.decode.Decode.to_string.Goals as goal

pub returns-then-is_unencoded-clause-text : goal.returns-then-is_unencoded-clause-text
returns-then-is_unencoded-clause-text c = grind (arith, unencoded_text_decodes_to_itself)

pub returns-then-is_unencoded-clause-utf8 : goal.returns-then-is_unencoded-clause-utf8
returns-then-is_unencoded-clause-utf8 c = grind (arith, unencoded_text_decodes_to_itself)

pub returns-then-is_unencoded-clause-left : goal.returns-then-is_unencoded-clause-left
returns-then-is_unencoded-clause-left c = returns-then-is_unencoded-clause-text c
    ∙ sym (bytes_left-is-decoded c.args.self)

pub returns-in-Ok-clause-utf8 : goal.returns-in-Ok-clause-utf8
returns-in-Ok-clause-utf8 c = λ _.
    subst IsUtf8 (ap (λ (v : Vec ℕ Global). v.items) c.in-Ok.ensures.ok
    ∙ c.in_ok-decoded_bytes.ensures) (IsUtf8-string_bytes c.in-Ok.text)

pub returns-in-Ok-clause-left : goal.returns-in-Ok-clause-left
returns-in-Ok-clause-left c = rw (bytes_left-is-decoded c.args.self) (search rules)

pub returns-in-Err-clause-left_refused : goal.returns-in-Err-clause-left_refused
returns-in-Err-clause-left_refused c = rw (bytes_left-is-decoded c.args.self) (search rules)
