-- The third byte from the end says whether an octet ends the text.
use Rattle.uri_ops.proofs.Common.{◌≡◌, ◌-◌, length, sym, ap, ◌∙◌, arith, take, widest_set, IsValidFor, is_valid_for}
use Rattle.uri_ops.proofs.FromEnd.LastTokens.{no_octet_ends_text, percent_third_from_end_begins_last_octet, equal_text_ends_in_same_octet}
use Rattle.uri_ops.proofs.read_back.last_tokens.split_last_octet.Goals as goal

pub returns-then-bytes-lt3 : goal.returns-then-bytes-lt3
returns-then-bytes-lt3 c =
    no_octet_ends_text c.args.text.now c.utf8.text c.requires (λ n long percent. omega arith)

pub returns-then-bytes-start-ne37 : goal.returns-then-bytes-start-ne37
returns-then-bytes-start-ne37 c = grind (arith, no_octet_ends_text)

pub octet_value-value-requires-clause-high : goal.octet_value-value-requires-clause-high
octet_value-value-requires-clause-high c = grind (arith, percent_third_from_end_begins_last_octet)

pub octet_value-value-requires-clause-low : goal.octet_value-value-requires-clause-low
octet_value-value-requires-clause-low c =
    (percent_third_from_end_begins_last_octet c.as_bytes-bytes.result.now
    (length c.as_bytes-bytes.result.now - 3) c.as_bytes-bytes.ensures.utf8
    (ap (is_valid_for widest_set) c.as_bytes-bytes.ensures.value ∙ c.requires)
    (omega arith) c.if-bytes-start-ne37.false).low

pub returns : goal.returns
returns c =
    let bytes = c.as_bytes-bytes.result.now in
    let valid : IsValidFor widest_set bytes =
    ap (is_valid_for widest_set) c.as_bytes-bytes.ensures.value ∙ c.requires in
    let zero : length bytes - 3 ≡ length bytes - 3 - 0 = omega arith in
    let found = percent_third_from_end_begins_last_octet bytes (length bytes - 3)
    c.as_bytes-bytes.ensures.utf8 valid (omega arith) c.if-bytes-start-ne37.false in
    equal_text_ends_in_same_octet bytes c.args.text.now (take (length bytes - 3) bytes)
    c.range.result.now _ _ c.as_bytes-bytes.ensures.value
    (ap (take (length bytes - 3)) c.as_bytes-bytes.ensures.value
    ∙ ap (λ m. take m c.args.text.now) zero ∙ sym c.range.ensures.value)
    (sym c.octet_value-value.ensures) found.ends
