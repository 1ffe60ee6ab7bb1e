-- Bytes that are UTF-8, and begin with a character that is as long as they are, are that character.
use Rattle.uri_ops.proofs.Common.{length, sym, ap, ◌∙◌, subst, arith, len_utf8, IsUtf8, false≢true, IsUtf8-encode, IsCharBoundary-start, length-encode, is_decodable, set_of}
use Rattle.uri_ops.proofs.FromEnd.LastDecodables.{char_has_one_to_four_bytes, first_char_is_only_char}
use Rattle.uri_ops.proofs.read_back.last_tokens.decodable.Goals as goal

pub returns-in_default : goal.returns-in_default
returns-in_default c = λ d scalar decodable e.
    c.in_default.ensures.cases.0 (subst IsUtf8 (sym e) (IsUtf8-encode d scalar))

pub returns-then-is_empty : goal.returns-then-is_empty
returns-then-is_empty c = grind (arith, char_has_one_to_four_bytes)

pub char_at-ch-requires-clause-boundary : goal.char_at-ch-requires-clause-boundary
char_at-ch-requires-clause-boundary c = IsCharBoundary-start c.in-Ok.text.now
    (subst IsUtf8 (sym c.in-Ok.ensures.cases.0) c.in-Ok.ensures.cases.1)

pub returns-else-len_utf8-bytes : goal.returns-else-len_utf8-bytes
returns-else-len_utf8-bytes c = λ d scalar decodable e.
    let one = first_char_is_only_char c.in-Ok.text.now _ c.char_at-ch.result d c.char_at-ch.ensures
    (c.in-Ok.ensures.cases.0 ∙ e) in
    elim c.else-len_utf8-bytes.branch [
      | goal.else-len_utf8-bytes-via-then-len_utf8-bytes+else-allows w ↦ false≢true
          (sym w.if-allows.false ∙ w.allows.ensures ∙ w.decodable.ensures c.char_at-ch.result
          ∙ ap (is_decodable (set_of c.args.table.now)) one.0 ∙ decodable)
      | goal.else-len_utf8-bytes-via-else-len_utf8-bytes w ↦ w.if-len_utf8-bytes.false
          (c.len_utf8.ensures.value ∙ ap len_utf8 one.0 ∙ sym (length-encode d) ∙ sym (ap length e))
    ]
