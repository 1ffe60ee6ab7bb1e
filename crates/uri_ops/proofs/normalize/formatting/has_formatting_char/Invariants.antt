use Rattle.uri_ops.proofs.Common.{◌≡◌, list_any, IsUtf8, chars, chars_rest, is_bidi_formatting}
use Rattle.uri_ops.proofs.normalize.formatting.has_formatting_char.Given as goal

abbrev pub invariant-loop-ch : goal.invariant-loop-ch
invariant-loop-ch l = IsUtf8 (chars_rest l.ch-iterator) × (list_any is_bidi_formatting
    (chars (chars_rest l.ch-iterator)) ≡ list_any is_bidi_formatting (chars l.fn.text))
