use Rattle.uri_ops.proofs.Common.{◌≡◌, ◌++◌, string_bytes, IsUtf8, chars_rest, encoded_formatting_text}
use Rattle.uri_ops.proofs.normalize.formatting.push_with_formatting_encoded.Given as goal

abbrev pub invariant-loop-ch : goal.invariant-loop-ch
invariant-loop-ch l = IsUtf8 (chars_rest l.ch-iterator)
    × (string_bytes l.out ++ encoded_formatting_text (chars_rest l.ch-iterator)
    ≡ string_bytes l.fn.out ++ encoded_formatting_text l.fn.text)
