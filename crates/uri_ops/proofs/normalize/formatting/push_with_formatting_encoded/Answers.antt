use Rattle.uri_ops.proofs.Common.{◌++◌, sym, ap, ◌∙◌, append_assoc, append-nil, string_bytes, flat_map, chars_rest, IsUtf8-past_char, chars_past_char, encoded_formatting_char, encoded_formatting_text}
use Rattle.std.proofs.StrCases.{chars_of_empty}
use Rattle.uri_ops.proofs.normalize.formatting.push_with_formatting_encoded.Goals as goal

pub loop-ch-preserved : goal.loop-ch-preserved
loop-ch-preserved c =
    let holds = c.loop-ch.invariant in
    let out = string_bytes c.loop-ch.out in
    let rest = encoded_formatting_text (chars_rest c.next.new.self) in
    let parts = c.in-Some.ensures.steps.0 in
    let step = ap (flat_map encoded_formatting_char)
    (chars_past_char _ _ c.in-Some.ch holds.0 parts) in (
      IsUtf8-past_char _ _ c.in-Some.ch holds.0 parts,
      ap (λ x. x ++ rest) c.in_ok-push_char_formatting_encoded.ensures ∙ append_assoc
          out (encoded_formatting_char c.in-Some.ch) rest ∙ ap (λ x. out ++ x) (sym step) ∙ holds.1,
    )

pub returns : goal.returns
returns c =
    let out = string_bytes c.loop-ch.out in
    sym (append-nil out) ∙ ap (λ x. out ++ flat_map encoded_formatting_char x)
    (sym (chars_of_empty _ c.in-None.ensures.steps.0.0)) ∙ c.loop-ch.invariant.1
