use Rattle.uri_ops.proofs.Common.{◌≡◌, true, false, ◌||◌, sym, ap, ◌∙◌, list_any, chars, chars_rest, IsUtf8-past_char, chars_past_char, is_bidi_formatting}
use Rattle.std.proofs.StrCases.{chars_of_empty}
use Rattle.uri_ops.proofs.normalize.formatting.has_formatting_char.Goals as goal

pub returns-then-is_bidi_formatting : goal.returns-then-is_bidi_formatting
returns-then-is_bidi_formatting c =
    let holds = c.loop-ch.invariant in
    let rest = chars_rest c.next.new.self in
    let step = chars_past_char _ _ c.in-Some.ch holds.0 c.in-Some.ensures.steps.0 in
    let found : is_bidi_formatting c.in-Some.ch ≡ true = sym c.is_bidi_formatting.ensures
    ∙ c.if-is_bidi_formatting.true in
    sym (ap (λ b. b || list_any is_bidi_formatting (chars rest)) found)
    ∙ sym (ap (list_any is_bidi_formatting) step) ∙ holds.1

pub loop-ch-preserved : goal.loop-ch-preserved
loop-ch-preserved c =
    let holds = c.loop-ch.invariant in
    let rest = chars_rest c.next.new.self in
    let parts = c.in-Some.ensures.steps.0 in
    let step = chars_past_char _ _ c.in-Some.ch holds.0 parts in
    let other : is_bidi_formatting c.in-Some.ch ≡ false = sym c.is_bidi_formatting.ensures
    ∙ c.if-is_bidi_formatting.false in (
      IsUtf8-past_char _ _ c.in-Some.ch holds.0 parts,
      sym (ap (λ b. b || list_any is_bidi_formatting (chars rest)) other)
          ∙ sym (ap (list_any is_bidi_formatting) step) ∙ holds.1,
    )

pub returns : goal.returns
returns c = sym (ap (list_any is_bidi_formatting) (chars_of_empty _ c.in-None.ensures.steps.0.0))
    ∙ c.loop-ch.invariant.1
