-- A text that is the normal text of a text of the kind.
use Rattle.uri_ops.proofs.Common.{arith, ◌≡◌, List, ℕ, sym, ap, subst, ◌∙◌, ◌↔◌, IsUtf8, Kind, IsOfKind, IsTextOf, HasComponentSets, normal_text, HasNormalText, IsNormalForm, Rules, meaning_under}
use Rattle.uri_ops.proofs.SchemeRules.RuledTexts.{normal-text-under-rules-is-text-of-kind, meaning_under-normal_text, same-normal-text-same-meaning}

module _ (kind own : Kind) (own_kind : own ≡ kind) (sets : HasComponentSets kind)
    (rules : Rules)
    (given text normal : List ℕ) (same : given ≡ text) (utf8 : IsUtf8 given)
    (grammar : IsOfKind kind text) (made : HasNormalText own rules given normal) where
  source-text-is-of-kind : IsTextOf kind text
  source-text-is-of-kind = record { utf8 = subst IsUtf8 same utf8; grammar = grammar }

  result-is-normal_text : normal ≡ normal_text (meaning_under kind rules text)
  result-is-normal_text = made.text ∙ ap (λ k. normal_text (meaning_under k rules given)) own_kind
      ∙ ap (λ t. normal_text (meaning_under kind rules t)) same

  pub normal-text-is-of-kind : IsTextOf kind normal
  normal-text-is-of-kind = subst (IsTextOf kind) (sym result-is-normal_text)
      (normal-text-under-rules-is-text-of-kind kind rules sets text source-text-is-of-kind)

  normal-text-keeps-meaning : meaning_under kind rules normal ≡ meaning_under kind rules text
  normal-text-keeps-meaning = ap (meaning_under kind rules) result-is-normal_text
      ∙ meaning_under-normal_text kind rules sets text source-text-is-of-kind

  same-normal-text-if-same-meaning : (other : List ℕ) → IsTextOf kind other
      → (normal ≡ normal_text (meaning_under kind rules other) ↔ meaning_under kind rules text
      ≡ meaning_under kind rules other)
  same-normal-text-if-same-meaning other w =
      grind (arith, same-normal-text-same-meaning, source-text-is-of-kind, result-is-normal_text)

  pub normal-text-is-normal-form : IsNormalForm kind rules text normal
  normal-text-is-normal-form =
      grind (
        arith,
        normal-text-is-of-kind,
        normal-text-keeps-meaning,
        same-normal-text-if-same-meaning,
      )
