-- The target of a base and a reference, and that of their normal forms.
use Rattle.std.proofs.Common.{◌≡◌, ◌↔◌, ℕ, List, true, sym, ap, subst, ◌∙◌}
use Rattle.std.specs.Prelude.{Err, Ok, Result, Some}
use Rattle.std.specs.Result.{result_ok}
use Rattle.uri_parts.specs.Components.{components}
use Rattle.uri_parts.specs.Grammar.{Kind, IsTextOf}
use Rattle.uri_ops.specs.ComponentSets.{HasComponentSets}
use Rattle.uri_ops.specs.Normal.{normal_text}
use Rattle.uri_ops.specs.NormalTargets.{reference_kind, resolved_meaning}
use Rattle.uri_ops.specs.Normalizers.{IsNormalForm}
use Rattle.uri_ops.specs.Resolving.{IsErrorWithUnderflowAllowed}
use Rattle.uri_ops.specs.SchemeRules.{Rules, meaning_under}
use Rattle.uri_ops.specs.Target.{resolution_of_texts}
use Rattle.uri_ops.specs.declared.resolve.error.ResolveError.{ResolveError}
use Rattle.uri_ops.proofs.Offered.{equal-mapped-results-are-ok-alike, equal-mapped-results-have-equal-errors, equal-mapped-results-have-equal-targets, mapped, resolution-is-unique, same-resolution-error-with-underflow-allowed, resolving-respects-meaning}
use Rattle.fluent_uri.specs.Targets.{target_of_texts}

-- general fact on results, for targets: what a result has is what it is
result-of-its-value : {A E : Type 0} (r : Result A E) (x : A) → result_ok r ≡ Some x → r ≡ Ok x
result-of-its-value (Ok y) x e = cc
result-of-its-value (Err z) x e = cc

-- targets: two pairs of a base and a reference, of whose targets the function makes the same, or
-- which both have none
module _ {A : Type 0} (f : List ℕ → A) (b r base reference : List ℕ) where
  pub targets-of-pairs-map-alike :
      mapped f (resolution_of_texts b r) ≡ mapped f (resolution_of_texts base reference)
      → (target other : List ℕ) → target_of_texts base reference ≡ Some target
      → target_of_texts b r ≡ Some other → f other ≡ f target
  unfolding target_of_texts
  targets-of-pairs-map-alike alike target other e d =
      let found = equal-mapped-results-have-equal-targets f (resolution_of_texts b r)
      (resolution_of_texts base reference) target alike
      (result-of-its-value (resolution_of_texts base reference) target e) in
      ap f (resolution-is-unique (resolution_of_texts b r) other found.0
      (result-of-its-value (resolution_of_texts b r) other d) found.1.0) ∙ found.1.1

  error-of-pair-is-that-of-other :
      mapped f (resolution_of_texts b r) ≡ mapped f (resolution_of_texts base reference)
      → (error : ResolveError)
      → IsErrorWithUnderflowAllowed (components base) (components reference) error
      → IsErrorWithUnderflowAllowed (components b) (components r) error
  error-of-pair-is-that-of-other alike error h =
      same-resolution-error-with-underflow-allowed (components b) (components r) (components base)
      (components reference) error
      (λ z. equal-mapped-results-have-equal-errors f (resolution_of_texts b r)
      (resolution_of_texts base reference) z alike)
      (equal-mapped-results-are-ok-alike f (resolution_of_texts b r)
      (resolution_of_texts base reference) alike) h

-- targets: both pairs are refused alike
pub pairs-are-refused-alike : {A : Type 0} (f : List ℕ → A) (b r base reference : List ℕ)
    → mapped f (resolution_of_texts b r) ≡ mapped f (resolution_of_texts base reference)
    → (error : ResolveError)
    → (IsErrorWithUnderflowAllowed (components b) (components r) error
    ↔ IsErrorWithUnderflowAllowed (components base) (components reference) error)
pairs-are-refused-alike f b r base reference alike error = (
  error-of-pair-is-that-of-other f base reference b r (sym alike) error,
  error-of-pair-is-that-of-other f b r base reference alike error,
)

module _ (kind of_reference : Kind) (sets : HasComponentSets kind)
    (needs : kind.needs_scheme ≡ true) (same : of_reference ≡ reference_kind kind)
    (base reference b r : List ℕ) (of_base : IsTextOf kind base)
    (of_ref : IsTextOf of_reference reference) where
  pub normal-forms-resolve-to-same-meaning : (rules : Rules)
      → IsNormalForm kind rules base b → IsNormalForm of_reference rules reference r
      → resolved_meaning kind rules b r ≡ resolved_meaning kind rules base reference
  normal-forms-resolve-to-same-meaning rules v w =
      let x = subst (λ k. IsTextOf k reference) same of_ref in
      let y = subst (λ k. IsNormalForm k rules reference r) same w in
      resolving-respects-meaning kind rules sets b base r reference needs v.of_kind of_base
      y.of_kind x v.meaning y.meaning

-- targets: texts with one meaning have one normal form
pub one-meaning-one-normal-form : (kind : Kind) (rules : Rules)
    (text other normal other_normal : List ℕ)
    → meaning_under kind rules other ≡ meaning_under kind rules text
    → IsNormalForm kind rules text normal → IsNormalForm kind rules other other_normal
    → other_normal ≡ normal
one-meaning-one-normal-form kind rules text other normal other_normal e v w =
    w.text.text ∙ ap normal_text e ∙ sym v.text.text
