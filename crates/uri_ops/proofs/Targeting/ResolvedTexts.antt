-- What is known of a base, a reference and a target where a target is computed.
use Rattle.uri_ops.proofs.Common.{arith, ◌≡◌, ℕ, Bool, true, List, subst, IfErr, IfOk, Ok, Result, IfErr-weaker, IfOk-weaker, IsUtf8, Components, components, Kind, IsOfKind, IsTextOf, HasComponentSets, reference_kind, IsTargetOfMeanings, IsErrorOfMeanings, IsTargetOfEncoded, IsErrorForEncoded, IsTarget, IsErrorFor, ResolveError}
use Rattle.uri_ops.specs.Resolved.{IsResolved}
use Rattle.uri_ops.proofs.AsciiForms.EncodedTargets.{target-is-target-of-encoded, error-is-error-for-encoded}
use Rattle.uri_ops.proofs.Targeting.NormalTargets.{target-respects-meaning, error-respects-meaning}
use Rattle.uri_ops.proofs.Targeting.TargetTexts.{target-is-of-kind-of-base}

-- resolving: equal components have the same target; allowed: whether underflows are
equal-components-have-same-target : (allowed : Bool) (p q b r : Components) (text : List ℕ)
    → p ≡ b → q ≡ r → IsTarget allowed p q text → IsTarget allowed b r text
equal-components-have-same-target allowed p q b r text e f h =
    subst (λ c. IsTarget allowed c r text) e (subst (λ c. IsTarget allowed p c text) f h)

-- resolving: equal components have the same error; allowed: whether underflows are
equal-components-have-same-error : (allowed : Bool) (p q b r : Components) (error : ResolveError)
    → p ≡ b → q ≡ r → IsErrorFor allowed p q error → IsErrorFor allowed b r error
equal-components-have-same-error allowed p q b r error e f h =
    subst (λ c. IsErrorFor allowed c r error) e (subst (λ c. IsErrorFor allowed p c error) f h)

-- texts of a kind: UTF-8 that its grammar describes
text-is-of-kind : (kind : Kind) (text : List ℕ) → IsUtf8 text → IsOfKind kind text
    → IsTextOf kind text
text-is-of-kind kind text u h = record { utf8 = u; grammar = h }

module _ (kind other : Kind) (sets : HasComponentSets kind) (needs : kind.needs_scheme ≡ true)
    (same : other ≡ reference_kind kind) (allowed : Bool) (p q : Components)
    (base reference : List ℕ) (e : p ≡ components base) (f : q ≡ components reference)
    (u : IsUtf8 base) (v : IsUtf8 reference) (of_base : IsOfKind kind base)
    (of_reference : IsOfKind other reference) where
  -- the target is of the base's kind
  pub target-is-text-of-base-kind : (target : List ℕ) → IsTarget allowed p q target
      → IsTextOf kind target
  target-is-text-of-base-kind target h =
      target-is-of-kind-of-base kind sets base reference target needs
      (text-is-of-kind kind base u of_base)
      (subst (λ k. IsTextOf k reference) same (text-is-of-kind other reference v of_reference))
      (equal-components-have-same-target allowed p q (components base) (components reference)
      target e f h).0

  -- what computing a target returns is what resolving returns; text_of: the text of a target
  pub computed-target-is-resolved : {T : Type 0} (result : Result T ResolveError)
      (text_of : T → List ℕ) → IfOk result (λ t. IsTarget allowed p q (text_of t))
      → IfErr result (IsErrorFor allowed p q)
      → IsResolved kind other allowed base reference result text_of
  computed-target-is-resolved result text_of found failed =
      let base_is = text-is-of-kind kind base u of_base in
      let reference_is = text-is-of-kind other reference v of_reference in
      let target = IfOk-weaker result (λ t. IsTarget allowed p q (text_of t))
      (λ t. IsTarget allowed (components base) (components reference) (text_of t))
      (λ t. equal-components-have-same-target allowed p q (components base) (components reference)
      (text_of t) e f) found in
      let error = IfErr-weaker result (IsErrorFor allowed p q) (IsErrorFor allowed
      (components base) (components reference)) (λ x. equal-components-have-same-error allowed p q
      (components base) (components reference) x e f) failed in
      record {
        target = target;
        error = error;
        encoded = IfOk-weaker result _ (λ t. IsTargetOfEncoded allowed base reference (text_of t))
            (λ t. target-is-target-of-encoded allowed base reference (text_of t) u v) target;
        encoded_error = IfErr-weaker result _ (IsErrorForEncoded allowed base reference)
            (λ x. error-is-error-for-encoded allowed base reference x u v) error;
        alike = IfOk-weaker result _ (λ t. IsTargetOfMeanings kind other base reference (text_of t))
            (λ t. target-respects-meaning kind
            other sets needs same allowed base reference base_is reference_is (text_of t)) target;
        alike_error = IfErr-weaker result _ (IsErrorOfMeanings allowed kind other base reference)
            (λ x. error-respects-meaning kind other sets needs same allowed base reference
            base_is reference_is x) error;
      }

pub value-with-text-is-resolved : {T U : Type 0} (kind other : Kind) (allowed : Bool)
    (base reference : List ℕ) (value : T) (returned : U) (text_of : T → List ℕ)
    (text_of_returned : U → List ℕ) → text_of_returned returned ≡ text_of value
    → IsResolved kind other allowed base reference (Ok value) text_of
    → IsResolved kind other allowed base reference (Ok returned) text_of_returned
value-with-text-is-resolved kind other allowed base reference value returned text_of
    text_of_returned same is =
    grind (arith, components)
