-- An equivalent base and reference have a target with the same normal form, or both pairs have no
-- target.
use Rattle.uri_ops.proofs.Common.{◌≡◌, ℕ, Bool, true, List, refl, sym, ap, subst, ◌∙◌, arith, Result, Ok, Err, IfErr, IsErrAnd, is_ok, result_map_both, false≢true, nat_tests, Components, components, Kind, IsTextOf, HasComponentSets, HasMeaningOf, HasTargetMeaning, IsErrorUnderSetting, IsNormalFormOfTarget, IsTargetOfMeanings, IsErrorOfMeanings, IsNormalTarget, IsNormalTargetError, reference_kind, resolved_meaning, IsNormalForm, Rules, meaning_under, IsTarget, IsErrorFor, IsErrorWithUnderflowAllowed, TargetError, resolution_of, resolution_of_texts, ResolveError, common_steps}
use Rattle.uri_ops.proofs.SchemeRules.RuledTargets.{resolving-respects-meaning}

-- resolving: an underflow that is allowed is no error
pub allowed-underflow-is-no-error : (base r : Components) (error : ResolveError)
    → IsErrorFor true base r error → IsErrorWithUnderflowAllowed base r error
allowed-underflow-is-no-error base r error h = grind (arith, common_steps, h)

-- general fact on results, for errors of resolving: what an error is implies what is known of it
pub if-error-from-error-and : {T E : Type 0} (r : Result T E) (P Q : E → Type 0)
    → ((error : E) → P error → Q error) → IsErrAnd r P → IfErr r Q
if-error-from-error-and (Ok x) P Q f h = tt
if-error-from-error-and (Err error) P Q f h = f error h

-- what a map of both sides says of the two
module _ {A : Type 0} (f : List ℕ → A) where
  abbrev pub mapped : Result (List ℕ) TargetError → Result A TargetError
  mapped r = result_map_both f (λ (refusal : TargetError). refusal) r

  equal-ok-results-have-equal-values : (x y : A) (r : Result A TargetError) → r ≡ Ok x → r
      ≡ Ok y → x ≡ y
  equal-ok-results-have-equal-values x y r d e = cc

  equal-err-results-have-equal-errors : (x y : TargetError) (r : Result A TargetError) → r ≡ Err x
      → r ≡ Err y → x ≡ y
  equal-err-results-have-equal-errors x y r d e = cc

  mapped-result-is-ok-as-result : (x : Result (List ℕ) TargetError) → is_ok (mapped x) ≡ is_ok x
  mapped-result-is-ok-as-result x = grind (arith, common_steps)

  pub equal-mapped-results-are-ok-alike : (x y : Result (List ℕ) TargetError) → mapped x ≡ mapped y
      → is_ok x ≡ is_ok y
  equal-mapped-results-are-ok-alike x y e = sym (mapped-result-is-ok-as-result x) ∙ ap is_ok e
      ∙ mapped-result-is-ok-as-result y

  pub equal-mapped-results-have-equal-targets : (x y : Result (List ℕ) TargetError) (t : List ℕ)
      → mapped x ≡ mapped y → y ≡ Ok t → (u : List ℕ) × ((x ≡ Ok u) × (f u ≡ f t))
  equal-mapped-results-have-equal-targets (Ok u) y t e h =
      (u, (refl, equal-ok-results-have-equal-values (f u) (f t) (mapped y) (sym e) (ap mapped h)))
  equal-mapped-results-have-equal-targets (Err z) y t e h = absurd
      (false≢true (equal-mapped-results-are-ok-alike (Err z) y e ∙ ap is_ok h))

  pub equal-mapped-results-have-equal-errors : (x y : Result (List ℕ) TargetError) (z : TargetError)
      → mapped x ≡ mapped y → y ≡ Err z → x ≡ Err z
  equal-mapped-results-have-equal-errors (Ok u) y z e h = absurd
      (false≢true (sym (equal-mapped-results-are-ok-alike (Ok u) y e ∙ ap is_ok h)))
  equal-mapped-results-have-equal-errors (Err w) y z e h = ap Err
      (equal-err-results-have-equal-errors w z (mapped y) (sym e) (ap mapped h))

-- targets: a text with the same meaning has the same normal form
pub same-meaning-same-normal-form : (kind : Kind) (rules : Rules) (text other normal : List ℕ)
    → meaning_under kind rules other ≡ meaning_under kind rules text
    → IsNormalForm kind rules text normal → IsNormalForm kind rules other normal
same-meaning-same-normal-form kind rules text other normal e h = grind arith

-- resolving: an equivalent base and reference are rejected with the same error;
-- b, r and base, reference: their components
pub same-resolution-error-with-underflow-allowed : (b r base reference : Components)
    (error : ResolveError)
    → ((z : TargetError) → resolution_of base reference ≡ Err z → resolution_of b r ≡ Err z)
    → is_ok (resolution_of b r) ≡ is_ok (resolution_of base reference)
    → IsErrorWithUnderflowAllowed base reference error → IsErrorWithUnderflowAllowed b r error
same-resolution-error-with-underflow-allowed b r base reference error f e h =
    grind (arith, common_steps)

-- resolving: a base and a reference have one target at most
pub resolution-is-unique : (r : Result (List ℕ) TargetError) (t u : List ℕ) → r ≡ Ok t → r ≡ Ok u
    → t ≡ u
resolution-is-unique r t u e f = cc

one-normal-form-of-target : (kind : Kind) (rules : Rules) (base reference n m : List ℕ)
    → IsNormalFormOfTarget kind rules base reference n
    → IsNormalFormOfTarget kind rules base reference m → n ≡ m
one-normal-form-of-target kind rules base reference n m v w =
    cc (resolution-is-unique (resolution_of_texts base reference) v.0 w.0 v.1.0 w.1.0)

-- resolving: an error of equivalent texts is one of the others, under the same setting;
-- allowed: whether underflows are; b, r and base, reference: their components
same-resolution-error-under-setting : (allowed : Bool) (b r base reference : Components)
    (error : ResolveError)
    → ((z : TargetError) → resolution_of base reference ≡ Err z → resolution_of b r ≡ Err z)
    → is_ok (resolution_of b r) ≡ is_ok (resolution_of base reference)
    → IsErrorFor allowed base reference error → IsErrorUnderSetting allowed b r error
same-resolution-error-under-setting allowed b r base reference error f e h =
    grind (
      arith,
      common_steps,
      same-resolution-error-with-underflow-allowed,
      allowed-underflow-is-no-error,
    )

module _ (kind of_reference : Kind) (sets : HasComponentSets kind)
    (needs : kind.needs_scheme ≡ true) (same : of_reference ≡ reference_kind kind)
    (rules : Rules)
    (base reference : List ℕ) (of_base : IsTextOf kind base)
    (of_ref : IsTextOf of_reference reference) where
  equivalent-inputs-resolve-to-same-meaning : (b r : List ℕ) → HasMeaningOf kind rules base b
      → HasMeaningOf of_reference rules reference r
      → resolved_meaning kind rules b r ≡ resolved_meaning kind rules base reference
  equivalent-inputs-resolve-to-same-meaning b r v w =
      let x = subst (λ k. IsTextOf k reference) same of_ref in
      let y = subst (λ k. HasMeaningOf k rules reference r) same w in
      resolving-respects-meaning kind rules sets b base r reference needs v.of_kind of_base
      y.of_kind x
      v.meaning y.meaning

  equivalent-inputs-have-equivalent-targets : (b r target : List ℕ) → HasMeaningOf kind rules base b
      → HasMeaningOf of_reference rules reference r
      → resolution_of (components base) (components reference) ≡ Ok target
      → HasTargetMeaning kind rules b r target
  equivalent-inputs-have-equivalent-targets b r target v w e =
      let t = equal-mapped-results-have-equal-targets (meaning_under kind rules)
      (resolution_of (components b) (components r)) (resolution_of (components base)
      (components reference)) target (equivalent-inputs-resolve-to-same-meaning b r v w) e in
      (t.0, (t.1.0, t.1.1))

  equivalent-inputs-have-same-target-error : (b r : List ℕ) → HasMeaningOf kind rules base b
      → HasMeaningOf of_reference rules reference r → (z : TargetError)
      → resolution_of (components base) (components reference) ≡ Err z
      → resolution_of (components b) (components r) ≡ Err z
  equivalent-inputs-have-same-target-error b r v w z e = equal-mapped-results-have-equal-errors
      (meaning_under kind rules) (resolution_of (components b) (components r))
      (resolution_of (components base) (components reference)) z
      (equivalent-inputs-resolve-to-same-meaning b r v w) e

  equivalent-inputs-resolve-alike : (b r : List ℕ) → HasMeaningOf kind rules base b
      → HasMeaningOf of_reference rules reference r → is_ok (resolution_of (components b)
      (components r)) ≡ is_ok (resolution_of (components base) (components reference))
  equivalent-inputs-resolve-alike b r v w = equal-mapped-results-are-ok-alike
      (meaning_under kind rules) (resolution_of (components b) (components r))
      (resolution_of (components base) (components reference))
      (equivalent-inputs-resolve-to-same-meaning b r v w)

  equivalent-inputs-have-same-resolve-error : (allowed : Bool) (b r : List ℕ) (error : ResolveError)
      → HasMeaningOf kind rules base b → HasMeaningOf of_reference rules reference r
      → IsErrorFor allowed (components base) (components reference) error
      → IsErrorUnderSetting allowed (components b) (components r) error
  equivalent-inputs-have-same-resolve-error allowed b r error v w h =
      same-resolution-error-under-setting allowed
      (components b) (components r) (components base) (components reference) error
      (equivalent-inputs-have-same-target-error b r v w) (equivalent-inputs-resolve-alike b r v w) h

  pub normal-form-of-target-respects-meaning : (target normal : List ℕ)
      → resolution_of (components base) (components reference) ≡ Ok target
      → IsNormalForm kind rules target normal
      → IsNormalTarget kind of_reference rules base reference normal
  normal-form-of-target-respects-meaning target normal e h = record {
    target = (target, (e, h));
    swap = λ b r v w.
        let t = equivalent-inputs-have-equivalent-targets b r target v w e in
        (t.0, (t.1.0, same-meaning-same-normal-form kind rules target t.0 normal t.1.1 h));
    only = λ n w. one-normal-form-of-target kind rules base reference n normal w (target, (e, h));
    same = λ b r n v w u.
        let t = equivalent-inputs-have-equivalent-targets b r target v w e in
        one-normal-form-of-target kind rules b r n normal u
        (t.0, (t.1.0, same-meaning-same-normal-form kind rules target t.0 normal t.1.1 h));
  }

  -- a resolution error is the error for each equivalent base and reference
  pub refusal : (error : ResolveError)
      → IsErrorFor true (components base) (components reference) error
      → IsNormalTargetError kind of_reference rules base reference error
  refusal error e =
      let h = allowed-underflow-is-no-error (components base) (components reference) error e in
      record {
        refusal = h;
        swap = λ b r v w. same-resolution-error-with-underflow-allowed (components b) (components r)
            (components base) (components reference) error (equivalent-inputs-have-same-target-error
            b r v w) (equivalent-inputs-resolve-alike b r v w) h;
      }

-- under any rules
module _ (kind of_reference : Kind) (sets : HasComponentSets kind)
    (needs : kind.needs_scheme ≡ true) (same : of_reference ≡ reference_kind kind) (allowed : Bool)
    (base reference : List ℕ) (of_base : IsTextOf kind base)
    (of_ref : IsTextOf of_reference reference) where
  pub target-respects-meaning : (target : List ℕ)
      → IsTarget allowed (components base) (components reference) target
      → IsTargetOfMeanings kind of_reference base reference target
  target-respects-meaning target h = record {
    alike =
        λ rules b r v w. equivalent-inputs-have-equivalent-targets kind of_reference sets needs same
        rules base reference
        of_base
        of_ref b r target v w h.0;
  }

  pub error-respects-meaning : (error : ResolveError)
      → IsErrorFor allowed (components base) (components reference) error
      → IsErrorOfMeanings allowed kind of_reference base reference error
  error-respects-meaning error h =
      grind (arith, nat_tests, equivalent-inputs-have-same-resolve-error)
