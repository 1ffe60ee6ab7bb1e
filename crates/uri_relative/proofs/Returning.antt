-- A target leads back to the reference that it was resolved from, or to another that leads there.
use Rattle.uri_relative.proofs.Common.{◌≡◌, ℕ, Bool, true, false, List, sym, ap, ◌∙◌, arith, None, Ok, is_some, None-from-not-is_some, Components, components, recompose, is_opaque_rejection, resolution_of_texts, target_of, ok-result-has-no-opaque-rejection, result_or_target_error, target-text-has-target-components, LeadsTo, without_fragment, settled}
use Rattle.uri_relative.proofs.Settled.{final-path-is-idempotent}

-- relativized references: where base and reference resolve, the base has no fragment; fragment,
-- opaque: whether it has one, is opaque
outcome-without-error-has-no-fragment : (fragment opaque : Bool) (x y : List ℕ)
    → result_or_target_error fragment opaque x ≡ Ok y → fragment ≡ false
unfolding result_or_target_error
outcome-without-error-has-no-fragment fragment opaque x y e = grind (arith, result_or_target_error)

components-without-fragment-stay : (c : Components) → c.fragment ≡ None → without_fragment c ≡ c
components-without-fragment-stay c e = ap (λ f. let b : Components = record c { fragment = f } in b)
    (sym e)

outcome-is-target-of-base-without-fragment : (base reference target : List ℕ)
    → resolution_of_texts base reference ≡ Ok target → (is_some (components base).fragment ≡ false)
    × (recompose (target_of (components base) (components reference)) ≡ target)
unfolding result_or_target_error
outcome-is-target-of-base-without-fragment base reference target e =
    let b = components base in
    let r = components reference in (
      outcome-without-error-has-no-fragment (is_some b.fragment) (is_opaque_rejection b r)
          (recompose (target_of b r)) target e,
      (ok-result-has-no-opaque-rejection (is_some b.fragment) (is_opaque_rejection b r)
          (recompose (target_of b r)) target
          e).1,
    )

-- relativized references: a target that was resolved has no dot segments left to remove
pub resolved-target-is-settled : (base reference target : List ℕ) → is_some (components base).scheme
    ≡ true
    → resolution_of_texts base reference ≡ Ok target → recompose (settled target) ≡ target
resolved-target-is-settled base reference target some e =
    let b = components base in
    let r = components reference in
    let same = (outcome-is-target-of-base-without-fragment base reference target e).1 in
    let parts : components target ≡ target_of b r =
    sym (ap components same) ∙ target-text-has-target-components base reference some in
    grind (arith, final-path-is-idempotent)

pub reference-leads-back-to-resolved-target : (base reference target short : List ℕ)
    → is_some (components base).scheme ≡ true → resolution_of_texts base reference ≡ Ok target
    → LeadsTo base target short → resolution_of_texts base short ≡ Ok target
reference-leads-back-to-resolved-target base reference target short some e w =
    let none = None-from-not-is_some _
    (outcome-is-target-of-base-without-fragment base reference target e).0 in
    grind (arith, components-without-fragment-stay, resolved-target-is-settled)

pub ruleset coming_back = (resolved-target-is-settled, reference-leads-back-to-resolved-target)
