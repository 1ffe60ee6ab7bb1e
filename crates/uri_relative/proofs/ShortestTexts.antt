-- No text of a reference that leads to a target is shorter than the one that is written.
use Rattle.uri_relative.proofs.Common.{◌≡◌, ℕ, Bool, true, false, List, length, sym, ap, ◌∙◌, subst, arith, is_some, IsSplitOf, components, recompose, IsOfKind, Kind, components-are-split-of-text, recompose-components, is_opaque_rejection, target_of, ok-result-has-no-opaque-rejection, result_or_target_error, target-text-has-target-components, IsReferenceTo, without_fragment, settled, IsShortest, kind-that-needs-scheme-has-one, settled-text-has-settled-components}

-- relativized references: the text made is the shortest that leads to the target, if relative ones
-- are not preferred
reference-text-is-shortest : (kind : Kind) (prefers : Bool) (base target made : List ℕ)
    → is_some (components base).scheme ≡ true → is_some (components target).scheme ≡ true
    → prefers ≡ false
    → IsReferenceTo kind prefers (components base) (settled target) (components made)
    → IsShortest kind base target made
unfolding result_or_target_error
reference-text-is-shortest kind prefers base target made of_base of_target e w =
    λ dotless other of_kind resolves.
    let b = components base in
    let o = components other in
    let a = ok-result-has-no-opaque-rejection false (is_opaque_rejection (without_fragment b) o)
    (recompose (target_of (without_fragment b) o)) (recompose (settled target)) resolves in
    let n = w.shortest e dotless o (record {
      split = subst (λ t. IsSplitOf t o) (sym (recompose-components other))
          (components-are-split-of-text other);
      meets = of_kind;
      leads = sym (target-text-has-target-components base other of_base) ∙ ap components a.1
          ∙ settled-text-has-settled-components target of_target;
      taken = a.0;
    }) in
    omega (arith, n, ap length (recompose-components made), ap length (recompose-components other))

-- relativized references: none is shorter than the one made; primed texts are those of the call's
-- clause
pub reference-is-shortest : (kind : Kind) (prefers : Bool)
    (base target made base' target' made' : List ℕ) → kind.needs_scheme ≡ true → IsOfKind kind base
    → IsOfKind kind target → base ≡ base' → target ≡ target' → made' ≡ made → prefers ≡ false
    → IsReferenceTo kind prefers (components base) (settled target) (components made)
    → IsShortest kind base' target' made'
reference-is-shortest kind prefers base target made base' target' made' needs of_base of_target e f
    h p w =
    grind (arith, reference-text-is-shortest, kind-that-needs-scheme-has-one)
