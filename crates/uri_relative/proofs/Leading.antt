-- References that lead to a target: RFC 3986, section 5.2.
use Rattle.uri_relative.proofs.Common.{◌≡◌, ℕ, Bool, true, false, not, List, ◌++◌, ◌&&◌, ◌||◌, sym, ap, ◌∙◌, append_assoc, subst, arith, Ok, is_some, IsUtf8, and-false, cond-false, nat_tests, Components, IsSplitOf, components, recompose, Kind, IsOfKind, components-are-split-of-text, recompose-components, kind-that-needs-scheme-has-one, with_final_path, dotless_if_absolute, is_fragment_only, is_opaque, resolution_of, target_of, set-text-from-utf8, set-text-is-valid, path-without-dots-is-set-text, guarded-set-text-is-set-text, settled-text-has-settled-components, IsDotlessTargetOf, IsReferenceTo, LeadsBackToTarget, IsNoLonger, IsRelativeTo, LeadsTo, without_fragment, settled}
use Rattle.uri_parts.proofs.Offered.{only-split-is-components}
use Rattle.uri_ops.specs.ComponentSets.{HasComponentSets}
use Rattle.uri_ops.proofs.Offered.{components-of-utf8-are-utf8}
use Rattle.uri_relative.proofs.Forms.{components-of-kind-meet-rules}
use Rattle.uri_relative.proofs.Returning.{reference-leads-back-to-resolved-target}
use Rattle.uri_relative.proofs.Settled.{final-path-is-idempotent}
use Rattle.uri_relative.proofs.Shrinking.{settled-text-is-no-longer}

-- relativized references: the components (t) of a text of a kind with a scheme are a possible
-- target, if there are no dot segments left to remove
pub dotless-text-is-target : (kind : Kind) (text : List ℕ) (t : Components) → t ≡ components text
    → HasComponentSets kind → kind.needs_scheme ≡ true → IsOfKind kind text
    → with_final_path t ≡ t → IsDotlessTargetOf kind t
dotless-text-is-target kind text t same sets e h =
    subst (λ t. with_final_path t ≡ t → IsDotlessTargetOf kind t) (sym same) (λ done. record {
      sets = sets;
      split = subst (λ s. IsSplitOf s (components text)) (sym (recompose-components text))
          (components-are-split-of-text text);
      meets = h;
      scheme = kind-that-needs-scheme-has-one kind text e h;
      settled = done;
    })

pub components-of-reference-text : (kind : Kind) (prefers : Bool) (base target r : Components)
    → IsReferenceTo kind prefers base target r → components (recompose r) ≡ r
components-of-reference-text kind prefers base target r w = only-split-is-components
    (recompose r) r w.split

-- relativized references: one that is not rejected resolves to the text of its target
resolves : (base r : Components) (t : Components) → target_of base r ≡ t
    → (is_opaque base && not (is_some r.scheme || is_fragment_only r)) ≡ false
    → resolution_of (without_fragment base) r ≡ Ok (recompose t)
resolves base r t e f = cond-false _ _ _ f ∙ ap (λ c. Ok (recompose c)) e

-- relativized references: a target with a scheme resolves to itself, without dot segments
itself : (base t : Components) → is_some t.scheme ≡ true
    → resolution_of (without_fragment base) t ≡ Ok (recompose (with_final_path t))
itself base t e = grind (arith, nat_tests, resolves, and-false)

reference-text-leads-to-target : (kind : Kind) (prefers : Bool) (base target reference : List ℕ)
    → is_some (components target).scheme ≡ true
    → IsReferenceTo kind prefers (components base) (settled target) (components reference)
    → LeadsTo base target reference
reference-text-leads-to-target kind prefers base target reference e w = record {
  leads = resolves (components base) (components reference) (settled target) w.leads w.taken;
  itself = itself (components base) (components target) e;
  below = w.below;
}

-- relativized references: a path and then its query and fragment are appended; old, mid, new: the
-- text before, between and after
pub pushed-path-and-tail-are-appended : (old mid new way tail tail' : List ℕ) → mid ≡ old ++ way
    → new ≡ mid ++ tail → tail ≡ tail' → new ≡ old ++ (way ++ tail')
pushed-path-and-tail-are-appended old mid new way tail tail' e f h =
    f ∙ ap (λ t. t ++ tail) e ∙ append_assoc old way tail ∙ ap (λ t. old ++ (way ++ t)) h

-- relativized references: a text made as the target without removable dot segments has that
-- target's components
pub components-of-settled-text : (text made : List ℕ) → is_some (components text).scheme ≡ true
    → made ≡ recompose (settled text) → components made ≡ settled text
components-of-settled-text text made some e = ap components e
    ∙ settled-text-has-settled-components text some

-- targets to relativize: components (t) of one without removable dot segments have none left
pub settled-components-stay-settled : (text : List ℕ) (t : Components) → t ≡ settled text
    → with_final_path t ≡ t
settled-components-stay-settled text t same =
    ap with_final_path same ∙ final-path-is-idempotent (components text) ∙ sym same

-- targets to relativize: the text of one without removable dot segments is of the kind
pub settled-text-is-of-kind : (kind : Kind) (text : List ℕ) → HasComponentSets kind
    → kind.needs_scheme ≡ true → IsUtf8 text → IsOfKind kind text
    → IsOfKind kind (recompose (settled text))
settled-text-is-of-kind kind text sets e utf8 h =
    let c = components text in
    let some = kind-that-needs-scheme-has-one kind text e h in
    let m = components-of-kind-meet-rules kind c h in
    let path = guarded-set-text-is-set-text kind.path sets.path sets.slash c.authority
    (dotless_if_absolute c.path)
    (path-without-dots-is-set-text kind.path sets.path sets.slash c.path
    (set-text-from-utf8 kind.path c.path (components-of-utf8-are-utf8 text utf8).path m.path)) in
    grind (arith, settled-text-has-settled-components, set-text-is-valid)

pub reference-text-is-reference : (kind : Kind) (prefers : Bool) (base target r : Components)
    (made text : List ℕ) → IsReferenceTo kind prefers base target r → text ≡ recompose r
    → made ≡ text → IsReferenceTo kind prefers base target (components made)
reference-text-is-reference kind prefers base target r made text w e f =
    subst (IsReferenceTo kind prefers base target)
    (sym (ap components (f ∙ e) ∙ components-of-reference-text kind prefers base target r w)) w

-- relativized references: the reference made leads to the target; primed texts are those of the
-- call's clause
pub reference-leads-to-target : (kind : Kind) (prefers : Bool)
    (base target made base' target' made' : List ℕ) → kind.needs_scheme ≡ true
    → IsOfKind kind target → base ≡ base' → target ≡ target' → made' ≡ made
    → IsReferenceTo kind prefers (components base) (settled target) (components made)
    → LeadsTo base' target' made'
reference-leads-to-target kind prefers base target made base' target' made' needs of_kind e f h w =
    subst (λ x. LeadsTo x target' made') e (subst (λ x. LeadsTo base x made') f (subst
    (LeadsTo base target) (sym h) (reference-text-leads-to-target kind prefers base target made
    (kind-that-needs-scheme-has-one kind target needs of_kind) w)))

-- relativized references: if a reference resolves to the target against the base, so does the one
-- made; primed texts are those of the call's clause
pub reference-leads-back-to-target : (kind : Kind) (prefers : Bool)
    (base target made base' target' made' : List ℕ) → kind.needs_scheme ≡ true → IsOfKind kind base
    → IsOfKind kind target → base ≡ base' → target ≡ target' → made' ≡ made
    → IsReferenceTo kind prefers (components base) (settled target) (components made)
    → LeadsBackToTarget base' target' made'
reference-leads-back-to-target kind prefers base target made base' target' made' needs of_base
    of_kind e f h w =
    λ reference resolves. reference-leads-back-to-resolved-target base' reference target' made'
    (subst (λ x. is_some (components x).scheme ≡ true) e
    (kind-that-needs-scheme-has-one kind base needs of_base)) resolves (reference-leads-to-target
    kind prefers base target made base' target' made' needs of_kind e f h w)

-- relativized references: the reference made is no longer than the target, if relative ones are not
-- preferred; primed texts are those of the call's clause
pub reference-is-no-longer-than-target : (kind : Kind) (prefers : Bool) (base : Components)
    (target made target' made' : List ℕ) → prefers ≡ false → target ≡ target' → made' ≡ made
    → IsReferenceTo kind prefers base (settled target) (components made) → IsNoLonger target' made'
reference-is-no-longer-than-target kind prefers base target made target' made' e f h w =
    grind (arith, nat_tests, recompose-components, settled-text-is-no-longer)

-- relativized references: the reference made is relative where the contract says so; primed texts
-- are those of the call's clause
pub reference-is-relative : (kind : Kind) (prefers : Bool)
    (base target made base' target' made' : List ℕ) → base ≡ base' → target ≡ target' → made' ≡ made
    → IsReferenceTo kind prefers (components base) (settled target) (components made)
    → IsRelativeTo (components base') (settled target') (components made')
reference-is-relative kind prefers base target made base' target' made' e f h w =
    grind (arith, nat_tests)
