-- Resolving respects equivalence under the rules of schemes, so resolving and normalising swap.
use Rattle.uri_ops.proofs.Common.{arith, ◌≡◌, ℕ, Bool, true, List, sym, ap, ◌∙◌, ◌||◌, Option, Some, None, is_some, Result, result_map_both, and-false, Components, components, recompose, Kind, IsTextOf, HasComponentSets, directory, Meaning, components_meaning, meaning_of, normal_text, reference_kind, resolved_meaning, TargetError, is_opaque_rejection, is_fragment_only, dotted_target, target_of, components_of_parts, Rules, meaning_under, under_rules, ruled_components, ruled_path, ruled_text, common_steps}
use Rattle.uri_ops.proofs.Meanings.AllowedParts.{is_set_text}
use Rattle.uri_ops.proofs.Normal.NormalTexts.{text-has-parts-of-kind}
use Rattle.uri_ops.proofs.Targeting.JoinedMeanings.{target-path-has-meaning-of-joined, reference-kind-has-component-sets}
use Rattle.uri_ops.proofs.Targeting.RefusalOrder.{result_or_target_error, map-of-result_or_error}
use Rattle.uri_ops.proofs.Targeting.Swaps.{resolving-respects-meaning_of, text-of-kind-has-needed-scheme, dotted_target-has-scheme-as-base}
use Rattle.uri_ops.proofs.Targeting.Targets.{target-text-has-target-components}
use Rattle.uri_ops.proofs.SchemeRules.RuledTexts.{components-without-scheme-are-ruled, ruled_components-have-meaning-under, normal-text-under-rules-is-text-of-kind, components-of-ruled_text, path-without-authority-is-ruled, ruled-text-is-text-of-kind, ruled-text-has-meaning-under, meaning_under-normal_text}
use Rattle.uri_ops.proofs.SchemeRules.RuledMeanings.{under_rules-is-idempotent}

ruled-path-has-same-directory : (rooted after : Bool) (path : List ℕ)
    → directory (ruled_path rooted after path) ≡ directory path
unfolding directory
ruled-path-has-same-directory rooted after path = grind (arith, common_steps, and-false)

-- resolving under rules: a ruled reference is accepted by opaque bases if it was
ruled-reference-passes-alike : (kind : Kind) (rules : Rules) (scheme authority : Option (List ℕ))
    (path : List ℕ) (query fragment : Option (List ℕ))
    → (let r = components_of_parts scheme authority path query fragment in
    let s = ruled_components kind rules r in
    (is_some s.scheme || is_fragment_only s) ≡ (is_some r.scheme || is_fragment_only r))
ruled-reference-passes-alike kind rules scheme authority path query fragment =
    grind (arith, common_steps, components-without-scheme-are-ruled)

-- general fact on results, for resolving under rules: a target is mapped twice
map-of-map : {A B C : Type 0} (f : B → C) (g : A → B) (x : Result A TargetError)
    → result_map_both (λ a. f (g a)) (λ (refusal : TargetError). refusal) x ≡ result_map_both f
    (λ (refusal : TargetError). refusal) (result_map_both g (λ (refusal : TargetError). refusal) x)
map-of-map f g x = grind (arith, common_steps)

module _ (kind : Kind) (rules : Rules) (sets : HasComponentSets kind) where
  abbrev meaning : Components → Meaning
  meaning p = components_meaning kind rules.ports p

  -- what ruled components mean, under the rules
  abbrev under : Components → Meaning
  under p = under_rules rules (meaning p)

  ruled-components-mean-same-under : (p : Components) → is_set_text kind.path p.path ≡ true
      → under (ruled_components kind rules p) ≡ under p
  ruled-components-mean-same-under p valid =
      grind (arith, ruled_components-have-meaning-under, under_rules-is-idempotent)

  -- ruled components of a base and a reference have an equivalent target
  ruled-targets-mean-same : (base : Components) (scheme authority : Option (List ℕ))
      (path : List ℕ) (query fragment : Option (List ℕ)) → is_set_text kind.path base.path ≡ true
      → is_set_text kind.path path ≡ true → under (dotted_target (ruled_components kind rules base)
      (ruled_components kind rules (components_of_parts scheme authority path query fragment)))
      ≡ under (dotted_target base (components_of_parts scheme authority path query fragment))
  ruled-targets-mean-same base (Some s) authority path query fragment valid h =
      ruled-components-mean-same-under
      (components_of_parts (Some s) authority path query fragment) h
  ruled-targets-mean-same base None (Some a) path query fragment valid h =
      cc (components-without-scheme-are-ruled kind rules (Some a) path query fragment)
  ruled-targets-mean-same base None None path query fragment valid h =
      grind (arith, ruled-components-mean-same-under, ruled-path-has-same-directory)

  -- the outcome for a base and a reference, by their components
  resolution_under : Components → Components → Result Meaning TargetError
  resolution_under base r = result_or_target_error (is_some base.fragment)
      (is_opaque_rejection base r) (under (dotted_target base r))

  resolved_meaning-is-resolution_under : (b t : List ℕ) → is_some (components b).scheme ≡ true
      → resolved_meaning kind rules b t ≡ resolution_under (components b) (components t)
  unfolding resolution_under result_or_target_error
  resolved_meaning-is-resolution_under b t some =
      let base = components b in
      let r = components t in
      map-of-result_or_error (meaning_under kind rules) (is_some base.fragment)
      (is_opaque_rejection base r) (recompose (target_of base r))
      ∙ ap (result_or_target_error (is_some base.fragment) (is_opaque_rejection base r))
      (ap under (target-text-has-target-components b t some)
      ∙ ap (under_rules rules) (target-path-has-meaning-of-joined kind sets rules.ports
      (dotted_target base r) (dotted_target-has-scheme-as-base base r some)))

  ruled-components-have-same-resolution : (base r : Components)
      → is_set_text kind.path base.path ≡ true → is_set_text kind.path r.path ≡ true
      → resolution_under (ruled_components kind rules base) (ruled_components kind rules r)
      ≡ resolution_under base r
  unfolding resolution_under
  ruled-components-have-same-resolution base r valid h =
      grind (
        arith,
        path-without-authority-is-ruled,
        common_steps,
        ruled-reference-passes-alike,
        ruled-targets-mean-same,
      )

  -- so do the ruled texts
  ruled-texts-resolve-to-same-meaning : (b t : List ℕ) → kind.needs_scheme ≡ true → IsTextOf kind b
      → IsTextOf (reference_kind kind) t → resolved_meaning kind rules (ruled_text kind rules b)
      (ruled_text (reference_kind kind) rules t) ≡ resolved_meaning kind rules b t
  ruled-texts-resolve-to-same-meaning b t needs v w =
      let some = text-of-kind-has-needed-scheme kind b needs v in
      let sb = ruled_text kind rules b in
      resolved_meaning-is-resolution_under sb
      (ruled_text (reference_kind kind) rules t) (text-of-kind-has-needed-scheme kind sb needs
      (ruled-text-is-text-of-kind kind rules sets b v))
      ∙ ap (λ p. resolution_under p (components (ruled_text (reference_kind kind) rules t)))
      (components-of-ruled_text kind rules sets b)
      ∙ ap (resolution_under (ruled_components kind rules (components b))) (components-of-ruled_text
      (reference_kind kind) rules (reference-kind-has-component-sets kind sets rules.ports) t)
      ∙ ruled-components-have-same-resolution (components b) (components t)
      (text-has-parts-of-kind kind b v).path (text-has-parts-of-kind (reference_kind kind) t w).path
      ∙ sym (resolved_meaning-is-resolution_under b t some)

  -- meanings under the rules alone decide what comes of it
  pub resolving-respects-meaning : (b c t u : List ℕ) → kind.needs_scheme ≡ true
      → IsTextOf kind b → IsTextOf kind c → IsTextOf (reference_kind kind) t
      → IsTextOf (reference_kind kind) u → meaning_under kind rules b ≡ meaning_under kind rules c
      → meaning_under (reference_kind kind) rules t ≡ meaning_under (reference_kind kind) rules u
      → resolved_meaning kind rules b t ≡ resolved_meaning kind rules c u
  resolving-respects-meaning b c t u needs v w x y e f =
      let of_reference = reference_kind kind in
      let reference_sets = reference-kind-has-component-sets kind sets rules.ports in
      let sb = ruled_text kind rules b in
      let sc = ruled_text kind rules c in
      let st = ruled_text of_reference rules t in
      let su = ruled_text of_reference rules u in
      sym (ruled-texts-resolve-to-same-meaning b t needs v x)
      ∙ map-of-map (under_rules rules) (meaning_of kind rules.ports) _
      ∙ ap (result_map_both (under_rules rules) (λ (refusal : TargetError). refusal))
      (resolving-respects-meaning_of kind rules.ports sets sb sc st su needs
      (ruled-text-is-text-of-kind kind rules sets b v)
      (ruled-text-is-text-of-kind kind rules sets c w) (ruled-text-is-text-of-kind of_reference
      rules reference_sets t x) (ruled-text-is-text-of-kind of_reference rules reference_sets u y)
      (ruled-text-has-meaning-under kind rules sets b v
      ∙ e ∙ sym (ruled-text-has-meaning-under kind rules sets c w))
      (ruled-text-has-meaning-under of_reference rules reference_sets t x
      ∙ f ∙ sym (ruled-text-has-meaning-under of_reference rules reference_sets u y)))
      ∙ sym (map-of-map (under_rules rules) (meaning_of kind rules.ports) _)
      ∙ ruled-texts-resolve-to-same-meaning c u needs w y

  -- the normal texts of a base and a reference resolve to the same meaning
  pub normal-texts-resolve-to-same-meaning : (b t : List ℕ)
      → kind.needs_scheme ≡ true → IsTextOf kind b → IsTextOf (reference_kind kind) t
      → resolved_meaning kind rules (normal_text (meaning_under kind rules b))
      (normal_text (meaning_under (reference_kind kind) rules t)) ≡ resolved_meaning kind rules b t
  normal-texts-resolve-to-same-meaning b t needs v w =
      let of_reference = reference_kind kind in
      let reference_sets = reference-kind-has-component-sets kind sets rules.ports in
      resolving-respects-meaning (normal_text (meaning_under kind rules b)) b
      (normal_text (meaning_under of_reference rules t)) t needs
      (normal-text-under-rules-is-text-of-kind kind rules sets b v) v
      (normal-text-under-rules-is-text-of-kind of_reference rules reference_sets t w) w
      (meaning_under-normal_text kind rules sets b v)
      (meaning_under-normal_text of_reference rules reference_sets t w)
