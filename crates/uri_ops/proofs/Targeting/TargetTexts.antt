-- A target is a text of its base's kind.
use Rattle.uri_ops.proofs.Common.{◌≡◌, ℕ, true, false, List, ap, subst, ◌∙◌, arith, IfSome, Ok, is_some, is_none, IsUtf8, nat_tests, Components, IsAbemptyPath, components, recompose, Kind, is_scheme, is_authority, components_meet_rules, IsTextOf, components-are-split-of-text, is_empty, is_opaque_rejection, dotted_target, dotless_if_absolute, guarded, target_of, resolution_of, HasComponentSets, reference_kind}
use Rattle.uri_ops.proofs.Meanings.AllowedParts.{is_set_text}
use Rattle.uri_ops.proofs.Paths.PathMeanings.{guarded-set-text-is-set-text, path-without-dots-is-set-text}
use Rattle.uri_ops.proofs.Paths.MergedPaths.{merged-set-text-is-set-text}
use Rattle.uri_ops.proofs.Targeting.Targets.{target-text-has-target-components}
use Rattle.uri_ops.proofs.Meanings.TextParts.{ArePartsOfKind, components-of-kind-meet-grammar}
use Rattle.uri_ops.proofs.Normal.NormalTexts.{recomposed-components-are-utf8, text-has-parts-of-kind}
use Rattle.uri_ops.proofs.Targeting.Swaps.{text-of-kind-has-needed-scheme, merging-base-is-not-opaque, base-that-is-not-opaque-has-abempty-path}
use Rattle.uri_ops.proofs.Targeting.RefusalOrder.{result_or_target_error, ok-result-has-no-opaque-rejection}

module _ (kind : Kind) (sets : HasComponentSets kind) where
  -- components with a scheme, each of which meets its rule
  record ArePartsWithScheme (t : Components) : Type 0 where
    some : is_some t.scheme ≡ true
    scheme : IfSome t.scheme (λ s. IsUtf8 s × (is_scheme s ≡ true))
    authority : IfSome t.authority (λ a. IsUtf8 a × (is_authority kind a ≡ true))
    path : is_set_text kind.path t.path ≡ true
    query : IfSome t.query (λ q. is_set_text kind.query q ≡ true)
    fragment : IfSome t.fragment (λ f. is_set_text kind.fragment f ≡ true)

  dotted_target-has-parts-with-scheme : (base r : Components) → is_some base.scheme ≡ true
      → ArePartsOfKind kind base → ArePartsOfKind (reference_kind kind) r
      → (is_none r.scheme ≡ true → is_empty r.path ≡ false → IsAbemptyPath base.path)
      → ArePartsWithScheme (dotted_target base r)
  dotted_target-has-parts-with-scheme base r some b p rooted =
      grind (arith, merged-set-text-is-set-text)

  guarded-dotless-target-is-of-kind : (t : Components) → ArePartsWithScheme t
      → ArePartsOfKind kind (record t { path = guarded t.authority (dotless_if_absolute t.path) })
  guarded-dotless-target-is-of-kind t p =
      grind (arith, nat_tests, guarded-set-text-is-set-text, path-without-dots-is-set-text)

  pub target-is-of-kind-of-base : (b t target : List ℕ) → kind.needs_scheme ≡ true → IsTextOf kind b
      → IsTextOf (reference_kind kind) t → resolution_of (components b) (components t) ≡ Ok target
      → IsTextOf kind target
  unfolding result_or_target_error
  target-is-of-kind-of-base b t target needs v w e =
      let base = components b in
      let r = components t in
      let some = text-of-kind-has-needed-scheme kind b needs v in
      let a = ok-result-has-no-opaque-rejection (is_some base.fragment) (is_opaque_rejection base r)
      (recompose (target_of base r)) target e in
      let parts = guarded-dotless-target-is-of-kind
      (dotted_target base r) (dotted_target-has-parts-with-scheme base r some
      (text-has-parts-of-kind kind b v) (text-has-parts-of-kind (reference_kind kind) t w)
      (λ s p. base-that-is-not-opaque-has-abempty-path base.authority base.path
      (merging-base-is-not-opaque base r a.0 s p) (components-are-split-of-text b).authority)) in
      subst (IsTextOf kind) a.1 (record {
        utf8 = recomposed-components-are-utf8 kind (target_of base r) parts;
        grammar = ap (components_meet_rules kind) (target-text-has-target-components b t some)
            ∙ components-of-kind-meet-grammar kind (target_of base r) parts;
      })
