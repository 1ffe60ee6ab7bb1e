-- What a reference resolves to, against a base, is a function of the meanings of both, under default
-- ports.
use Rattle.uri_ops.proofs.Common.{◌≡◌, ℕ, true, false, not, List, sym, ap, ◌∙◌, ◌&&◌, option_map, arith, codes, Option, Some, IfSome, Result, is_some, is_none, result_map_both, and_cases, cond_both, not-false, nat_tests, print, decode_unreserved, Components, Lacks, starts, IsAbemptyPath, components, recompose, Kind, IsTextOf, components-are-split-of-text, equal-to-true-is-IsTrue, components_of_parts, is_empty, TargetError, is_opaque, is_opaque_rejection, dotted_target, resolution_of_texts, target_of, HasComponentSets, PortFunction, Meaning, components_meaning, meaning_of, normal_components, reference_kind, is_some-option_map, none-is-not-some, common_steps}
use Rattle.uri_ops.proofs.Targeting.Targets.{target-text-has-target-components}
use Rattle.uri_ops.proofs.Meanings.TextParts.{ArePartsOfKind}
use Rattle.uri_ops.proofs.Normal.NormalTexts.{text-has-parts-of-kind}
use Rattle.uri_ops.proofs.Targeting.JoinedMeanings.{with_scheme, target-path-has-meaning-of-joined, joined-normal-components-have-same-meaning, normal-components-are-rejected-alike}
use Rattle.uri_ops.proofs.Targeting.RefusalOrder.{result_or_target_error, map-of-result_or_error, rejected-results-are-equal}
use Rattle.uri_parts.proofs.Offered.{with_scheme as scheme_where_needed}

-- resolving: a target has a scheme, before its dot segments are removed,
-- if the base has one; r: the reference
pub dotted_target-has-scheme-as-base : (base r : Components) → is_some base.scheme ≡ true
    → is_some (dotted_target base r).scheme ≡ true
dotted_target-has-scheme-as-base base r some = grind (arith, nat_tests, cond_both)

-- resolving: a text of a kind that needs a scheme, as a base, has one
pub text-of-kind-has-needed-scheme : (kind : Kind) (b : List ℕ)
    → kind.needs_scheme ≡ true → IsTextOf kind b → is_some (components b).scheme ≡ true
text-of-kind-has-needed-scheme kind b needs w =
    scheme_where_needed kind.needs_scheme _ _ needs (text-has-parts-of-kind kind b w).needs

-- resolving: a base that does not reject a reference with a path,
-- and without a scheme, is not opaque
pub merging-base-is-not-opaque : (base r : Components) → is_opaque_rejection base r ≡ false
    → is_none r.scheme ≡ true → is_empty r.path ≡ false → is_opaque base ≡ false
merging-base-is-not-opaque base r e s p =
    grind (arith, nat_tests, none-is-not-some, not-false, and_cases)

pub base-that-is-not-opaque-has-abempty-path : (authority : Option (List ℕ)) (path : List ℕ)
    → (is_none authority && not (starts 47 path)) ≡ false
    → IfSome authority (λ a. Lacks (codes "/?#") a × IsAbemptyPath path) → IsAbemptyPath path
base-that-is-not-opaque-has-abempty-path authority path e h =
    grind (arith, common_steps, equal-to-true-is-IsTrue, not-false)

-- resolving: what the target of a base and a reference means under default ports alone, or why there
-- is none
abbrev pub resolved_under_ports : Kind → PortFunction → List ℕ → List ℕ → Result Meaning TargetError
resolved_under_ports kind ports base reference = result_map_both
    (meaning_of kind ports) (λ refusal. refusal) (resolution_of_texts base reference)

module _ (kind : Kind) (ports : PortFunction) (sets : HasComponentSets kind) where
  abbrev meaning : Components → Meaning
  meaning p = components_meaning kind ports p

  -- the outcome for a base and a reference, and for their normal texts
  resolution_meaning : Components → Components → Result Meaning TargetError
  resolution_meaning base r = result_or_target_error
      (is_some base.fragment) (is_opaque_rejection base r) (meaning (dotted_target base r))

  resolved_under_ports-is-resolution_meaning : (b t : List ℕ) → is_some (components b).scheme ≡ true
      → resolved_under_ports kind ports b t ≡ resolution_meaning (components b) (components t)
  unfolding resolution_meaning result_or_target_error
  resolved_under_ports-is-resolution_meaning b t some =
      let base = components b in
      let r = components t in
      map-of-result_or_error (meaning_of kind ports)
      (is_some base.fragment) (is_opaque_rejection base r) (recompose (target_of base r))
      ∙ ap (result_or_target_error (is_some base.fragment) (is_opaque_rejection base r))
      (ap meaning (target-text-has-target-components b t some) ∙ target-path-has-meaning-of-joined
      kind sets ports (dotted_target base r) (dotted_target-has-scheme-as-base base r some))

  normal-components-have-same-resolution_meaning : (r base : Components) → is_some base.scheme
      ≡ true → ArePartsOfKind (reference_kind kind) r → ArePartsOfKind kind base
      → IfSome base.authority (λ a. Lacks (codes "/?#") a × IsAbemptyPath base.path)
      → resolution_meaning base r
      ≡ resolution_meaning (normal_components (meaning base)) (normal_components (meaning r))
  unfolding resolution_meaning
  normal-components-have-same-resolution_meaning r base some of_reference = with_scheme
      (λ base. ArePartsOfKind kind base → IfSome base.authority (λ a. Lacks (codes "/?#") a
      × IsAbemptyPath base.path) → resolution_meaning base r
      ≡ resolution_meaning (normal_components (meaning base)) (normal_components (meaning r)))
      (λ b ba bp bq bf of_base cut.
      let base = components_of_parts (Some b) ba bp bq bf in
      let other_base = normal_components (meaning base) in
      let other = normal_components (meaning r) in
      let fragment = is_some-option_map print (option_map (decode_unreserved kind.fragment) bf)
      ∙ is_some-option_map (decode_unreserved kind.fragment) bf in
      let refused = normal-components-are-rejected-alike kind sets ports
      b ba bp bq bf r.scheme r.authority r.path r.query r.fragment of_base.path of_reference.path in
      rejected-results-are-equal (is_some bf) (is_opaque_rejection base r)
      (meaning (dotted_target base r)) (meaning (dotted_target other_base other)) (λ e. sym
      (joined-normal-components-have-same-meaning kind
      sets ports b ba bp bq bf r.scheme r.authority r.path r.query r.fragment of_base of_reference
      (λ s a p. base-that-is-not-opaque-has-abempty-path ba bp
      (merging-base-is-not-opaque base r e s p) cut))) ∙ ap (λ t. result_or_target_error t
      (is_opaque_rejection base r) (meaning (dotted_target other_base other))) (sym fragment)
      ∙ ap (λ t. result_or_target_error (is_some other_base.fragment) t
      (meaning (dotted_target other_base other))) (sym refused)) base some

  resolved_under_ports-is-of-normal-components : (b t : List ℕ) → kind.needs_scheme ≡ true
      → IsTextOf kind b → IsTextOf (reference_kind kind) t → resolved_under_ports kind ports b t
      ≡ resolution_meaning (normal_components (meaning_of kind ports b))
      (normal_components (meaning_of (reference_kind kind) ports t))
  resolved_under_ports-is-of-normal-components b t needs v w =
      let some = text-of-kind-has-needed-scheme kind b needs v in
      resolved_under_ports-is-resolution_meaning b t some
      ∙ normal-components-have-same-resolution_meaning (components t) (components b) some
      (text-has-parts-of-kind (reference_kind kind) t w)
      (text-has-parts-of-kind kind b v) (components-are-split-of-text b).authority

  -- meanings alone decide what comes of it
  pub resolving-respects-meaning_of : (b c t u : List ℕ) → kind.needs_scheme ≡ true → IsTextOf kind b
      → IsTextOf kind c → IsTextOf (reference_kind kind) t → IsTextOf (reference_kind kind) u
      → meaning_of kind ports b ≡ meaning_of kind ports c
      → meaning_of (reference_kind kind) ports t ≡ meaning_of (reference_kind kind) ports u
      → resolved_under_ports kind ports b t ≡ resolved_under_ports kind ports c u
  resolving-respects-meaning_of b c t u needs v w x y e f =
      grind (arith, nat_tests, resolved_under_ports-is-of-normal-components, resolution_meaning)
