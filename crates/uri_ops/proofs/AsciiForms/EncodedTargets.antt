-- Without characters past ASCII a base and a reference come to the same target without them.
use Rattle.uri_ops.proofs.Common.{◌≡◌, ℕ, Bool, true, false, List, [], ◌∷◌, ◌++◌, refl, sym, ap, subst, ◌∙◌, ◌&&◌, arith, Option, None, Result, Ok, is_some, is_none, is_ok, result_map_both, list_all, IsUtf8, is_utf8, IsUtf8-append, IsUtf8-nil, IsUtf8-from_is_utf8, is_utf8-from_IsUtf8, cond_both, and_parts, and_from, nat_tests, Components, starts, IsAbemptyPath, components, recompose, components-are-split-of-text, components_of_parts, is_empty, underflows, directory, TargetError, is_opaque_rejection, dotted_target, dotless_if_absolute, guarded, target_of, target_underflows, resolution_of, encode_past_ascii, IsTargetOfEncoded, IsErrorForEncoded, IsTarget, IsErrorFor, ResolveError, is_none-option_map, is_some-option_map, not_some_is_none, common_steps}
use Rattle.uri_ops.proofs.Paths.Segments.{AllPass, appended-segments-pass-test}
use Rattle.uri_ops.proofs.Paths.SlashedSegments.{slashed, directory-by-segments, parent-segments-pass-test}
use Rattle.uri_ops.proofs.Paths.DotLaws.{property-of-absolute-path-by-segments, rooted}
use Rattle.uri_ops.proofs.Paths.DecodedPaths.{utf8-joined-at-slash-is-utf8}
use Rattle.uri_ops.proofs.Meanings.TextParts.{AreUtf8, components-of-utf8-are-utf8}
use Rattle.uri_ops.proofs.Targeting.Swaps.{merging-base-is-not-opaque, base-that-is-not-opaque-has-abempty-path}
use Rattle.uri_ops.proofs.AsciiForms.EncodedPaths.{encoding-of-append-is-append, encoding-keeps-leading-delimiter, encoding-keeps-emptiness, segments-of-utf8-path-are-utf8, encoding-keeps-underflow, directory-and-encoding-swap, dotless_if_absolute-and-encoding-swap, guarding-and-encoding-swap}
use Rattle.uri_ops.proofs.AsciiForms.EncodedComponents.{encoded_components, encoding-and-recomposing-swap, components-of-encoded-text-are-encoded}
use Rattle.uri_ops.proofs.Targeting.RefusalOrder.{result_or_target_error, map-of-result_or_error, rejected-results-are-equal, ok-result-has-no-opaque-rejection}
use Rattle.uri_ops.specs.declared.resolve.error.ResolveError.TheVariants as Of

-- IRIs as URIs, paths: segments in UTF-8, all but the first after a `/`, are UTF-8 together
joined-utf8-segments-are-utf8 : (s : List ℕ) (rest : List (List ℕ)) → AllPass is_utf8 (s ∷ rest)
    → IsUtf8 (s ++ slashed rest)
unfolding slashed
joined-utf8-segments-are-utf8 s [] e = IsUtf8-append s []
    (IsUtf8-from_is_utf8 s (and_parts (is_utf8 s) true e).0) IsUtf8-nil
joined-utf8-segments-are-utf8 s (t ∷ rest) e =
    let p = and_parts (is_utf8 s) (list_all is_utf8 (t ∷ rest)) e in
    utf8-joined-at-slash-is-utf8 s (t ++ slashed rest) (IsUtf8-from_is_utf8 s p.0)
    (joined-utf8-segments-are-utf8 t rest p.1)

-- IRIs as URIs, paths: segments in UTF-8, each after a `/`, are UTF-8
slashed-utf8-segments-are-utf8 : (segs : List (List ℕ)) → AllPass is_utf8 segs
    → IsUtf8 (slashed segs)
unfolding slashed
slashed-utf8-segments-are-utf8 [] e = IsUtf8-nil
slashed-utf8-segments-are-utf8 (s ∷ rest) e = utf8-joined-at-slash-is-utf8 [] (s ++ slashed rest)
    IsUtf8-nil (joined-utf8-segments-are-utf8 s rest e)

-- IRIs as URIs, targets: the directory of a path in UTF-8 is UTF-8
directory-of-utf8-is-utf8 : (path : List ℕ) → IsAbemptyPath path → IsUtf8 path
    → IsUtf8 (directory path)
unfolding directory
directory-of-utf8-is-utf8 = rooted (λ path. IsUtf8 path → IsUtf8 (directory path))
    (λ u. utf8-joined-at-slash-is-utf8 [] [] IsUtf8-nil IsUtf8-nil)
    (property-of-absolute-path-by-segments (λ path. IsUtf8 path → IsUtf8 (directory path))
    (λ s rest f u. subst IsUtf8 (sym (directory-by-segments s rest f))
    (slashed-utf8-segments-are-utf8 _ (appended-segments-pass-test is_utf8 _ ([] ∷ [])
    (parent-segments-pass-test is_utf8 (s ∷ rest) (segments-of-utf8-path-are-utf8 s rest u))
    (and_from _ _ (is_utf8-from_IsUtf8 [] IsUtf8-nil) refl)))))

-- IRIs as URIs: a reference without scheme and authority (p, q, f: its path, query and fragment)
-- has the same target before dot segments are removed, encoded
dotted_target-of-encoded-without-authority : (base : Components) (p : List ℕ) (q f : Option
    (List ℕ)) → AreUtf8 base → (is_empty p ≡ false → IsAbemptyPath base.path) → dotted_target
    (encoded_components base) (encoded_components (components_of_parts None None p q f))
    ≡ encoded_components (dotted_target base (components_of_parts None None p q f))
dotted_target-of-encoded-without-authority base p q f u rooted =
    grind (
      arith,
      encoding-keeps-emptiness,
      encoding-keeps-leading-delimiter,
      directory-and-encoding-swap,
      encoding-of-append-is-append,
      nat_tests,
    )

-- IRIs as URIs: a base and a reference (s, a, p, q, f: its components) have the same target before
-- dot segments are removed, encoded
dotted_target-of-encoded-components : (base : Components) (s a : Option (List ℕ)) (p : List ℕ)
    (q f : Option (List ℕ))
    → AreUtf8 base → (is_none s ≡ true → is_empty p ≡ false → IsAbemptyPath base.path)
    → dotted_target (encoded_components base) (encoded_components (components_of_parts s a p q f))
    ≡ encoded_components (dotted_target base (components_of_parts s a p q f))
dotted_target-of-encoded-components base s a p q f u rooted =
    grind (arith, common_steps, dotted_target-of-encoded-without-authority)

-- IRIs as URIs, targets: the path of a target, before its dot segments are removed, is UTF-8
dotted_target-path-is-utf8 : (base r : Components) → AreUtf8 base → AreUtf8 r → (is_none r.scheme
    ≡ true → is_empty r.path ≡ false → IsAbemptyPath base.path) → IsUtf8 (dotted_target base r).path
dotted_target-path-is-utf8 base r u v rooted =
    cond_both (is_some r.scheme) r _ (λ (t : Components). IsUtf8 t.path) (λ _. v.path)
    (λ s. cond_both (is_some r.authority) _ _ (λ (t : Components). IsUtf8 t.path) (λ _. v.path)
    (λ _. cond_both (is_empty r.path) _ _ (λ (t : Components). IsUtf8 t.path) (λ _. u.path)
    (λ e. cond_both (starts 47 r.path) _ _ (λ (t : Components). IsUtf8 t.path) (λ _. v.path)
    (λ _. IsUtf8-append (directory base.path) r.path
    (directory-of-utf8-is-utf8 base.path (rooted (not_some_is_none r.scheme s) e) u.path) v.path))))

-- IRIs as URIs: the components of a target after its dot segments
-- are removed and its path is guarded
with_guarded_dotless_path : Components → Components
with_guarded_dotless_path t = record t { path = guarded t.authority (dotless_if_absolute t.path) }

-- IRIs as URIs: removing a target's dot segments, guarding its path and encoding it may swap
guarding-dotless-path-and-encoding-swap : (t : Components) → IsUtf8 t.path
    → with_guarded_dotless_path (encoded_components t)
    ≡ encoded_components (with_guarded_dotless_path t)
unfolding with_guarded_dotless_path
guarding-dotless-path-and-encoding-swap t u =
    grind (
      arith,
      dotless_if_absolute-and-encoding-swap,
      guarding-and-encoding-swap,
      is_none-option_map,
    )

-- IRIs as URIs: encoded components resolve to the encoded target; r: the reference
target_of-encoded-components : (base r : Components) → AreUtf8 base → AreUtf8 r
    → (is_none r.scheme ≡ true → is_empty r.path ≡ false → IsAbemptyPath base.path) → target_of
    (encoded_components base) (encoded_components r) ≡ encoded_components (target_of base r)
unfolding with_guarded_dotless_path
target_of-encoded-components base r u v rooted =
    ap with_guarded_dotless_path (dotted_target-of-encoded-components _ _ _ _ _ _ u rooted)
    ∙ guarding-dotless-path-and-encoding-swap _ (dotted_target-path-is-utf8 _ r u v rooted)

-- IRIs as URIs: encoding base and reference (r) doesn't change
-- whether an opaque base rejects the reference
encoding-keeps-opaque-rejection : (base r : Components) → is_opaque_rejection
    (encoded_components base) (encoded_components r) ≡ is_opaque_rejection base r
encoding-keeps-opaque-rejection base r =
    grind (arith, encoding-keeps-leading-delimiter, encoding-keeps-emptiness)

accepting-base-path-is-rooted : (b t : List ℕ)
    → is_opaque_rejection (components b) (components t) ≡ false → is_none (components t).scheme
    ≡ true → is_empty (components t).path ≡ false → IsAbemptyPath (components b).path
accepting-base-path-is-rooted b t e s p = base-that-is-not-opaque-has-abempty-path _ _
    (merging-base-is-not-opaque (components b) (components t) e s p)
    (components-are-split-of-text b).authority

-- IRIs as URIs: resolving and encoding characters past ASCII may swap; b, t: base and reference
pub resolving-and-encoding-swap : (b t : List ℕ) → IsUtf8 b → IsUtf8 t
    → resolution_of (components (encode_past_ascii b)) (components (encode_past_ascii t))
    ≡ result_map_both encode_past_ascii (λ (refusal : TargetError). refusal)
    (resolution_of (components b) (components t))
unfolding result_or_target_error
resolving-and-encoding-swap b t u v =
    let base = components b in
    let r = components t in
    let fragment = is_some-option_map _ _ in
    let opaque = encoding-keeps-opaque-rejection base r in
    let target = λ (e : is_opaque_rejection base r ≡ false).
    ap recompose (target_of-encoded-components _ r (components-of-utf8-are-utf8 b u)
    (components-of-utf8-are-utf8 t v) (accepting-base-path-is-rooted b t e))
    ∙ sym (encoding-and-recomposing-swap _) in
    ap (λ x. resolution_of x (components (encode_past_ascii t)))
    (components-of-encoded-text-are-encoded b u) ∙ ap (λ x. resolution_of
    (encoded_components base) x) (components-of-encoded-text-are-encoded t v) ∙ ap (λ x.
    result_or_target_error x (is_opaque_rejection (encoded_components base) (encoded_components r))
    (recompose (target_of (encoded_components base) (encoded_components r)))) fragment
    ∙ ap (λ x. result_or_target_error (is_some base.fragment) x
    (recompose (target_of (encoded_components base) (encoded_components r)))) opaque
    ∙ rejected-results-are-equal _ _ _ _ target ∙ sym (map-of-result_or_error _ _ _ _)

encoding-keeps-absolute-path-underflow : (path : List ℕ) → IsUtf8 path
    → (starts 47 (encode_past_ascii path) && underflows (encode_past_ascii path))
    ≡ (starts 47 path && underflows path)
encoding-keeps-absolute-path-underflow path u =
    grind (arith, encoding-keeps-leading-delimiter, encoding-keeps-underflow)

-- IRIs as URIs: a target underflows exactly if the encoded target does; b, t: base and reference
pub encoding-keeps-target-underflow : (b t target : List ℕ) → IsUtf8 b → IsUtf8 t
    → resolution_of (components b) (components t) ≡ Ok target
    → target_underflows (components (encode_past_ascii b)) (components (encode_past_ascii t))
    ≡ target_underflows (components b) (components t)
unfolding result_or_target_error
encoding-keeps-target-underflow b t target u v e =
    let base = components b in
    let r = components t in
    let a = ok-result-has-no-opaque-rejection _ _ _ _ e in
    let merge = accepting-base-path-is-rooted b t a.0 in
    ap (λ x. target_underflows x (components (encode_past_ascii t)))
    (components-of-encoded-text-are-encoded b u) ∙ ap (λ x. target_underflows
    (encoded_components base) x) (components-of-encoded-text-are-encoded t v)
    ∙ ap (λ (x : Components). starts 47 x.path && underflows x.path)
    (dotted_target-of-encoded-components _ _ _ _ _ _ (components-of-utf8-are-utf8 b u) merge)
    ∙ encoding-keeps-absolute-path-underflow _ (dotted_target-path-is-utf8 _ r
    (components-of-utf8-are-utf8 b u) (components-of-utf8-are-utf8 t v) merge)

-- IRIs as URIs: a target, encoded, is the target of the encoded base and reference; b, t: these two
pub target-is-target-of-encoded : (allowed : Bool) (b t target : List ℕ) → IsUtf8 b → IsUtf8 t
    → IsTarget allowed (components b) (components t) target → IsTargetOfEncoded allowed b t target
target-is-target-of-encoded allowed b t target u v h = (
  resolving-and-encoding-swap b t u v
      ∙ ap (result_map_both encode_past_ascii (λ (refusal : TargetError). refusal)) h.0,
  λ no. encoding-keeps-target-underflow b t target u v h.0 ∙ h.1 no,
)

ok-result-has-target : (r : Result (List ℕ) TargetError) → is_ok r ≡ true → (target : List ℕ)
    × (r ≡ Ok target)
ok-result-has-target r e = grind (arith, common_steps)

-- IRIs as URIs: resolving returns a target exactly if it does for the encoded texts
encoding-keeps-whether-ok : (r : Result (List ℕ) TargetError)
    → is_ok (result_map_both encode_past_ascii (λ (refusal : TargetError). refusal) r) ≡ is_ok r
encoding-keeps-whether-ok r = grind (arith, common_steps)

-- IRIs as URIs: an error of resolving is the error for the encoded texts; allowed: whether
-- underflows are; b, t: base and reference
pub error-is-error-for-encoded : (allowed : Bool) (b t : List ℕ) (error : ResolveError)
    → IsUtf8 b → IsUtf8 t
    → IsErrorFor allowed (components b) (components t) error → IsErrorForEncoded allowed b t error
error-is-error-for-encoded allowed b t Of.BaseWithFragment u v h =
    grind (arith, nat_tests, resolving-and-encoding-swap)
error-is-error-for-encoded allowed b t Of.InvalidReferenceAgainstOpaqueBase u v h =
    grind (arith, nat_tests, resolving-and-encoding-swap)
error-is-error-for-encoded allowed b t Of.PathUnderflow u v h =
    let target = ok-result-has-target _ h.0 in (
      ap is_ok (resolving-and-encoding-swap b t u v) ∙ encoding-keeps-whether-ok _ ∙ h.0,
      h.1,
      encoding-keeps-target-underflow b t _ u v target.1 ∙ h.2,
    )
error-is-error-for-encoded allowed b t Of.OutOfMemory u v h =
    grind (arith, nat_tests, resolving-and-encoding-swap, encoding-keeps-whether-ok)
