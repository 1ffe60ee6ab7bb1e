-- The targets that no reference without a scheme and an authority leads to: RFC 3986, section 5.2.
use Rattle.uri_relative.proofs.Common.{◌≡◌, ℕ, Bool, true, false, not, ◌&&◌, ◌||◌, List, refl, sym, ap, ◌∙◌, ⊎_elim, arith, is_none, is_some, and_parts, both_ways, not-true, or_cases, slash, Components, IsAbemptyPath, components, recompose, starts, equal-to-true-is-IsTrue, IsAbsolute, is_empty, is_opaque, is_opaque_rejection, target_of, ok-result-has-no-opaque-rejection, result_or_target_error, target-text-has-target-components, NeedsSchemeOrAuthority, without_fragment, is_rootless, has_emptied_path, needs_authority, settled, would_inherit_query, joined_path, settled-text-has-settled-components}
use Rattle.uri_relative.proofs.RootedTargets.{base-that-is-not-opaque-is-rooted}
use Rattle.uri_relative.proofs.JoinedPaths.{target-path-stays-absolute, nonempty-joined-path-is-absolute, path-joined-to-absolute-is-absolute}
use Rattle.uri_relative.proofs.ReferenceForms.{IsPathForm, reference-without-authority-is-path-form}

-- relativized references: a path that may be after an authority, and is not empty, begins with `/`
nonempty-abempty-path-is-absolute : (path : List ℕ) → IsAbemptyPath path → is_empty path ≡ false
    → IsAbsolute path
nonempty-abempty-path-is-absolute path e h = grind (arith, both_ways, is_empty)

path-with-slash-is-not-empty : (path : List ℕ) → starts slash path ≡ true → is_empty path ≡ true → ⊥
path-with-slash-is-not-empty path e h = grind arith

-- relativized references: a base that is not opaque, without an authority, has an absolute path; t:
-- the target
base-without-authority-has-absolute-path : (b t : Components) → is_opaque b ≡ false
    → b.authority ≡ t.authority → is_none t.authority ≡ true → IsAbsolute b.path
base-without-authority-has-absolute-path b t opaque a none =
    equal-to-true-is-IsTrue _ (right_of (is_none b.authority) (starts slash b.path) (ap is_none a
    ∙ none) opaque)
  where
    right_of : (x y : Bool) → x ≡ true → (x && not y) ≡ false → y ≡ true
    right_of true true e h = refl
    right_of true false e h = cc
    right_of false y e h = cc

module _ (b t o : Components) (rooted : IsAbemptyPath b.path) (w : IsPathForm b t o) where
  absolute-joined-path-gives-absolute-target : IsAbsolute (joined_path b.path o.path)
      → starts slash t.path ≡ true
  absolute-joined-path-gives-absolute-target h = grind (arith, target-path-stays-absolute)

  path-reference-reaches-no-rootless-target : is_opaque b ≡ false → is_rootless t ≡ true → ⊥
  path-reference-reaches-no-rootless-target opaque e =
      let both = and_parts (is_none t.authority) _ e in
      both_ways _ (not-true _ both.1) (absolute-joined-path-gives-absolute-target
      (path-joined-to-absolute-is-absolute b.path o.path rooted
      (base-without-authority-has-absolute-path b t opaque w.authority both.0)))

  path-reference-does-not-empty-path : has_emptied_path b t ≡ true → ⊥
  path-reference-does-not-empty-path e =
      let all = and_parts (is_some t.authority && is_empty t.path) _ e in
      let both = and_parts (is_some t.authority) _ all.0 in
      path-with-slash-is-not-empty t.path (absolute-joined-path-gives-absolute-target
      (path-joined-to-absolute-is-absolute b.path o.path rooted
      (nonempty-abempty-path-is-absolute b.path rooted (not-true _ all.1)))) both.1

  path-reference-would-not-inherit-query : would_inherit_query b t ≡ true → ⊥
  path-reference-would-not-inherit-query e =
      grind (arith, absolute-joined-path-gives-absolute-target, nonempty-joined-path-is-absolute)

  path-reference-misses-exception : is_opaque b ≡ false → needs_authority b t ≡ true → ⊥
  path-reference-misses-exception opaque e =
      ⊎_elim (path-reference-reaches-no-rootless-target opaque)
      (grind (arith, path-reference-does-not-empty-path, path-reference-would-not-inherit-query))
      (or_cases (is_rootless t) (has_emptied_path b t || would_inherit_query b t) e)

pub target_reference_needs_scheme_or_authority : (base target : List ℕ)
    → is_some (components base).scheme ≡ true → is_some (components target).scheme ≡ true
    → is_opaque (components base) ≡ false
    → needs_authority (components base) (settled target) ≡ true → NeedsSchemeOrAuthority base target
unfolding result_or_target_error
target_reference_needs_scheme_or_authority base target of_base of_target opaque e =
    λ reference s a resolves.
    let b = components base in
    let t = settled target in
    let o = components reference in
    let found = ok-result-has-no-opaque-rejection false (is_opaque_rejection (without_fragment b) o)
    (recompose (target_of (without_fragment b) o)) (recompose t) resolves in
    path-reference-misses-exception b t o (base-that-is-not-opaque-is-rooted base opaque)
    (reference-without-authority-is-path-form b t o
    (sym (target-text-has-target-components base reference of_base) ∙ ap components found.1
    ∙ settled-text-has-settled-components target of_target) (ap is_some s) (ap is_some a)) opaque e
