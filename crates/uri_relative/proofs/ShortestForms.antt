-- No reference that leads to a target is shorter than the one that is written, where the base's
-- path has no dot segment: RFC 3986, sections 4.2 and 5.2.2.
use Rattle.uri_relative.proofs.Common.{◌≡◌, ℕ, ◌+◌, ◌≤◌, Bool, true, false, not, List, [], ◌&&◌, ◌||◌, length, refl, sym, ap, ◌∙◌, arith, ⊎_elim, length-append, codes, Option, None, IfNone, is_none, is_some, and_parts, both_ways, cases_Bool, cond-false, cond-true, false≢true, not-true, nat_tests, eq_true_from_IsTrue, none-is-not-some, slash, Components, IsAbemptyPath, has_authority, marked, recompose, starts, Kind, has_colon_in_first_segment, IsAbsolute, is_empty, lacks_dot_segments, remove_dot_segments, dotless_if_absolute, guarded, is_fragment_only, is_opaque, remove-dots-of-dotless, guard-is-removed-as-dot-segment, dotless_if_absolute-is-idempotent, IsUnguarded, NeedsPath, after_path, from_authority, joined_path, Shortest}
use Rattle.uri_relative.proofs.JoinedPaths.{target-path-stays-absolute, nonempty-joined-path-is-absolute}
use Rattle.uri_relative.proofs.Settled.{finish-keeps-rootless-path, path-without-slashes-needs-no-guard}
use Rattle.uri_relative.proofs.Shrinking.{length-of-recompose, no-slashes-without-authority}
use Rattle.uri_relative.proofs.ReferenceForms.{reference-with-scheme-is-no-shorter, IsPathForm, reference-is-of-one-form, length-of-query-and-fragment, equal-ends-have-equal-length, path-form-has-end-or-inherits-query}

module _ (kind : Kind) (b t : Components) where
  -- the target, where its scheme is another
  pub target-is-shortest-for-other-scheme : (b.scheme ≡ t.scheme → ⊥)
      → Shortest kind b t (length (recompose t))
  target-is-shortest-for-other-scheme other o l =
      reference-is-of-one-form kind b t o _ l (reference-with-scheme-is-no-shorter kind b t o l)
      (λ _ _ w. absurd (other w.scheme))
      (λ _ _ w. absurd (other w.scheme))

  -- `#` and on
  pub fragment-form-is-shortest : (n : ℕ) → n ≤ length (marked (codes "#") t.fragment [])
      → Shortest kind b t n
  fragment-form-is-shortest n h o l = reference-is-of-one-form kind b t o _ l (grind (
    arith,
    reference-with-scheme-is-no-shorter,
    length-of-recompose,
    length-of-query-and-fragment,
  ))
      (λ _ _ w. omega (arith, h, w.short, length-of-recompose t, length-of-query-and-fragment t))
      (grind (arith, length-of-recompose, length-of-query-and-fragment))

  -- `?` and on
  pub query-form-is-shortest : (n : ℕ) → n ≤ length (after_path t) → (b.query ≡ t.query → ⊥)
      → Shortest kind b t n
  query-form-is-shortest n h other o l = reference-is-of-one-form kind b t o _ l
      (grind (arith, reference-with-scheme-is-no-shorter, length-of-recompose))
      (λ _ _ w. omega (arith, h, w.short, length-of-recompose t))
      (λ _ _ w. path-form-has-end-or-inherits-query b t o w _ (λ _ _ same. absurd (other same))
      (λ _ _ end. omega (arith, h, length-of-recompose o, equal-ends-have-equal-length t o end))
      (λ _ end. omega (arith, h, length-of-recompose o, equal-ends-have-equal-length t o end)))

  -- the target, where the base is opaque
  accepted-reference-passes-second-test : (a c d : Bool) → a ≡ true → c ≡ false
      → (a && not (c || d)) ≡ false → d ≡ true
  accepted-reference-passes-second-test a c d e f h = grind (arith, false≢true)

  fragment-only-reference-lacks-other-parts : (o : Components) → is_fragment_only o ≡ true
      → (is_none o.authority ≡ true) × (is_empty o.path ≡ true) × (is_none o.query ≡ true)
  fragment-only-reference-lacks-other-parts o e = grind arith

  part-is-not-both-present-and-absent : (a : Option (List ℕ)) → is_some a ≡ true
      → is_none a ≡ true → ⊥
  part-is-not-both-present-and-absent a e f = grind (arith, false≢true)

  pub target-is-shortest-for-opaque-base : is_opaque b ≡ true → NeedsPath b t
      → Shortest kind b t (length (recompose t))
  target-is-shortest-for-opaque-base opaque n o l =
      reference-is-of-one-form kind b t o _ l (reference-with-scheme-is-no-shorter kind b t o l)
      (λ e f _. let p = fragment-only-reference-lacks-other-parts o
      (accepted-reference-passes-second-test (is_opaque b) (is_some o.scheme) (is_fragment_only o)
      opaque e l.taken) in
      absurd (part-is-not-both-present-and-absent o.authority f p.0)) (grind (
        arith,
        fragment-only-reference-lacks-other-parts,
        accepted-reference-passes-second-test,
        none-is-not-some,
        not-true,
        finish-keeps-rootless-path,
      ))

  -- no reference without a path leads to a target that needs a path, if the paths are equal
  empty-path-form-misses-target : (o : Components) → IsPathForm b t o → NeedsPath b t
      → is_opaque b ≡ false → is_empty o.path ≡ true → b.path ≡ t.path → ⊥
  empty-path-form-misses-target o w n opaque empty same =
      grind (arith, path-form-has-end-or-inherits-query, part-is-not-both-present-and-absent)

  -- a target whose path doesn't begin with `/` takes an authority, or all
  path-form-misses-rootless-target : (o : Components) → IsPathForm b t o → IsAbemptyPath b.path
      → NeedsPath b t → is_opaque b ≡ false → starts slash t.path ≡ false → ⊥
  path-form-misses-rootless-target o w rooted n opaque e = ⊎_elim
      (λ empty. ⊎_elim
      (λ none. empty-path-form-misses-target o w n opaque empty
      (sym (ap (λ x. guarded b.authority (dotless_if_absolute x)) (cond-true _ _ _ empty)
      ∙ ap (λ x. guarded b.authority (dotless_if_absolute x)) none ∙ guard_none b.authority
      ∙ sym none)
      ∙ w.path))
      (λ h. both_ways _ e
      (sym (ap (starts slash) (sym (ap (λ x. guarded b.authority (dotless_if_absolute x))
      (cond-true _ _ _ empty)) ∙ w.path)) ∙ target-path-stays-absolute b.authority b.path h))
      rooted)
      (λ some. both_ways _ e (sym (ap (starts slash) w.path)
      ∙ target-path-stays-absolute b.authority (joined_path b.path o.path)
      (nonempty-joined-path-is-absolute b.path o.path rooted some)))
      (cases_Bool (is_empty o.path))
    where
      guard_none : (a : Option (List ℕ)) → guarded a (dotless_if_absolute []) ≡ []
      guard_none a = finish-keeps-rootless-path a [] refl

  pub authority-form-is-shortest : b.scheme ≡ t.scheme → IsAbemptyPath b.path → is_opaque b ≡ false
      → (b.authority ≡ t.authority → NeedsPath b t × (starts slash t.path ≡ false))
      → Shortest kind b t (length (recompose (from_authority t)))
  authority-form-is-shortest s rooted opaque needs o l =
      reference-is-of-one-form kind b t o _ l
      (λ e. omega (arith, reference-with-scheme-is-no-shorter kind b t o l e, from_length t))
      (λ e f w. omega (arith, w.short, network_length t (sym (ap is_some w.authority) ∙ f)))
      (λ e f w. let h = needs w.authority in
      absurd (path-form-misses-rootless-target o w rooted h.0 opaque h.1))
    where
      from_length : (t : Components)
          → length (recompose (from_authority t)) ≤ length (recompose t)
      from_length t = ⊎_elim
          (λ e. let c : Components = record t { scheme = None } in
          omega (
            arith,
            ap (λ d. length (recompose d)) (cond-true (is_some t.authority) c t e),
            length-of-recompose t,
            length-of-recompose c,
          ))
          (λ e. let c : Components = record t { scheme = None } in
          omega (arith, ap (λ d. length (recompose d)) (cond-false (is_some t.authority) c t e)))
          (cases_Bool (is_some t.authority))

      network_length : (t : Components) → is_some t.authority ≡ true
          → length (recompose (from_authority t)) + length (marked [] t.scheme (codes ":"))
          ≤ length (recompose t)
      network_length t e =
          let c : Components = record t { scheme = None } in
          omega (
            arith,
            ap (λ d. length (recompose d)) (cond-true (is_some t.authority) c t e),
            length-of-recompose t,
            length-of-recompose c,
          )

  -- the path form is shortest if no path is shorter that leads from the base's to the target's
  equal-guarded-paths-are-equal-unguarded : (a : Option (List ℕ)) (p q : List ℕ) → IsAbsolute p
      → IsAbsolute q → lacks_dot_segments q ≡ true → guarded a (dotless_if_absolute p) ≡ guarded a q
      → remove_dot_segments p ≡ q
  equal-guarded-paths-are-equal-unguarded a p q h k dotless e =
      let twice : dotless_if_absolute (guarded a (dotless_if_absolute p)) ≡ remove_dot_segments p =
      guard-is-removed-as-dot-segment a (dotless_if_absolute p)
      ∙ dotless_if_absolute-is-idempotent p ∙ cond-true _ _ _ (eq_true_from_IsTrue _ h) in
      let once : dotless_if_absolute (guarded a q) ≡ q =
      grind (arith, guard-is-removed-as-dot-segment, eq_true_from_IsTrue, remove-dots-of-dotless) in
      sym twice ∙ ap dotless_if_absolute e ∙ once

  first-segment-has-no-colon-without-scheme : (a c d : Bool) → a ≡ false → c ≡ false
      → (a || (c || not d)) ≡ true → d ≡ false
  first-segment-has-no-colon-without-scheme a c d e f h = grind (arith, false≢true)

  authority-adds-two-bytes-at-least : (a : Option (List ℕ)) → is_some a ≡ true
      → 2 ≤ length (marked (codes "//") a [])
  authority-adds-two-bytes-at-least a e = grind (arith, false≢true, nat_tests, length-append)

  pub path-form-is-shortest : (path : List ℕ) (n : ℕ) → IsAbemptyPath b.path → is_opaque b ≡ false
      → lacks_dot_segments b.path ≡ true → IfNone b.authority (has_authority b.path ≡ false)
      → NeedsPath b t → starts slash t.path ≡ true → IsUnguarded t path → n ≤ length t.path + 2
      → n + length (after_path t) ≤ length (recompose t) → ((x : List ℕ) → is_empty x ≡ false
      → has_authority x ≡ false → has_colon_in_first_segment x ≡ false
      → remove_dot_segments (joined_path b.path x) ≡ path → n ≤ length x) → (m : ℕ)
      → m ≤ n + length (after_path t) → Shortest kind b t m
  path-form-is-shortest path n rooted opaque dotless none needs absolute u most whole short
      m fits o l =
      reference-is-of-one-form kind b t o _ l
      (λ e. omega (arith, fits, whole, reference-with-scheme-is-no-shorter kind b t o l e))
      (λ e f w. omega (
        arith,
        fits,
        most,
        w.short,
        length-of-recompose t,
        authority-adds-two-bytes-at-least t.authority (sym (ap is_some w.authority) ∙ f),
      ))
      (λ e f w. path-form-has-end-or-inherits-query b t o w _
      (λ empty g q. absurd (ended o w empty))
      (λ empty g end. absurd (ended o w empty))
      (λ some end. omega (
        arith,
        fits,
        length-of-recompose o,
        equal-ends-have-equal-length t o end,
        short o.path some (no-slashes-without-authority o.authority o.path l.split.no_authority f)
            (first-segment-has-no-colon-without-scheme (is_some o.scheme) (is_some o.authority)
            (has_colon_in_first_segment o.path) e f
            (and_parts _ _ l.meets).1)
            (equal-guarded-paths-are-equal-unguarded b.authority (joined_path b.path o.path) path
            (nonempty-joined-path-is-absolute b.path o.path rooted some) u.absolute u.dotless
            (w.path ∙ sym (ap (λ a. guarded a path) w.authority ∙ u.guards))),
      )))
    where
      ended : (o : Components) → IsPathForm b t o → is_empty o.path ≡ true → ⊥
      ended o w empty =
          let joins : guarded b.authority (dotless_if_absolute b.path) ≡ t.path =
          sym (ap (λ x. guarded b.authority (dotless_if_absolute x)) (cond-true _ _ _ empty))
          ∙ w.path in
          ⊎_elim
          (λ h. both_ways _ (sym (ap (starts slash) joins)
          ∙ ap (λ x. starts slash (guarded b.authority (dotless_if_absolute x))) h
          ∙ ap (starts slash) (finish-keeps-rootless-path b.authority [] refl)) absolute)
          (λ h. empty-path-form-misses-target o w needs opaque empty
          (sym (ap (guarded b.authority) (cond-true _ _ _ (eq_true_from_IsTrue _ h)
          ∙ remove-dots-of-dotless b.path h dotless)
          ∙ path-without-slashes-needs-no-guard b.authority b.path none)
          ∙ joins))
          rooted
