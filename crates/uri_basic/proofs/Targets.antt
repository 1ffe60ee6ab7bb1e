-- The text of a target has the components that were put into it, and is of its base's kind.
use native.Mathlib.Omega.{arith}
use Rattle.uri_basic.proofs.Common.{◌≡◌, ℕ, ◌<◌, List, [], ◌++◌, refl, sym, ap, ◌∙◌, ◌&&◌, ◌↔◌, inr, Bool, true, false, cond, length, subst, ⊎_elim, rules, append_assoc, codes, Option, Some, None, Ok, Err, IfSome, IfNone, is_some, is_none, IsUtf8, list_all, cond_both, cond-false, cond-true, cases_Bool, false≢true, and_from, or_left, is_one_of, Components, IsSplitOf, Lacks, IsAbemptyPath, components, has_authority, recompose, starts, IsOfKind, IsTextOf, Kind, components-are-split-of-text, equal-to-true-is-IsTrue, IsAbsolute, before_last_slash, has_slash, is_empty, last_segment, up_to_last_slash, lacked-delimiters-fail-test, test-of-delimiters-gives-lacks, before_last_slash-passes-test, text-of-kind-has-needed-scheme, option-that-is-some-has-no-none, authority-property-implies-other-if-some, output_of, remove_dot_segments, run, basic_resolution_of_texts, is_ambiguous, merge, target, PathStartsWithDoubleSlash}
use Rattle.std.proofs.lemmas.List.Elements.{All-append}
use Rattle.uri_parts.proofs.Offered.{only-split-is-components}
use Rattle.fluent_uri.specs.Prelude.{HasComponentSets, reference_kind}
use Rattle.uri_ops.proofs.Offered.{empty-text-is-set-text, is_set_text, ArePartsOfKind, components-of-kind-meet-grammar, recomposed-components-are-utf8, text-has-parts-of-kind, set-text-splits, set-texts-join-at-slash}
use Rattle.uri_basic.proofs.Kept.{bytes-of-append-pass, removal-adds-no-delimiter, removal-keeps-absolute, removal-keeps-set-text, text-is-cut-at-last-slash}

-- targets: components with a scheme are split off again when their text is parsed, unless the path
-- would be parsed as an authority
record IsSplittable (c : Components) : Type 0 where
  some : is_some c.scheme ≡ true
  scheme : IfSome c.scheme (λ s. (0 < length s) × Lacks (codes ":/?#") s)
  authority : IfSome c.authority (λ a. Lacks (codes "/?#") a × IsAbemptyPath c.path)
  path : Lacks (codes "?#") c.path
  query : IfSome c.query (λ q. Lacks (codes "#") q)

removal-of-nothing : remove_dot_segments [] ≡ []
unfolding remove_dot_segments output_of run
removal-of-nothing = refl

-- paths: without its dot segments, a path is empty or begins with `/` if it is or does
removal-keeps-rooted : (path : List ℕ) → IsAbemptyPath path
    → IsAbemptyPath (remove_dot_segments path)
removal-keeps-rooted path h = search (rules, removal-of-nothing, removal-keeps-absolute)

-- targets: the merged path after an authority begins with `/`
merged-path-is-absolute : (base : Components) (path : List ℕ) → is_some base.authority ≡ true
    → IsAbemptyPath base.path → IsAbsolute (merge base path)
merged-path-is-absolute base path some h = grind arith

-- paths: the bytes up to the last `/` pass a test that `/` (47) and all pass
bytes-up-to-last-slash-pass : (p : ℕ → Bool) → p 47 ≡ true → (path : List ℕ)
    → list_all p path ≡ true → list_all p (up_to_last_slash path) ≡ true
bytes-up-to-last-slash-pass p slash path e =
    search (rules, cond_both, bytes-of-append-pass, before_last_slash-passes-test, and_from)

merge-adds-no-delimiter : (base : Components) (path : List ℕ) → Lacks (codes "?#") base.path
    → Lacks (codes "?#") path → Lacks (codes "?#") (merge base path)
merge-adds-no-delimiter base path h k = cond_both (is_some base.authority && is_empty base.path)
    (codes "/" ++ path) (up_to_last_slash base.path ++ path) (Lacks (codes "?#"))
    (λ _. All-append (λ c. is_one_of (codes "?#") c ≡ false) (codes "/") path
    (test-of-delimiters-gives-lacks (codes "?#") (codes "/") refl) k)
    (λ _. All-append (λ c. is_one_of (codes "?#") c ≡ false) (up_to_last_slash base.path) path
    (test-of-delimiters-gives-lacks (codes "?#") (up_to_last_slash base.path)
    (bytes-up-to-last-slash-pass _ refl base.path
    (lacked-delimiters-fail-test (codes "?#") base.path h))) k)

-- targets: the components of a target are split off again when its text is parsed, unless its path
-- would be parsed as an authority
target-is-splittable : (b t : List ℕ) (base r : Components) → is_some base.scheme ≡ true
    → IsSplitOf b base → IsSplitOf t r → IsSplittable (target base r)
target-is-splittable b t base r some is_base is_reference =
    cond_both (is_some r.scheme) _ _ IsSplittable
    (λ h. record {
      some = h;
      scheme = is_reference.scheme;
      authority = authority-property-implies-other-if-some r.authority (IsAbemptyPath r.path)
          (IsAbemptyPath (remove_dot_segments r.path)) (removal-keeps-rooted r.path)
          is_reference.authority;
      path = removal-adds-no-delimiter (codes "?#") refl r.path is_reference.path;
      query = is_reference.query;
    })
    (λ h. cond_both (is_some r.authority) _ _ IsSplittable
    (λ h. record {
      some = some;
      scheme = is_base.scheme;
      authority = authority-property-implies-other-if-some r.authority (IsAbemptyPath r.path)
          (IsAbemptyPath (remove_dot_segments r.path)) (removal-keeps-rooted r.path)
          is_reference.authority;
      path = removal-adds-no-delimiter (codes "?#") refl r.path is_reference.path;
      query = is_reference.query;
    })
    (λ h. cond_both (is_empty r.path) _ _ IsSplittable
    (λ h. record {
      some = some;
      scheme = is_base.scheme;
      authority = is_base.authority;
      path = is_base.path;
      query = cond_both (is_some r.query) r.query base.query
          (λ o. IfSome o (λ q. Lacks (codes "#") q)) (λ _. is_reference.query) (λ _. is_base.query);
    })
    (λ h. cond_both (starts 47 r.path) _ _ IsSplittable
    (λ h. record {
      some = some;
      scheme = is_base.scheme;
      authority = authority-property-implies-other-if-some base.authority (IsAbemptyPath base.path)
          (IsAbemptyPath (remove_dot_segments r.path))
          (λ _. inr (removal-keeps-absolute r.path (equal-to-true-is-IsTrue _ h)))
          is_base.authority;
      path = removal-adds-no-delimiter (codes "?#") refl r.path is_reference.path;
      query = is_reference.query;
    })
    (λ h. record {
      some = some;
      scheme = is_base.scheme;
      authority = of_merged base.authority refl;
      path = removal-adds-no-delimiter (codes "?#") refl (merge base r.path)
          (merge-adds-no-delimiter base r.path is_base.path is_reference.path);
      query = is_reference.query;
    }))))
  where
    of_merged : (o : Option (List ℕ)) → base.authority ≡ o
        → IfSome o (λ a. Lacks (codes "/?#") a
        × IsAbemptyPath (remove_dot_segments (merge base r.path)))
    of_merged None e = tt
    of_merged (Some a) e =
        let h = subst (λ o. IfSome o (λ x. Lacks (codes "/?#") x × IsAbemptyPath base.path)) e
        is_base.authority in (
          h.0,
          inr (removal-keeps-absolute (merge base r.path)
              (merged-path-is-absolute base r.path (ap is_some e) h.1)),
        )

unambiguous-path-is-no-authority : (o : Option (List ℕ)) (path : List ℕ)
    → (is_none o && has_authority path) ≡ false → IfNone o (has_authority path ≡ false)
unambiguous-path-is-no-authority o path h = grind arith

-- targets: the components of a target's text are those of the target, if its path is not parsed as
-- an authority (RFC 3986, sections 3.3, 5.2.2 and 5.3)
pub basic-target-has-its-components : (base reference : List ℕ)
    → is_some (components base).scheme ≡ true
    → is_ambiguous (target (components base) (components reference)) ≡ false
    → components (recompose (target (components base) (components reference)))
    ≡ target (components base) (components reference)
basic-target-has-its-components base reference some clear =
    let t = target (components base) (components reference) in
    let fits = target-is-splittable base reference (components base) (components reference) some
    (components-are-split-of-text base) (components-are-split-of-text reference) in
    only-split-is-components (recompose t) t (
    search (rules, option-that-is-some-has-no-none, unambiguous-path-is-no-authority))

module _ (kind : Kind) (sets : HasComponentSets kind) where
  merged-path-is-set-text : (base : Components) (path : List ℕ)
      → is_set_text kind.path base.path ≡ true → is_set_text kind.path path ≡ true
      → is_set_text kind.path (merge base path) ≡ true
  merged-path-is-set-text base path e f = cond_both (is_some base.authority && is_empty base.path)
      (codes "/" ++ path) (up_to_last_slash base.path ++ path) (λ t. is_set_text kind.path t ≡ true)
      (λ _. set-texts-join-at-slash kind.path sets.slash [] path
      (empty-text-is-set-text kind.path) f)
      (λ _. ⊎_elim
      (λ h.
      let cut = text-is-cut-at-last-slash base.path h in
      ap (λ t. is_set_text kind.path (t ++ path)) (cond-true _ _ _ h)
      ∙ ap (is_set_text kind.path) (append_assoc (before_last_slash base.path) (codes "/") path)
      ∙ set-texts-join-at-slash kind.path sets.slash (before_last_slash base.path) path
      (set-text-splits kind.path (before_last_slash base.path) (last_segment base.path)
      (ap (is_set_text kind.path) (sym cut) ∙ e)).0 f)
      (λ h. ap (λ t. is_set_text kind.path (t ++ path)) (cond-false _ _ _ h) ∙ f)
      (cases_Bool (has_slash base.path)))

  target-has-parts-of-kind : (base r : Components) → is_some base.scheme ≡ true
      → ArePartsOfKind kind base → ArePartsOfKind (reference_kind kind) r
      → ArePartsOfKind kind (target base r)
  target-has-parts-of-kind base r some b p = cond_both (is_some r.scheme) _ _ (ArePartsOfKind kind)
      (λ h. record {
        scheme = p.scheme;
        authority = p.authority;
        path = removal-keeps-set-text kind.path sets.slash r.path p.path;
        query = p.query;
        fragment = p.fragment;
        needs = or_left _ _ h;
      })
      (λ h. cond_both (is_some r.authority) _ _ (ArePartsOfKind kind)
      (λ h. record {
        scheme = b.scheme;
        authority = p.authority;
        path = removal-keeps-set-text kind.path sets.slash r.path p.path;
        query = p.query;
        fragment = p.fragment;
        needs = or_left _ _ some;
      })
      (λ h. cond_both (is_empty r.path) _ _ (ArePartsOfKind kind)
      (λ h. record {
        scheme = b.scheme;
        authority = b.authority;
        path = b.path;
        query = cond_both (is_some r.query) r.query base.query
            (λ o. IfSome o (λ q. is_set_text kind.query q ≡ true)) (λ _. p.query) (λ _. b.query);
        fragment = p.fragment;
        needs = or_left _ _ some;
      })
      (λ h. cond_both (starts 47 r.path) _ _ (ArePartsOfKind kind)
      (λ h. record {
        scheme = b.scheme;
        authority = b.authority;
        path = removal-keeps-set-text kind.path sets.slash r.path p.path;
        query = p.query;
        fragment = p.fragment;
        needs = or_left _ _ some;
      })
      (λ h. record {
        scheme = b.scheme;
        authority = b.authority;
        path = removal-keeps-set-text kind.path sets.slash (merge base r.path)
            (merged-path-is-set-text base r.path b.path p.path);
        query = p.query;
        fragment = p.fragment;
        needs = or_left _ _ some;
      }))))

  -- targets: a target is a text of its base's kind, if its path is not parsed as an authority
  basic-target-is-of-kind : (base reference : List ℕ) → kind.needs_scheme ≡ true
      → IsTextOf kind base → IsTextOf (reference_kind kind) reference
      → is_ambiguous (target (components base) (components reference)) ≡ false
      → IsTextOf kind (recompose (target (components base) (components reference)))
  basic-target-is-of-kind base reference needs v w clear =
      let t = target (components base) (components reference) in
      let some = text-of-kind-has-needed-scheme kind base needs v in
      let parts = target-has-parts-of-kind (components base) (components reference) some
      (text-has-parts-of-kind kind base v)
      (text-has-parts-of-kind (reference_kind kind) reference w) in
      record {
        utf8 = recomposed-components-are-utf8 kind t parts;
        grammar = search (rules, basic-target-has-its-components, components-of-kind-meet-grammar);
      }

-- general fact on options, for targets: of two ways one is taken
pub result-by-test : (test : Bool) (text other : List ℕ)
    → cond test (Err PathStartsWithDoubleSlash) (Ok text) ≡ Ok other
    → (test ≡ false) × (text ≡ other)
result-by-test test text other e = grind arith

-- targets: what the basic algorithm returns is a text of its base's kind; the texts are what the
-- code holds of the base and of the reference, in two steps
pub basic-result-is-of-kind : (kind of_reference : Kind) → HasComponentSets kind
    → kind.needs_scheme ≡ true → of_reference ≡ reference_kind kind
    → (b r held_base held_reference base reference : List ℕ) → b ≡ held_base → r ≡ held_reference
    → held_base ≡ base → held_reference ≡ reference → IsUtf8 held_base → IsUtf8 held_reference
    → IsOfKind kind base → IsOfKind of_reference reference → (text : List ℕ)
    → basic_resolution_of_texts b r ≡ Ok text → IsTextOf kind text
basic-result-is-of-kind kind of_reference sets needs tables b r held_base held_reference base
    reference at bt ht hr ub ur kb kr text e =
    let v : IsTextOf kind b = search rules in
    let w : IsTextOf (reference_kind kind) r = search rules in
    let t = target (components b) (components r) in
    let f = result-by-test (is_ambiguous t) (recompose t) text e in
    subst (IsTextOf kind) f.1 (basic-target-is-of-kind kind sets b r needs v w f.0)

rejected-by-test : (test : Bool) (text : List ℕ)
    → cond test (Err PathStartsWithDoubleSlash) (Ok text) ≡ Err PathStartsWithDoubleSlash
    → test ≡ true
rejected-by-test test text e = grind arith

-- targets: what a path with two slashes and no authority is parsed as
ambiguous-target-has-other-components : (t : Components) → is_ambiguous t ≡ true
    → components (recompose t) ≡ t → ⊥
ambiguous-target-has-other-components t e same =
    grind (arith, rules, components-are-split-of-text, false≢true)

-- targets: the basic algorithm rejects a reference exactly if its target has no text
pub rejection_is_of_other_components : (base reference : List ℕ)
    → is_some (components base).scheme ≡ true
    → ((basic_resolution_of_texts base reference ≡ Err PathStartsWithDoubleSlash)
    ↔ ((components (recompose (target (components base) (components reference)))
    ≡ target (components base) (components reference)) → ⊥))
rejection_is_of_other_components base reference some =
    let t = target (components base) (components reference) in (
      λ e. ambiguous-target-has-other-components t
          (rejected-by-test (is_ambiguous t) (recompose t) e),
      λ h. ⊎_elim (λ e. cond-true _ _ _ e)
          (λ e. absurd (h (basic-target-has-its-components base reference some e)))
          (cases_Bool (is_ambiguous t)),
    )
