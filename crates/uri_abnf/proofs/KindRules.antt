-- What is derived by the rules is what the kinds ask of a text and its components.
use Rattle.uri_abnf.proofs.Common.{◌≡◌, ℕ, false, List, [], ◌++◌, refl, sym, subst, inl, inr, ⊎_elim, ◌<◌, length, arith, ◌⊎◌, ◌↔◌, Option, None, Some, codes, IfSome, IfNone, IsSome, IsUtf8, and_parts, scheme_set, IfSome-weaken, Components, IsSplitOf, Lacks, marked, IsAbemptyPath, components, has_authority, has_scheme, Kind, has_colon_in_first_segment, valid_text_lacks_excluded_marks, IsOf, Rules, IsDerived, path_rule, unrooted_path_rule, scheme}
use Rattle.uri_parts.specs.GrammarInWords.{HasAuthorityParts, FollowsRules}
use Rattle.uri_parts.proofs.Offered.{IsEmptyOrMarked, only-split-is-components}
use Rattle.uri_ops.proofs.Offered.{no_scheme, AreUtf8, components-of-utf8-are-utf8}
use Rattle.uri_abnf.proofs.Authorities.{authority-derives, derived-is-authority, authority-lacks, derived-authority-follows, following-authority-derives}
use Rattle.uri_abnf.proofs.Derivations.{reference-derives, derived-is-reference}
use Rattle.uri_abnf.proofs.Rules.{Fit, IsText}
use Rattle.uri_abnf.proofs.Schemes.{scheme-gives, scheme-is-had}

module _ (r : Rules) (kind : Kind) (w : Fit r kind) where
  -- what the kind asks of a path, by the scheme and the authority before it
  record IsPathOf (s a : Option (List ℕ)) (path : List ℕ) : Type 0 where
    text : IsText kind.path path
    abempty : IfSome a (λ x. IsAbemptyPath path)
    no_authority : IfNone a (has_authority path ≡ false)
    no_colon : IsSome s ⊎ (IsSome a ⊎ (has_colon_in_first_segment path ≡ false))

  path-rule-gives : (s a : Option (List ℕ)) (path : List ℕ)
      → IsOf (path_rule r (unrooted_path_rule r s) a) path → IsPathOf s a path
  path-rule-gives s (Some x) path l = grind arith
  path-rule-gives (Some y) None path l = grind arith
  path-rule-gives None None path l = grind arith

  path-rule-has : (s a : Option (List ℕ)) (path : List ℕ) → IsPathOf s a path
      → IsOf (path_rule r (unrooted_path_rule r s) a) path
  path-rule-has s (Some x) path p = (w.abempty path).1 (p.text, p.abempty)
  path-rule-has (Some y) None path p = (w.rootless path).1 (p.text, p.no_authority)
  path-rule-has None None path p = grind arith

  scheme-lacks : (s : List ℕ) → IsOf scheme s → (0 < length s) × Lacks (codes ":/?#") s
  scheme-lacks s l =
      let g = scheme-gives s l in (
        g.1,
        valid_text_lacks_excluded_marks scheme_set (codes ":/?#") refl refl s l.utf8
            (and_parts _ _ g.0).1,
      )

  query-lacks : (q : List ℕ) → IsOf r.query q → Lacks (codes "#") q
  query-lacks q l = valid_text_lacks_excluded_marks kind.query (codes "#") w.query_percent
      w.query_marks q l.utf8 ((w.query q).0 l).1

  path-lacks : (p : List ℕ) → IsText kind.path p → Lacks (codes "?#") p
  path-lacks p v = valid_text_lacks_excluded_marks kind.path (codes "?#") w.path_percent
      w.path_marks p v.0 v.1

  no-scheme : (s a : Option (List ℕ)) (path tail : List ℕ) → IsPathOf s a path
      → IsEmptyOrMarked (codes "?#") tail → IfNone s
      (has_scheme (marked [] s (codes ":") ++ (marked (codes "//") a [] ++ (path ++ tail))) ≡ false)
  no-scheme (Some y) a path tail p e = tt
  no-scheme None (Some x) path tail p e = refl
  no-scheme None None path tail p e = grind (arith, no_scheme)

  -- the components of a derivation are a split of the text
  derived-is-split : (t : List ℕ) (p : Components) → IsDerived r t p → IsSplitOf t p
  derived-is-split t p d =
      let path = path-rule-gives p.scheme p.authority p.path d.path in
      record {
        whole = d.whole;
        scheme = IfSome-weaken p.scheme _ _ scheme-lacks d.scheme;
        authority = grind (arith, authority-lacks);
        path = path-lacks p.path path.text;
        query = IfSome-weaken p.query _ _ query-lacks d.query;
        no_scheme = grind (arith, no-scheme);
        no_authority = path.no_authority;
      }

  -- a text has one derivation, which has its components
  pub derived-components-are-unique : (t : List ℕ) (p : Components) → IsDerived r t p
      → components t ≡ p
  derived-components-are-unique t p d = only-split-is-components t p (derived-is-split t p d)

  reference-rule : (s a : Option (List ℕ)) (path : List ℕ) → IsSome s ⊎ (kind.needs_scheme ≡ false)
      → IsPathOf s a path → IsSome s
      ⊎ ((kind.needs_scheme ≡ false) × (IsSome a ⊎ (has_colon_in_first_segment path ≡ false)))
  reference-rule s a path n p = ⊎_elim (λ e. inl e) (λ c. ⊎_elim (λ e. inl e) (λ e. inr (e, c)) n)
      p.no_colon

  pub derived-follows : (t : List ℕ) (p : Components) → IsDerived r t p
      → IsSome p.scheme ⊎ (kind.needs_scheme ≡ false) → FollowsRules kind t p
  derived-follows t p d n =
      let path = path-rule-gives p.scheme p.authority p.path d.path in
      record {
        split = derived-is-split t p d;
        scheme = IfSome-weaken p.scheme _ _ (λ s l. (scheme-gives s l).0) d.scheme;
        authority = IfSome-weaken p.authority _ (HasAuthorityParts kind)
            (λ a l.
            let k = authority-derives r kind w a l in
            (k.0, derived-authority-follows r kind w a k.0 k.1)) d.authority;
        path = path.text.1;
        query = IfSome-weaken p.query _ _ (λ q l. ((w.query q).0 l).1) d.query;
        fragment = IfSome-weaken p.fragment _ _ (λ f l. ((w.fragment f).0 l).1) d.fragment;
        reference = reference-rule p.scheme p.authority p.path n path;
      }

  path-of-follows : (t : List ℕ) (p : Components) → IsUtf8 p.path → FollowsRules kind t p
      → IsPathOf p.scheme p.authority p.path
  path-of-follows t p u f = grind arith

  authority-of-follows : (a : List ℕ) → IsUtf8 a → HasAuthorityParts kind a → IsOf r.authority a
  authority-of-follows a u h = derived-is-authority r kind w a h.0
      (following-authority-derives r kind w a h.0 u h.1)

  pub follows-is-derived : (t : List ℕ) (p : Components) → IsUtf8 t → FollowsRules kind t p
      → IsDerived r t p
  follows-is-derived t p ut f =
      let u = subst AreUtf8 (only-split-is-components t p f.split)
      (components-of-utf8-are-utf8 t ut) in
      grind (arith, scheme-is-had, authority-of-follows, path-rule-has, path-of-follows)

  pub follows-has-scheme : (t : List ℕ) (p : Components) → FollowsRules kind t p
      → IsSome p.scheme ⊎ (kind.needs_scheme ≡ false)
  follows-has-scheme t p f = ⊎_elim (λ e. inl e) (λ e. inr e.0) f.reference

  -- the components of a text of the rule of references are derived, and the other way round
  pub reference-is-derived : (t : List ℕ) → (IsOf r.reference t ↔ IsDerived r t (components t))
  reference-is-derived t = (
    λ l.
        let k = reference-derives r w.made t l in
        subst (IsDerived r t) (sym (derived-components-are-unique t k.0 k.1)) k.1,
    λ d. derived-is-reference r w.made t (components t) d,
  )
