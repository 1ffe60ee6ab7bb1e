-- The forms of references that lead to a target: RFC 3986, sections 4.2 and 5.2.2.
use Rattle.uri_relative.proofs.Common.{◌≡◌, ℕ, ◌+◌, ◌≤◌, ◌<◌, Bool, true, false, not, List, [], ◌++◌, ◌&&◌, ◌||◌, ◌∷◌, length, refl, sym, ap, ◌∙◌, subst, arith, rules, codes, Option, None, IfSome, IfNone, is_some, length-append, and-false, and_from, and_parts, both_ways, cond_both, or_left, cond-false, cond-true, false≢true, IsUtf8-nil, nat_tests, slash, Components, IsAbemptyPath, IsSplitOf, Lacks, marked, has_authority, has_scheme, recompose, starts, Kind, components_meet_rules, has_colon_in_first_segment, absent_or_passes, is_authority, is_scheme, TableSet, allows, IsAbsolute, lacks_dot_segments, underflows_if_absolute, guarded, is_opaque, is_fragment_only, dotted_target, validity-splits-at-slash, absolute-path-is-slash-and-rest, IsDotlessTargetOf, IsReferenceTo, IsUnguarded, NeedsPath, after_path, from_authority, IsRelativeTo, needs_authority, IsPathTo, IsShortestPath, Shortest}
use Rattle.uri_pct.specs.Tokens.{is_valid_for}
use Rattle.uri_pct.proofs.Offered.{empty_text_is_valid}
use Rattle.uri_parts.proofs.Offered.{IsEmptyOrMarked-query_text}
use Rattle.uri_ops.specs.NormalTargets.{reference_kind}
use Rattle.uri_ops.proofs.Offered.{no_scheme, ascii-bytes-are-utf8, lacked-delimiters-fail-test, test-of-delimiters-gives-lacks}
use Rattle.uri_relative.proofs.References.{target_of-fragment-form, target_of-authority-form, target_of-path-form, path-form-does-not-underflow, target_of-query-form, target_of-whole-target}
use Rattle.uri_relative.proofs.Settled.{settled-target-does-not-underflow}
use Rattle.uri_relative.proofs.ShortestForms.{fragment-form-is-shortest, path-form-is-shortest, query-form-is-shortest}

-- targets to relativize: each component is absent or meets its rule of the grammar
pub record MeetsRules (kind : Kind) (t : Components) : Type 0 where
  pub scheme : absent_or_passes t.scheme is_scheme ≡ true
  pub authority : absent_or_passes t.authority (is_authority kind) ≡ true
  pub path : is_valid_for kind.path t.path ≡ true
  pub query : absent_or_passes t.query (is_valid_for kind.query) ≡ true
  pub fragment : absent_or_passes t.fragment (is_valid_for kind.fragment) ≡ true

pub components-of-kind-meet-rules : (kind : Kind) (t : Components) → components_meet_rules kind t
    ≡ true → MeetsRules kind t
components-of-kind-meet-rules kind t e =
    let a = and_parts _ _ e in
    let b = and_parts _ _ a.0 in
    let c = and_parts _ _ b.0 in
    let d = and_parts _ _ c.0 in
    let f = and_parts _ _ d.0 in
    record { scheme = f.0; authority = f.1; path = d.1; query = c.1; fragment = b.1 }

reference-components-meet-rules : (kind : Kind) (r : Components) → MeetsRules kind r
    → (is_some r.scheme || (is_some r.authority || not (has_colon_in_first_segment r.path))) ≡ true
    → components_meet_rules (reference_kind kind) r ≡ true
reference-components-meet-rules kind r m needs = grind arith

reference-without-authority-is-relative : (base t r : Components) → r.scheme ≡ None → r.authority
    ≡ None → IsRelativeTo base t r
reference-without-authority-is-relative base t r s a = λ _. λ _. λ _. λ _. (s, a)

scheme-adds-two-bytes-at-least : (o : Option (List ℕ)) (rest : List ℕ) → is_some o ≡ true
    → IfSome o (λ s. (0 < length s) × Lacks (codes ":/?#") s)
    → 2 + length rest ≤ length (marked [] o (codes ":") ++ rest)
scheme-adds-two-bytes-at-least o rest e h = grind (arith, false≢true, nat_tests, length-append)

property-holds-without-guard : (P : List ℕ → Type 0) (a : Option (List ℕ)) (path whole : List ℕ)
    → guarded a path ≡ whole → (P (codes "/." ++ path) → P path) → P whole → P path
property-holds-without-guard P a path whole e back h = grind arith

-- targets to relativize: a path before a guard is added has neither `?` nor `#`, as the target's
path-without-guard-lacks-marks : (t : Components) (path : List ℕ)
    → guarded t.authority path ≡ t.path → Lacks (codes "?#") t.path → Lacks (codes "?#") path
path-without-guard-lacks-marks t path e h =
    property-holds-without-guard (Lacks (codes "?#")) t.authority path t.path e
    (λ k. test-of-delimiters-gives-lacks (codes "?#") path
    (lacked-delimiters-fail-test (codes "?#") (codes "/." ++ path) k)) h

path-after-guard-is-valid : (set : TableSet) (rest : List ℕ)
    → is_valid_for set (codes "/." ++ 47 ∷ rest) ≡ true → is_valid_for set (47 ∷ rest) ≡ true
path-after-guard-is-valid set rest e =
    let p = and_parts (is_valid_for set (codes "/.")) (allows set 47 && is_valid_for set rest)
    (sym (validity-splits-at-slash set (codes "/.") rest (ascii-bytes-are-utf8 (codes "/.") refl))
    ∙ e) in
    validity-splits-at-slash set [] rest IsUtf8-nil ∙ and_from _ _ (empty_text_is_valid set) p.1

path-without-guard-is-valid : (set : TableSet) (t : Components) (path : List ℕ) → IsAbsolute path
    → guarded t.authority path ≡ t.path → is_valid_for set t.path ≡ true
    → is_valid_for set path ≡ true
path-without-guard-is-valid set t path absolute e h =
    property-holds-without-guard (λ p. is_valid_for set p ≡ true) t.authority path t.path e
    (grind (arith, absolute-path-is-slash-and-rest, path-after-guard-is-valid)) h

-- lengths of relativized references: a path (way) that is no longer than the one from the root is
-- two bytes longer than the target's at most
path-is-at-most-two-longer-than-target : (t : Components) (path way : List ℕ)
    → guarded t.authority path ≡ t.path
    → length way ≤ length (guarded None path) → length way ≤ length t.path + 2
path-is-at-most-two-longer-than-target t path way e h = grind (arith, nat_tests)

-- relativized references: one of a path, a query and the target's fragment is parsed as these
pub path-and-query-are-split : (t : Components) (path : List ℕ) (query : Option (List ℕ))
    → Lacks (codes "?#") path
    → IfSome query (λ q. Lacks (codes "#") q) → has_colon_in_first_segment path ≡ false
    → has_authority path ≡ false
    → IsSplitOf
    (recompose (record t { scheme = None; authority = None; path = path; query = query }))
    (record t { scheme = None; authority = None; path = path; query = query })
path-and-query-are-split t path query lacks q e f =
    search (rules, no_scheme, IsEmptyOrMarked-query_text)

module _ (kind : Kind) (prefers : Bool) (base t : Components) (w : IsDotlessTargetOf kind t) where
  -- the whole target
  pub whole : IsRelativeTo base t t → (prefers ≡ false → lacks_dot_segments base.path ≡ true
      → Shortest kind base t (length (recompose t))) → IsReferenceTo kind prefers base t t
  whole relative least = record {
    split = w.split;
    meets = reference-components-meet-rules kind t (components-of-kind-meet-rules kind t w.meets)
        (or_left (is_some t.scheme) _ w.scheme);
    leads = target_of-whole-target base t w.scheme w.settled;
    taken = ap (λ b. is_opaque base && not (b || is_fragment_only t)) w.scheme
        ∙ and-false (is_opaque base);
    below = ap (λ (c : Components). underflows_if_absolute c.path) (whole_joined base t w.scheme)
        ∙ settled-target-does-not-underflow t w.settled;
    relative = relative;
    short = λ _. omega arith;
    shortest = least;
  }
    where
      whole_joined : (base t : Components) → is_some t.scheme ≡ true → dotted_target base t ≡ t
      whole_joined base t e = cond-true _ _ _ e

  -- `//`, where the target has an authority
  network-path-has-no-scheme : (o : Option (List ℕ)) (rest : List ℕ) → is_some o ≡ true
      → has_scheme (marked (codes "//") o [] ++ rest) ≡ false
  network-path-has-no-scheme o rest e = grind (arith, false≢true)

  network-form-is-reference : base.scheme ≡ t.scheme → is_some t.authority ≡ true
      → IsRelativeTo base t (record t { scheme = None })
      → is_opaque base ≡ false
      → (prefers ≡ false → lacks_dot_segments base.path ≡ true
      → Shortest kind base t (length (recompose (record t { scheme = None }))))
      → IsReferenceTo kind prefers base t (record t { scheme = None })
  network-form-is-reference s some relative opaque least =
      let m = components-of-kind-meet-rules kind t w.meets in
      record {
        split = grind (arith, no_scheme, network-path-has-no-scheme);
        meets = grind (arith, reference-components-meet-rules);
        leads = target_of-authority-form base t s some w.settled;
        taken = ap (λ b. b && not (is_fragment_only (record t { scheme = None }))) opaque;
        below = grind (arith, settled-target-does-not-underflow);
        relative = relative;
        short = grind (arith, scheme-adds-two-bytes-at-least);
        shortest = least;
      }

  -- what a reference is that has neither scheme nor authority
  path-and-query-meet-rules : (path : List ℕ) (query : Option (List ℕ))
      → is_valid_for kind.path path ≡ true
      → absent_or_passes query (is_valid_for kind.query) ≡ true → has_colon_in_first_segment path
      ≡ false
      → components_meet_rules (reference_kind kind)
      (record t { scheme = None; authority = None; path = path; query = query }) ≡ true
  path-and-query-meet-rules path query v q e =
      grind (arith, nat_tests, reference-components-meet-rules, components-of-kind-meet-rules)

  path-and-tail-are-no-longer-than-target : (path : List ℕ) → length path ≤ length t.path + 2
      → length (path ++ after_path t) ≤ length (recompose t)
  path-and-tail-are-no-longer-than-target path h =
      grind (arith, nat_tests, length-append, scheme-adds-two-bytes-at-least)

  -- a path, and the text after the target's
  pub path-form-is-reference : (path way : List ℕ) → base.scheme ≡ t.scheme
      → base.authority ≡ t.authority → IsAbemptyPath base.path → is_opaque base ≡ false
      → IsUnguarded t path → IsPathTo base.path path way
      → (prefers ≡ false → length way ≤ length (guarded None path))
      → (prefers ≡ false → IsShortestPath base.path path way)
      → IfNone base.authority (has_authority base.path ≡ false) → NeedsPath base t
      → starts slash t.path ≡ true
      → IsReferenceTo kind prefers base t
      (record t { scheme = None; authority = None; path = way })
  path-form-is-reference path way s a rooted opaque u p short least none needs absolute =
      let m = components-of-kind-meet-rules kind t w.meets in
      let r : Components = record t { scheme = None; authority = None; path = way } in
      record {
        split = path-and-query-are-split t way t.query
            (p.lacks (path-without-guard-lacks-marks t path u.guards w.split.path))
            w.split.query p.no_scheme p.no_authority;
        meets = path-and-query-meet-rules way t.query (p.valid kind.path w.sets.path w.sets.slash
            (path-without-guard-is-valid kind.path t path u.absolute u.guards m.path)) m.query
            p.no_scheme;
        leads = target_of-path-form base t path way s a rooted u.guards p;
        taken = ap (λ b. b && not (is_fragment_only r)) opaque;
        below = path-form-does-not-underflow base t path way rooted p;
        relative = reference-without-authority-is-relative base t r refl refl;
        short = λ e. path-and-tail-are-no-longer-than-target way
            (path-is-at-most-two-longer-than-target t path way u.guards (short e));
        shortest = λ e dotless.
            let most = path-is-at-most-two-longer-than-target t path way u.guards (short e) in
            path-form-is-shortest kind base t path (length way) rooted opaque dotless none needs
            absolute u most
            (omega (
              arith,
              path-and-tail-are-no-longer-than-target way most,
              length-append way (after_path t),
            )) (least e dotless) _ (omega (arith, length-append way (after_path t)));
      }

  -- `?` and on, where the target has a query
  pub query-form-is-reference : base.scheme ≡ t.scheme → base.authority ≡ t.authority
      → base.path ≡ t.path
      → is_some t.query ≡ true → is_opaque base ≡ false → (base.query ≡ t.query → ⊥)
      → IsReferenceTo kind prefers base t
      (record t { scheme = None; authority = None; path = [] })
  query-form-is-reference s a p some opaque other =
      let m = components-of-kind-meet-rules kind t w.meets in
      let r : Components = record t { scheme = None; authority = None; path = [] } in
      record {
        split = path-and-query-are-split t [] t.query
            (test-of-delimiters-gives-lacks (codes "?#") [] refl) w.split.query refl refl;
        meets = path-and-query-meet-rules [] t.query (empty_text_is_valid kind.path) m.query refl;
        leads = target_of-query-form base t s a p some w.settled;
        taken = ap (λ b. b && not (is_fragment_only r)) opaque;
        below = ap underflows_if_absolute p ∙ settled-target-does-not-underflow t w.settled;
        relative = reference-without-authority-is-relative base t r refl refl;
        short = λ _. path-and-tail-are-no-longer-than-target [] (omega arith);
        shortest = λ _ _. query-form-is-shortest kind base t _ (omega arith) other;
      }

  -- `#` and on, or nothing
  pub fragment-form-is-reference : base.scheme ≡ t.scheme → base.authority ≡ t.authority
      → base.path ≡ t.path
      → base.query ≡ t.query
      → IsReferenceTo kind prefers base t
      (record t { scheme = None; authority = None; path = []; query = None })
  fragment-form-is-reference s a p q =
      let r : Components = record t { scheme = None; authority = None; path = []; query = None } in
      record {
        split = grind (arith, path-and-query-are-split, test-of-delimiters-gives-lacks);
        meets = path-and-query-meet-rules [] None (empty_text_is_valid kind.path) refl refl;
        leads = target_of-fragment-form base t s a p q w.settled;
        taken = and-false (is_opaque base);
        below = ap underflows_if_absolute p ∙ settled-target-does-not-underflow t w.settled;
        relative = reference-without-authority-is-relative base t r refl refl;
        short = grind (arith, path-and-tail-are-no-longer-than-target, length-append);
        shortest = λ _ _. fragment-form-is-shortest kind base t _ (omega arith);
      }

  -- the target from its authority on, or the whole target, is a reference to it
  pub authority-form-is-reference : base.scheme ≡ t.scheme → is_opaque base ≡ false
      → (base.authority ≡ t.authority → needs_authority base t ≡ true)
      → Shortest kind base t (length (recompose (from_authority t)))
      → IsReferenceTo kind prefers base t (from_authority t)
  authority-form-is-reference s opaque needs least =
      let other : Components = record t { scheme = None } in
      cond_both (is_some t.authority) other t (IsReferenceTo kind prefers base t)
      (λ e. network-form-is-reference s e (λ _. λ a. λ _. λ n. absurd (both_ways _ n (needs a)))
      opaque
      (λ _ _. subst (λ r. Shortest kind base t (length (recompose r)))
      (cond-true (is_some t.authority) other t e) least))
      (λ e. whole (λ _. λ a. λ _. λ n. absurd (both_ways _ n (needs a)))
      (λ _ _. subst (λ r. Shortest kind base t (length (recompose r)))
      (cond-false (is_some t.authority) other t e) least))
