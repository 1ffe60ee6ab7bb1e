-- What each step keeps of a builder's parts: each meets its rule, and they are at the next place.
use Rattle.uri_ops.proofs.Common.{◌≡◌, ℕ, Bool, true, false, ◌&&◌, List, [], ◌++◌, refl, sym, ap, ◌∙◌, arith, Option, is_some, is_none, option_map, option_map_or, and_parts, and_from, false≢true, nat_tests, Kind, absent_or_passes, AddsUnlessFailed, BuilderParts, MeetsOrFailed, is_authority_text, is_scheme_text, is_text_for, meet_rules, with_authority, with_fragment, with_more_authority, with_path, with_query, with_scheme, any_authority, ends_in_authority, has_path, has_path_before_fragment, has_path_last, has_needed_scheme, is_fresh, lacks_query_and_fragment, lacks_all, lacks_authority, lacks_path, is_in_order, is_empty, second-holds-if-first-is-false, common_steps}
use Rattle.uri_ops.proofs.Builders.BuilderGrowth.{ExtendsAuthority}
use Rattle.uri_ops.proofs.Builders.Drafting.{rules-give-meet_rules, meet_rules-gives-rules}

-- building: parts in the order of a state, unless marked failed, have a scheme if one is needed
-- (needs), and pass its test
pub in-order-parts-pass-their-test : (test : BuilderParts → Bool) (needs : Bool) (p : BuilderParts)
    → is_in_order test needs p ≡ true → p.failed ≡ false → (has_needed_scheme needs p ≡ true)
    × (test p ≡ true)
unfolding is_in_order
in-order-parts-pass-their-test test needs p h whole =
    grind (arith, nat_tests, second-holds-if-first-is-false)

-- building: a new builder has no parts, unless it is marked failed;
-- the Bool is whether the kind needs a scheme
pub fresh-builder-lacks-all-parts : (needs : Bool) (p : BuilderParts)
    → is_fresh needs p ≡ true → p.failed ≡ false → lacks_all p ≡ true
unfolding is_fresh
fresh-builder-lacks-all-parts needs p h whole = second-holds-if-first-is-false p.failed _ whole h

-- building: parts in the order of a state pass its test, unless they are marked failed; the Bool is
-- whether the kind needs a scheme
pub in-order-parts-pass-the-test : (test : BuilderParts → Bool) (needs : Bool) (p : BuilderParts)
    → is_in_order test needs p ≡ true → p.failed ≡ false → test p ≡ true
in-order-parts-pass-the-test test needs p h whole =
    (in-order-parts-pass-their-test test needs p h whole).1

-- building: in the states of an authority, the authority ends the text;
-- the Bool is whether the kind needs a scheme
pub in-order-parts-end-in-authority : (takes : List ℕ → Bool) (needs : Bool) (p : BuilderParts)
    → is_in_order (ends_in_authority takes) needs p ≡ true → p.failed ≡ false
    → ends_in_authority any_authority p ≡ true
in-order-parts-end-in-authority takes needs p h whole =
    grind (arith, common_steps, in-order-parts-pass-the-test)

-- building: after a path there is neither query nor fragment yet;
-- the Bool is whether the kind needs a scheme
pub path-last-lacks-query-and-fragment : (needs : Bool) (p : BuilderParts)
    → is_in_order has_path_last needs p ≡ true
    → p.failed ≡ false → lacks_query_and_fragment p ≡ true
path-last-lacks-query-and-fragment needs p h whole =
    grind (arith, nat_tests, in-order-parts-pass-the-test)

-- building: before the fragment there is none yet; the Bool is whether the kind needs a scheme
pub before-fragment-lacks-fragment : (needs : Bool) (p : BuilderParts)
    → is_in_order has_path_before_fragment needs p ≡ true → p.failed ≡ false → is_none p.fragment
    ≡ true
before-fragment-lacks-fragment needs p h whole =
    grind (arith, nat_tests, in-order-parts-pass-the-test)

module _ (change : BuilderParts → BuilderParts) (p q : BuilderParts)
    (adds : AddsUnlessFailed change p q)
    (same : (change p).failed ≡ p.failed) where
  pub failure-is-kept : q.failed ≡ false → p.failed ≡ false
  failure-is-kept e = sym same ∙ sym (ap (λ (r : BuilderParts). r.failed) (adds e)) ∙ e

  changed-parts-meet-rules : (kind : Kind) → (p.failed ≡ false → meet_rules kind (change p) ≡ true)
      → MeetsOrFailed kind q
  changed-parts-meet-rules kind rules e = ap (meet_rules kind) (adds e) ∙ rules (failure-is-kept e)

  changed-parts-are-in-order : (test : BuilderParts → Bool) (needs : Bool)
      → (p.failed ≡ false → (has_needed_scheme needs (change p) && test (change p)) ≡ true)
      → is_in_order test needs q ≡ true
  unfolding is_in_order
  changed-parts-are-in-order test needs then = grind (arith, common_steps, then, failure-is-kept)

module _ (kind : Kind) (needs : Bool) (p q : BuilderParts) (x : List ℕ) where
  pub parts-with-scheme-meet-rules : AddsUnlessFailed (with_scheme x) p q
      → MeetsOrFailed kind p → is_scheme_text x ≡ true → MeetsOrFailed kind q
  parts-with-scheme-meet-rules adds meets rule = grind arith

  pub parts-with-scheme-are-in-order : AddsUnlessFailed (with_scheme x) p q
      → is_fresh needs p ≡ true → is_in_order lacks_authority needs q ≡ true
  parts-with-scheme-are-in-order adds before = changed-parts-are-in-order
      (with_scheme x) p q adds refl lacks_authority needs (λ e. and_from _ _ refl (and_parts
      (is_none p.scheme) (lacks_authority p) (fresh-builder-lacks-all-parts needs p before e)).1)

  pub parts-with-authority-meet-rules : AddsUnlessFailed (with_authority x) p q
      → MeetsOrFailed kind p → is_authority_text kind x ≡ true → MeetsOrFailed kind q
  parts-with-authority-meet-rules adds meets rule = grind arith

  parts_before_authority_lack_path : is_in_order lacks_authority needs p ≡ true → p.failed ≡ false
      → (has_needed_scheme needs p ≡ true) × (lacks_path p ≡ true)
  parts_before_authority_lack_path before e =
      grind (arith, nat_tests, in-order-parts-pass-their-test)

  pub parts-with-authority-are-in-order : AddsUnlessFailed (with_authority x) p q
      → is_in_order lacks_authority needs p ≡ true → is_in_order lacks_path needs q ≡ true
  parts-with-authority-are-in-order adds before = changed-parts-are-in-order (with_authority x) p q
      adds refl lacks_path needs
      (λ e. let h = parts_before_authority_lack_path before e in and_from _ _ h.0 h.1)

  pub parts-with-begun-authority-are-in-order : AddsUnlessFailed (with_authority []) p q
      → is_in_order lacks_authority needs p ≡ true
      → is_in_order (ends_in_authority is_empty) needs q ≡ true
  parts-with-begun-authority-are-in-order adds before = changed-parts-are-in-order
      (with_authority []) p q adds refl (ends_in_authority is_empty) needs (λ e.
      let h = parts_before_authority_lack_path before e in and_from _ _ h.0 (and_from _ _ refl h.1))

  pub parts-with-path-meet-rules : AddsUnlessFailed (with_path x) p q
      → MeetsOrFailed kind p → is_text_for kind.path x ≡ true → MeetsOrFailed kind q
  parts-with-path-meet-rules adds meets rule =
      grind (arith, changed-parts-meet-rules, meet_rules-gives-rules, rules-give-meet_rules)

  pub parts-with-path-are-in-order : AddsUnlessFailed (with_path x) p q
      → is_in_order lacks_path needs p ≡ true → is_in_order has_path_last needs q ≡ true
  parts-with-path-are-in-order adds before = changed-parts-are-in-order (with_path x) p q adds refl
      has_path_last needs
      (λ e. let h = in-order-parts-pass-their-test lacks_path needs p before e in
      and_from _ _ h.0 (and_from _ _ refl
      (and_parts (is_none p.path) (lacks_query_and_fragment p) h.1).1))

  pub parts-with-query-meet-rules : AddsUnlessFailed (with_query x) p q
      → MeetsOrFailed kind p → is_text_for kind.query x ≡ true → MeetsOrFailed kind q
  parts-with-query-meet-rules adds meets rule =
      grind (arith, changed-parts-meet-rules, meet_rules-gives-rules, rules-give-meet_rules)

  pub parts-with-query-are-in-order : AddsUnlessFailed (with_query x) p q
      → is_in_order has_path_last needs p ≡ true
      → is_in_order has_path_before_fragment needs q ≡ true
  parts-with-query-are-in-order adds before =
      changed-parts-are-in-order (with_query x) p q adds refl has_path_before_fragment needs (λ e.
      let h = in-order-parts-pass-their-test has_path_last needs p before e in
      let s = and_parts (is_some p.path) (lacks_query_and_fragment p) h.1 in
      and_from _ _ h.0 (and_from _ _ s.0 (and_parts (is_none p.query) (is_none p.fragment) s.1).1))

  pub parts-with-fragment-meet-rules : AddsUnlessFailed (with_fragment x) p q → MeetsOrFailed kind p
      → is_text_for kind.fragment x ≡ true → MeetsOrFailed kind q
  parts-with-fragment-meet-rules adds meets rule =
      grind (arith, changed-parts-meet-rules, meet_rules-gives-rules, rules-give-meet_rules)

  pub parts-with-fragment-are-in-order : AddsUnlessFailed (with_fragment x) p q
      → is_in_order has_path_before_fragment needs p ≡ true → is_in_order has_path needs q ≡ true
  parts-with-fragment-are-in-order adds before = changed-parts-are-in-order (with_fragment x) p q
      adds refl has_path needs
      (λ e. let h = in-order-parts-pass-their-test has_path_before_fragment needs p before e in
      and_from _ _ h.0 (and_parts (is_some p.path) (is_none p.fragment) h.1).0)

-- where an authority goes on by a text
module _ (kind : Kind) (needs : Bool) (p q : BuilderParts) (x : List ℕ) (takes then : List ℕ → Bool)
    (adds : AddsUnlessFailed (with_more_authority x) p q) (meets : MeetsOrFailed kind p)
    (before : is_in_order (ends_in_authority takes) needs p ≡ true)
    (goes : q.failed ≡ false → ExtendsAuthority kind takes then x) where
  record IsExtendedAuthority (o : Option (List ℕ)) : Type 0 where
    rule : absent_or_passes (option_map (λ t. t ++ x) o) (is_authority_text kind) ≡ true
    next : option_map_or then (option_map (λ t. t ++ x) o) false ≡ true

  authority-of-parts-is-extended : q.failed ≡ false → p.failed ≡ false
      → IsExtendedAuthority p.authority
  authority-of-parts-is-extended f e =
      grind (arith, in-order-parts-pass-their-test, false≢true, meet_rules-gives-rules)

  pub parts-with-longer-authority-meet-rules : MeetsOrFailed kind q
  parts-with-longer-authority-meet-rules f = grind (arith, authority-of-parts-is-extended)

  pub parts-with-longer-authority-are-in-order : is_in_order (ends_in_authority then) needs q ≡ true
  unfolding is_in_order
  parts-with-longer-authority-are-in-order =
      grind (
        arith,
        common_steps,
        failure-is-kept,
        in-order-parts-pass-their-test,
        authority-of-parts-is-extended,
      )
