-- What mending leaves as it is: a text of the kind; and what it refuses: a scheme and an authority
-- that begin no text of the kind.
use Rattle.uri_mend.proofs.Common.{◌≡◌, ℕ, Bool, true, false, not, List, [], ◌++◌, sym, ap, ◌∙◌, ◌&&◌, ◌||◌, arith, codes, Option, None, IfSome, IfNone, is_some, option_map, IsUtf8, and_parts, and_from, append-nil, TableSet, LacksPercent, Components, components, recompose, marked, starts, IsSplitOf, IsAbemptyPath, has_scheme, before_any, Kind, IsOfKind, is_of_kind, absent_or_passes, is_scheme, is_authority, components_meet_rules, recompose-components, only-split-is-components, HasComponentSets, before_path, components-of-utf8-are-utf8, grammar-gives-components-of-kind, mended, has_false_scheme, link_components, mended_components, mended_text, can_be_mended}
use Rattle.uri_pct.proofs.Offered.{empty_text_is_valid}
use Rattle.uri_ops.proofs.Offered.{is_set_text, set-text-is-valid, set-text-is-utf8}
use Rattle.uri_mend.proofs.MendedSteps.{valid-text-is-its-own-mended-text}
use Rattle.uri_mend.proofs.LinkComponents.{no-false-scheme-gets-nothing}
use Rattle.uri_mend.proofs.MendedReferences.{AreMendable, no-scheme-is-found, part-with-property-passes, link-components-are-mendable}

-- mending: a scheme and an authority as components, without anything after them
unfoldable pub prefix_components : Components → Components
prefix_components p = record {
  scheme = p.scheme;
  authority = p.authority;
  path = [];
  query = None;
  fragment = None;
}

pub prefix-components-are-text-before-path : (p : Components)
    → recompose (prefix_components p) ≡ before_path p
unfolding prefix_components
prefix-components-are-text-before-path p =
    ap (λ t. marked [] p.scheme (codes ":") ++ t) (append-nil (marked (codes "//") p.authority []))

empty-path-follows-authority : (o : Option (List ℕ)) (P : List ℕ → Type 0) (path : List ℕ)
    → IfSome o (λ a. P a × IsAbemptyPath path) → IfSome o (λ a. P a × IsAbemptyPath [])
empty-path-follows-authority o P path h = grind arith

holds-without-part : {A : Type 0} (o : Option A) (P : Type 0) → P → IfNone o P
holds-without-part e g h = grind arith

-- mending: a scheme and an authority are a split of their text
pub prefix-components-are-split : (p : Components) → AreMendable p
    → IsSplitOf (recompose (prefix_components p)) (prefix_components p)
unfolding prefix_components
prefix-components-are-split p m =
    grind (arith, empty-path-follows-authority, no-scheme-is-found, holds-without-part)

-- general fact on booleans, for mending: the rules of the grammar where the path is empty; a, s, n,
-- there: the authority passes, a scheme is there, it is needed, an authority is there
rules-of-prefix : (a s n there : Bool)
    → (((((true && a) && true) && true) && true) && (s || (not n && (there || true))))
    ≡ (a && (s || not n))
rules-of-prefix a s n there = grind arith

-- mending: what is before the path is of the kind exactly if the authority passes, and the scheme
-- is there if it is needed
prefix-rules : (kind : Kind) (p : Components) → AreMendable p
    → components_meet_rules kind (prefix_components p)
    ≡ (absent_or_passes p.authority (is_authority kind)
    && (is_some p.scheme || not kind.needs_scheme))
unfolding prefix_components
prefix-rules kind p m =
    grind (arith, part-with-property-passes, empty_text_is_valid, rules-of-prefix)

-- mending: a text can be mended exactly if its scheme and authority are of the kind
pub prefix-is-of-kind-iff-mendable : (kind : Kind) (text : List ℕ) → IsUtf8 text
    → is_of_kind kind (before_path (link_components text)) ≡ can_be_mended kind text
unfolding can_be_mended
prefix-is-of-kind-iff-mendable kind text u =
    let p = link_components text in
    let m = link-components-are-mendable text u in
    ap (is_of_kind kind) (sym (prefix-components-are-text-before-path p)) ∙ ap
    (components_meet_rules kind) (only-split-is-components (recompose (prefix_components p))
    (prefix_components p) (prefix-components-are-split p m)) ∙ prefix-rules kind p m

rule-on-schemes : (s n r : Bool) → (s || (not n && r)) ≡ true → (s || not n) ≡ true
rule-on-schemes s n r h = grind arith

text-of-kind-has-no-leading-colon : (kind : Kind) (text : List ℕ) → IsOfKind kind text
    → starts 58 text ≡ false
text-of-kind-has-no-leading-colon kind text h = grind arith

scheme-of-text-of-kind-is-one : (kind : Kind) (text : List ℕ) → IsOfKind kind text
    → has_scheme text ≡ true → is_scheme (before_any (codes ":/?#") text) ≡ true
scheme-of-text-of-kind-is-one kind text h e = grind arith

pub text-of-kind-has-no-false-scheme : (kind : Kind) (text : List ℕ) → IsOfKind kind text
    → has_false_scheme text ≡ false
unfolding has_false_scheme
text-of-kind-has-no-false-scheme kind text h =
    grind (arith, scheme-of-text-of-kind-is-one, text-of-kind-has-no-leading-colon, starts)

link-components-of-text-of-kind : (kind : Kind) (text : List ℕ) → IsOfKind kind text
    → link_components text ≡ components text
unfolding link_components
link-components-of-text-of-kind kind text h =
    ap components (no-false-scheme-gets-nothing text (text-of-kind-has-no-false-scheme kind text h))

valid-part-is-unchanged : (set : TableSet) (o : Option (List ℕ)) → LacksPercent set
    → set.pct_encoded ≡ true → IfSome o (λ x. is_set_text set x ≡ true)
    → option_map (mended set) o ≡ o
valid-part-is-unchanged set o lacks octets h =
    grind (arith, valid-text-is-its-own-mended-text, set-text-is-utf8, set-text-is-valid)

equal-ends-make-equal-components : (p : Components) {path : List ℕ}
    {query fragment : Option (List ℕ)}
    → path ≡ p.path → query ≡ p.query → fragment ≡ p.fragment
    → (let x : Components = record {
      scheme = p.scheme;
      authority = p.authority;
      path = path;
      query = query;
      fragment = fragment;
    } in x) ≡ p
equal-ends-make-equal-components p a q f = grind arith

module _ (kind : Kind) (sets : HasComponentSets kind) where
  -- the components of a text of the kind are unchanged
  components-of-kind-are-unchanged : (text : List ℕ) → IsUtf8 text → IsOfKind kind text
      → mended_components kind (components text) ≡ components text
  components-of-kind-are-unchanged text u h =
      let p = components text in
      let parts = grammar-gives-components-of-kind kind p (components-of-utf8-are-utf8 text u) h in
      equal-ends-make-equal-components p (valid-text-is-its-own-mended-text kind.path
      sets.path.percent sets.path.octets p.path (set-text-is-utf8 kind.path p.path parts.path)
      (set-text-is-valid kind.path p.path parts.path))
      (valid-part-is-unchanged kind.query p.query sets.query.percent sets.query.octets parts.query)
      (valid-part-is-unchanged kind.fragment p.fragment sets.fragment.percent sets.fragment.octets
      parts.fragment)

  -- a text of the kind is mended as itself
  pub text-of-kind-is-unchanged : (text : List ℕ) → IsUtf8 text → IsOfKind kind text
      → mended_text kind text ≡ text
  unfolding mended_text
  text-of-kind-is-unchanged text u h =
      ap (λ p. recompose (mended_components kind p)) (link-components-of-text-of-kind kind text h)
      ∙ ap recompose (components-of-kind-are-unchanged text u h) ∙ recompose-components text

  -- a text of the kind can be mended
  pub text-of-kind-can-be-mended : (text : List ℕ) → IsOfKind kind text
      → can_be_mended kind text ≡ true
  unfolding can_be_mended
  text-of-kind-can-be-mended text h =
      let rules = and_parts _ _ h in
      let authority = (and_parts _ _ (and_parts _ _ (and_parts _ _ (and_parts _ _
      rules.0).0).0).0).1 in
      ap (λ p. absent_or_passes p.authority (is_authority kind)
      && (is_some p.scheme || not kind.needs_scheme)) (link-components-of-text-of-kind kind text h)
      ∙ and_from _ _ authority (rule-on-schemes _ kind.needs_scheme _ rules.1)

-- mending: a text of the kind passes what lets its scheme and authority be mended
rules-of-text-of-kind : (kind : Kind) (text : List ℕ) → IsOfKind kind text
    → (absent_or_passes (components text).authority (is_authority kind)
    && (is_some (components text).scheme || not kind.needs_scheme)) ≡ true
rules-of-text-of-kind kind text h = grind (arith, rule-on-schemes)

pub no_text_of_kind_has_rejected_scheme_and_authority : (kind : Kind) (text other : List ℕ)
    → can_be_mended kind text ≡ false → IsOfKind kind other
    → (components other).scheme ≡ (link_components text).scheme
    → (components other).authority ≡ (link_components text).authority → ⊥
unfolding can_be_mended
no_text_of_kind_has_rejected_scheme_and_authority kind text other e h scheme authority =
    grind (arith, components, rules-of-text-of-kind)
