-- What the references of `relativize` lead to by the basic algorithm: RFC 3986, section 5.2.
use native.Mathlib.Omega.{arith}
use Rattle.uri_basic.proofs.Common.{◌≡◌, ℕ, Bool, true, false, not, cond, List, [], ◌&&◌, refl, sym, ap, ◌∙◌, subst, ⊎_elim, rules, IfSome, None, Ok, Option, bytes_eq, codes, is_some, and_parts, both_ways, cases_Bool, cond-false, cond-true, cond_both, false≢true, not-false, bytes_eq-Decides, eq_true_from_IsTrue, Components, IsSplitOf, Lacks, components, recompose, starts, components-are-split-of-text, equal-to-true-is-IsTrue, recompose-components, IsAbsolute, lacks_dot_segments, with_final_path, guarded, is_opaque, removing-dots-keeps-absolute, removing-dots-leaves-no-dot-segment, test-of-delimiters-gives-lacks, has_literal_dot_segment, basic_resolution, basic_resolution_of_texts, target}
use Rattle.std.specs.Option.{option_eq}
use Rattle.uri_pct.specs.Delimiters.{slash}
use Rattle.uri_parts.proofs.Offered.{only-split-is-components}
use Rattle.uri_ops.specs.Dots as Dots
use Rattle.uri_ops.proofs.Offered.{no_scheme, absolute-path-is-slash-and-rest, settled-text-has-settled-components}
use Rattle.uri_relative.specs.Forms.{from_authority}
use Rattle.uri_relative.specs.Leading.{settled}
use Rattle.uri_relative.specs.Rule.{has_same_authority, has_same_authority_and_path, has_same_query, has_same_scheme, reference_components, reference_to, shortest_or_preferred_path}
use Rattle.uri_relative.proofs.Offered.{path-and-query-are-split, base-that-is-not-opaque-is-rooted, dotless-target-is-settled, final-path-is-idempotent, rootless-target-is-settled}
use Rattle.uri_basic.proofs.DotSegments.{dotless-path-has-no-literal-dot}
use Rattle.uri_basic.proofs.RelativePaths.{IsFinalPath, LeadsByPath, chosen-path-leads-to-path}
use Rattle.uri_basic.proofs.SameRemovals.{removal-of-path-without-dots}

components-that-pass-test-are-equal : (p q : Option (List ℕ)) → option_eq bytes_eq p q ≡ true
    → p ≡ q
components-that-pass-test-are-equal p q e = grind (arith, false≢true, bytes_eq-Decides)

-- targets to relativize: a target with a scheme, without removable dot segments, and with none of
-- `.` and `..`
record IsPlainTarget (t : Components) : Type 0 where
  split : IsSplitOf (recompose t) t
  scheme : is_some t.scheme ≡ true
  settled : with_final_path t ≡ t
  literal : has_literal_dot_segment t.path ≡ false

-- targets to relativize: a path that is guarded to one without a segment `.` has no guard; o: the
-- authority
guarded-path-without-dots-is-the-path : (o : Option (List ℕ)) (path whole : List ℕ)
    → IsAbsolute path → guarded o path ≡ whole → has_literal_dot_segment whole ≡ false
    → path ≡ whole
guarded-path-without-dots-is-the-path o path whole h g literal =
    grind (arith, rules, cond_both, both_ways, codes, absolute-path-is-slash-and-rest)

plain-path-is-without-dots : (t : Components) → IsPlainTarget t → IsAbsolute t.path
    → Dots.remove_dot_segments t.path ≡ t.path
plain-path-is-without-dots t w h = guarded-path-without-dots-is-the-path t.authority
    (Dots.remove_dot_segments t.path) t.path (removing-dots-keeps-absolute t.path h)
    (cc (cond-true _ _ _ (eq_true_from_IsTrue _ h))) w.literal

-- targets to relativize: a path that begins with `/` has no dot segment
plain-path-is-final : (t : Components) → IsPlainTarget t → IsAbsolute t.path → IsFinalPath t.path
plain-path-is-final t w h =
    search (rules, plain-path-is-without-dots, removing-dots-leaves-no-dot-segment)

text-of-leading-reference-leads : (base t r : Components) → IsPlainTarget t
    → IsSplitOf (recompose r) r → target base r ≡ t
    → basic_resolution base (components (recompose r)) ≡ Ok (recompose t)
text-of-leading-reference-leads base t r w split leads =
    grind (arith, rules, only-split-is-components, cond-false)

whole-target-leads-to-itself : (base t : Components) → IsPlainTarget t → target base t ≡ t
whole-target-leads-to-itself base t w =
    cc (cond-true _ _ _ w.scheme, removal-of-path-without-dots t.path w.literal)

-- relativized references: one that begins with `//` is parsed as its components
authority-form-is-split : (t : Components) → IsPlainTarget t → is_some t.authority ≡ true
    → IsSplitOf (recompose (record t { scheme = None })) (record t { scheme = None })
authority-form-is-split t w some = grind (arith, rules, no_scheme, false≢true)

authority-form-leads-to-target : (base t : Components) → IsPlainTarget t
    → is_some t.authority ≡ true → base.scheme ≡ t.scheme
    → target base (record t { scheme = None }) ≡ t
authority-form-leads-to-target base t w some s =
    search (rules, cond-true, removal-of-path-without-dots)

-- relativized references: one without a path is parsed as its query and fragment
pathless-form-is-split : (t : Components) (query : Option (List ℕ))
    → IfSome query (λ q. Lacks (codes "#") q)
    → IsSplitOf (recompose (record t { scheme = None; authority = None; path = []; query = query }))
    (record t { scheme = None; authority = None; path = []; query = query })
pathless-form-is-split t query q = path-and-query-are-split t [] query
    (test-of-delimiters-gives-lacks (codes "?#") [] refl) q refl refl

path-form-leads-to-target : (base t : Components) (way : List ℕ) → base.scheme ≡ t.scheme
    → base.authority ≡ t.authority → LeadsByPath base t.path way
    → target base (record t { scheme = None; authority = None; path = way }) ≡ t
path-form-leads-to-target base t way s a w = grind (arith, rules, cond-false)

fragment-form-leads-to-target : (base t : Components) → base.scheme ≡ t.scheme
    → base.authority ≡ t.authority → base.path ≡ t.path → base.query ≡ t.query
    → target base (record t { scheme = None; authority = None; path = []; query = None }) ≡ t
fragment-form-leads-to-target base t s a p q =
    λ i. record t { scheme = s i; authority = a i; path = p i; query = q i }

query-form-leads-to-target : (base t : Components) → base.scheme ≡ t.scheme
    → base.authority ≡ t.authority → base.path ≡ t.path → is_some t.query ≡ true
    → target base (record t { scheme = None; authority = None; path = [] }) ≡ t
query-form-leads-to-target base t s a p some =
    let q : cond (is_some t.query) t.query base.query ≡ t.query = cond-true _ _ _ some in
    λ i. record t { scheme = s i; authority = a i; path = p i; query = q i }

module _ (prefers : Bool) (base : List ℕ) (t : Components) (w : IsPlainTarget t) where
  -- the reference leads from the base to the target
  abbrev Leads : Components → Type 0
  Leads r = basic_resolution (components base) (components (recompose r)) ≡ Ok (recompose t)

  target-leads : Leads t
  target-leads = text-of-leading-reference-leads (components base) t t w w.split
      (whole-target-leads-to-itself (components base) t w)

  authority-leads : (components base).scheme ≡ t.scheme → Leads (from_authority t)
  authority-leads s = cond_both (is_some t.authority) (record t { scheme = None }) t Leads
      (λ some. text-of-leading-reference-leads (components base) t (record t { scheme = None }) w
      (authority-form-is-split t w some)
      (authority-form-leads-to-target (components base) t w some s))
      (λ _. target-leads)

  path-leads : (components base).scheme ≡ t.scheme → (components base).authority ≡ t.authority
      → is_opaque (components base) ≡ false → IsAbsolute t.path
      → Leads (record t {
        scheme = None;
        authority = None;
        path = shortest_or_preferred_path prefers (components base).path
            (Dots.remove_dot_segments t.path);
      })
  path-leads s a opaque h =
      let path = shortest_or_preferred_path prefers (components base).path
      (Dots.remove_dot_segments t.path) in
      let by : LeadsByPath (components base) t.path path = subst (λ p. LeadsByPath (components base)
      t.path (shortest_or_preferred_path prefers (components base).path p))
      (sym (plain-path-is-without-dots t w h)) (chosen-path-leads-to-path prefers (components base)
      t.path opaque (base-that-is-not-opaque-is-rooted base opaque) (plain-path-is-final t w h)) in
      search (
        rules,
        text-of-leading-reference-leads,
        path-and-query-are-split,
        path-form-leads-to-target,
      )

  made-reference-leads : Leads (reference_components prefers (components base) t)
  unfolding reference_components
  made-reference-leads =
      let b = components base in
      cond_both (not (has_same_scheme b t)) _ _ Leads (λ _. target-leads)
      (λ same. let s = components-that-pass-test-are-equal b.scheme t.scheme (not-false _ same) in
      cond_both (has_same_authority_and_path b t && has_same_query b t) _ _ Leads
      (λ e. let both = and_parts (has_same_authority_and_path b t) _ e in
      let place = and_parts (has_same_authority b t) _ both.0 in
      text-of-leading-reference-leads b t
      (record t { scheme = None; authority = None; path = []; query = None }) w
      (pathless-form-is-split t None tt)
      (fragment-form-leads-to-target b t s
      (components-that-pass-test-are-equal b.authority t.authority place.0)
      ((bytes_eq-Decides b.path t.path).0 place.1)
      (components-that-pass-test-are-equal b.query t.query both.1)))
      (λ _. cond_both (is_opaque b) _ _ Leads (λ _. target-leads)
      (λ opaque. cond_both (has_same_authority_and_path b t && is_some t.query) _ _ Leads
      (λ e. let both = and_parts (has_same_authority_and_path b t) _ e in
      let place = and_parts (has_same_authority b t) _ both.0 in
      text-of-leading-reference-leads b t
      (record t { scheme = None; authority = None; path = [] }) w
      (pathless-form-is-split t t.query w.split.query)
      (query-form-leads-to-target b t s
      (components-that-pass-test-are-equal b.authority t.authority place.0)
      ((bytes_eq-Decides b.path t.path).0 place.1) both.1))
      (λ _. cond_both (has_same_authority b t && starts slash t.path) _ _ Leads
      (λ e. let both = and_parts (has_same_authority b t) _ e in
      path-leads s (components-that-pass-test-are-equal b.authority t.authority both.0) opaque
      (equal-to-true-is-IsTrue _ both.1))
      (λ _. authority-leads s)))))

settled-target-is-plain : (text : List ℕ) → is_some (components text).scheme ≡ true
    → has_literal_dot_segment (settled text).path ≡ false → IsPlainTarget (settled text)
settled-target-is-plain text some literal = record {
  split = subst (IsSplitOf (recompose (settled text)))
      (settled-text-has-settled-components text some)
      (components-are-split-of-text (recompose (settled text)));
  scheme = some;
  settled = final-path-is-idempotent (components text);
  literal = literal;
}

target-without-dots-is-settled : (text : List ℕ)
    → lacks_dot_segments (components text).path ≡ true → settled text ≡ components text
target-without-dots-is-settled text dotless = ⊎_elim
    (λ h. dotless-target-is-settled (components text)
    (components-are-split-of-text text).no_authority (equal-to-true-is-IsTrue _ h) dotless)
    (λ h. rootless-target-is-settled (components text) h)
    (cases_Bool (starts slash (components text).path))

pub reference-to-settled-target-leads : (prefers : Bool) (base target : List ℕ)
    → is_some (components target).scheme ≡ true
    → has_literal_dot_segment (settled target).path ≡ false
    → basic_resolution_of_texts base (reference_to prefers base target)
    ≡ Ok (recompose (settled target))
unfolding reference_to
reference-to-settled-target-leads prefers base target some literal =
    made-reference-leads prefers base (settled target) (settled-target-is-plain target some literal)

pub reference-to-target-without-dots-leads : (prefers : Bool) (base target : List ℕ)
    → is_some (components target).scheme ≡ true → lacks_dot_segments (components target).path ≡ true
    → basic_resolution_of_texts base (reference_to prefers base target) ≡ Ok target
reference-to-target-without-dots-leads prefers base target some dotless =
    let same = target-without-dots-is-settled target dotless in
    reference-to-settled-target-leads prefers base target some
    (cc (dotless-path-has-no-literal-dot (components target).path dotless))
    ∙ ap (λ c. Ok (recompose c)) same ∙ ap (λ x. Ok x) (recompose-components target)
