-- What the references of each form resolve to: RFC 3986, section 5.2.2.
use Rattle.uri_relative.proofs.Common.{◌≡◌, ℕ, Bool, true, false, List, [], ◌&&◌, refl, sym, ap, ◌∙◌, ⊎_elim, arith, Option, None, is_some, cases_Bool, cond-true, cond-false, nat_tests, eq_true_from_IsTrue, slash, Components, IsAbemptyPath, starts, remove_dot_segments, underflows, dotless_if_absolute, underflows_if_absolute, guarded, dotted_target, merged, target_of, target_underflows, with_final_path, IsPathTo, joined_path}
use Rattle.uri_ops.proofs.Offered.{merged-path-is-absolute}

-- general fact on records, for relativized references: components are equal if each is
equal-parts-make-equal-components : (c d : Components) → c.scheme ≡ d.scheme → c.authority
    ≡ d.authority
    → c.path ≡ d.path → c.query ≡ d.query → c.fragment ≡ d.fragment → c ≡ d
equal-parts-make-equal-components c d s a p q f = grind (arith, nat_tests)

-- relativized references: the path of the target is that of base and reference joined, without dot
-- segments and guarded; a: the authority
joined-path-is-target-path : (a : Option (List ℕ)) (base way joins path whole : List ℕ)
    → IsPathTo base path way → joined_path base way ≡ joins → starts slash joins ≡ true
    → guarded a path ≡ whole → guarded a (dotless_if_absolute joins) ≡ whole
joined-path-is-target-path a base way joins path whole w e rooted g =
    ap (guarded a) (cond-true _ _ _ rooted ∙ ap remove_dot_segments (sym e) ∙ w.leads) ∙ g

-- relativized references: a reference that is a path (way) alone leads to the target t, if base b
-- and target have the same scheme and authority
pub target_of-path-form : (b t : Components) (path way : List ℕ) → b.scheme ≡ t.scheme
    → b.authority ≡ t.authority → IsAbemptyPath b.path → guarded t.authority path ≡ t.path
    → IsPathTo b.path path way
    → target_of b (record t { scheme = None; authority = None; path = way }) ≡ t
target_of-path-form b t path way s a rooted g w =
    let r : Components = record t { scheme = None; authority = None; path = way } in
    let whole : guarded b.authority path ≡ t.path = ap (λ x. guarded x path) a ∙ g in
    ⊎_elim (grind (arith, equal-parts-make-equal-components, joined-path-is-target-path))
    (λ h. let m = merged b.path way in
    let c : Components = record b { path = m; query = t.query; fragment = t.fragment } in
    let j : dotted_target b r ≡ c = cond-false _ _ _ w.some ∙ cond-false _ _ _ h in
    let k : joined_path b.path way ≡ m = cond-false _ _ _ w.some ∙ cond-false _ _ _ h in
    ap with_final_path j ∙ equal-parts-make-equal-components (with_final_path c) t s a
    (joined-path-is-target-path b.authority b.path way m path t.path w k
    (eq_true_from_IsTrue _ (merged-path-is-absolute b.path way rooted)) whole) refl refl)
    (cases_Bool (starts slash way))

pub target_of-authority-form : (b t : Components) → b.scheme ≡ t.scheme → is_some t.authority ≡ true
    → with_final_path t ≡ t → target_of b (record t { scheme = None }) ≡ t
target_of-authority-form b t s some done = grind (arith, nat_tests)

-- relativized references: one of a fragment alone, or empty, leads to a target that differs from
-- the base in the fragment only
pub target_of-fragment-form : (b t : Components) → b.scheme ≡ t.scheme → b.authority ≡ t.authority
    → b.path ≡ t.path → b.query ≡ t.query → with_final_path t ≡ t
    → target_of b (record t { scheme = None; authority = None; path = []; query = None }) ≡ t
target_of-fragment-form b t s a p q done = grind (arith, equal-parts-make-equal-components)

-- relativized references: one that begins with `?` leads to a target with a query and the base's
-- path
pub target_of-query-form : (b t : Components) → b.scheme ≡ t.scheme → b.authority ≡ t.authority
    → b.path ≡ t.path → is_some t.query ≡ true → with_final_path t ≡ t
    → target_of b (record t { scheme = None; authority = None; path = [] }) ≡ t
target_of-query-form b t s a p some done =
    grind (arith, nat_tests, equal-parts-make-equal-components)

pub target_of-whole-target : (b t : Components) → is_some t.scheme ≡ true → with_final_path t ≡ t
    → target_of b t ≡ t
target_of-whole-target b t some done =
    let j : dotted_target b t ≡ t = cond-true _ _ _ some in ap with_final_path j ∙ done

-- relativized references: one that is a path that leads to the target doesn't underflow
pub path-form-does-not-underflow : (b t : Components) (path way : List ℕ) → IsAbemptyPath b.path
    → IsPathTo b.path path way
    → target_underflows b (record t { scheme = None; authority = None; path = way }) ≡ false
path-form-does-not-underflow b t path way rooted w =
    let r : Components = record t { scheme = None; authority = None; path = way } in
    ⊎_elim
    (λ h. let j : (dotted_target b r).path ≡ way =
    ap (λ (c : Components). c.path) (let k : dotted_target b r
    ≡ record b { path = way; query = t.query; fragment = t.fragment } =
    cond-false _ _ _ w.some ∙ cond-true _ _ _ h in k) in
    let k : joined_path b.path way ≡ way = cond-false _ _ _ w.some ∙ cond-true _ _ _ h in
    below_as (dotted_target b r).path way (joined_path b.path way) j k w.below)
    (λ h. let m = merged b.path way in
    let j : (dotted_target b r).path ≡ m =
    ap (λ (c : Components). c.path) (let k : dotted_target b r
    ≡ record b { path = m; query = t.query; fragment = t.fragment } =
    cond-false _ _ _ w.some ∙ cond-false _ _ _ h in k) in
    let k : joined_path b.path way ≡ m = cond-false _ _ _ w.some ∙ cond-false _ _ _ h in
    below_as (dotted_target b r).path m (joined_path b.path way) j k w.below)
    (cases_Bool (starts slash way))
  where
    none_and : (b : Bool) → (b && false) ≡ false
    none_and true = refl
    none_and false = refl

    below_as : (p q joins : List ℕ) → p ≡ q → joins ≡ q → underflows joins ≡ false
        → underflows_if_absolute p ≡ false
    below_as p q joins e f h =
        ap underflows_if_absolute e
        ∙ ap (λ u. starts slash q && u) (ap underflows (sym f) ∙ h) ∙ none_and (starts slash q)
