-- Where nothing deviates, the basic algorithm and `Resolver` have the same target.
use native.Mathlib.Omega.{arith}
use Rattle.uri_basic.proofs.Common.{◌≡◌, ℕ, true, false, not, List, [], refl, ap, subst, rules, ◌∙◌, ◌&&◌, ⊎_elim, Ok, Option, is_none, is_some, and_from, and_right, cases_Bool, cond-true, cond-false, and_left, false≢true, not_from_false, Components, components, recompose, starts, equal-to-true-is-IsTrue, directory, is_double_dot, is_empty, last_segment, dotless_if_absolute, dotted_target, guarded, is_opaque, merged, resolution_of, target_of, remove-dots-of-dotless, merging-base-is-not-opaque, not_some_is_none, some_is_not_none, NothingDeviates, has_encoded_dot_segment, has_literal_dot_segment, is_merged, takes_base_path, remove_dot_segments, basic_resolution, basic_resolution_of_texts, is_ambiguous, merge, target}
use Rattle.uri_ops.proofs.Offered.{empty-text-is-nil, resolution-is-unique}
use Rattle.uri_relative.specs.Leading.{LeadsTo, settled, without_fragment}
use Rattle.uri_basic.proofs.SameRemovals.{removal-of-path-without-dots, same-removal}

same-path-without-dots : (path : List ℕ)
    → (starts 47 path ≡ true → has_encoded_dot_segment path ≡ false)
    → (starts 47 path ≡ false → has_literal_dot_segment path ≡ false)
    → dotless_if_absolute path ≡ remove_dot_segments path
same-path-without-dots path literal rootless =
    grind (arith, same-removal, removal-of-path-without-dots)

same-target : (base r d t : Components) → dotted_target base r ≡ d → target base r ≡ t
    → (path : List ℕ) → dotless_if_absolute d.path ≡ path → record d { path = path } ≡ t
    → is_ambiguous (target base r) ≡ false → target_of base r ≡ target base r
same-target base r d t is_d is_t path same whole clear = grind (arith, rules, guarded, cond-false)

pub base-with-empty-path-has-authority : (o : Option (List ℕ)) (path : List ℕ)
    → (is_none o && not (starts 47 path)) ≡ false → path ≡ [] → is_some o ≡ true
base-with-empty-path-has-authority o path e h = grind (arith, false≢true, starts)

same-merged-path : (base : Components) (path : List ℕ) → is_opaque base ≡ false
    → is_double_dot (last_segment base.path) ≡ false → merged base.path path ≡ merge base path
unfolding directory
same-merged-path base path opaque last = ⊎_elim
    (search (rules, base-with-empty-path-has-authority, empty-text-is-nil, cond-true, and_from))
    (search (rules, cond-false, and_right)) (cases_Bool (is_empty base.path))

same-targets : (base r : Components) → NothingDeviates base r → target_of base r ≡ target base r
same-targets base r n =
    let D : Components → Type 0 = λ d. starts 47 d.path ≡ true
    → has_encoded_dot_segment d.path ≡ false in
    let L : Components → Type 0 = λ d. starts 47 d.path ≡ false
    → has_literal_dot_segment d.path ≡ false in
    ⊎_elim
    (λ s.
    let own : takes_base_path r ≡ false =
    and_left _ _ (and_left _ _ (some_is_not_none r.scheme s)) in
    let d : dotted_target base r ≡ r = cond-true _ _ _ s in
    same-target base r r _ d (cond-true _ _ _ s) (remove_dot_segments r.path)
    (same-path-without-dots r.path (subst D d (n.literal own)) (subst L d (n.rootless own)))
    refl n.unguarded)
    (λ s. ⊎_elim
    (λ a.
    let own : takes_base_path r ≡ false =
    and_left _ _ (and_right (is_none r.scheme) _ (some_is_not_none r.authority a)) in
    let d : dotted_target base r ≡ record r { scheme = base.scheme } =
    cond-false _ _ _ s ∙ cond-true _ _ _ a in
    same-target base r (record r { scheme = base.scheme }) _ d
    (cond-false _ _ _ s ∙ cond-true _ _ _ a) (remove_dot_segments r.path)
    (same-path-without-dots r.path (subst D d (n.literal own)) (subst L d (n.rootless own)))
    refl n.unguarded)
    (λ a. ⊎_elim
    (λ e.
    let takes : takes_base_path r ≡ true =
    and_from _ _ (and_from _ _ (not_some_is_none r.scheme s) (not_some_is_none r.authority a)) e in
    same-target base r _ _ (cond-false _ _ _ s ∙ cond-false _ _ _ a ∙ cond-true _ _ _ e)
    (cond-false _ _ _ s ∙ cond-false _ _ _ a ∙ cond-true _ _ _ e) base.path
    (⊎_elim
    (λ h. cond-true _ _ _ h
    ∙ remove-dots-of-dotless base.path (equal-to-true-is-IsTrue _ h) (n.base_path takes h))
    (λ h. cond-false _ _ _ h) (cases_Bool (starts 47 base.path))) refl n.unguarded)
    (λ e.
    let own : takes_base_path r ≡ false = and_right (is_none r.scheme && is_none r.authority) _ e in
    ⊎_elim
    (λ f.
    let d : dotted_target base r
    ≡ record base { path = r.path; query = r.query; fragment = r.fragment } =
    cond-false _ _ _ s ∙ cond-false _ _ _ a ∙ cond-false _ _ _ e ∙ cond-true _ _ _ f in
    same-target base r (record base { path = r.path; query = r.query; fragment = r.fragment }) _ d
    (cond-false _ _ _ s ∙ cond-false _ _ _ a ∙ cond-false _ _ _ e ∙ cond-true _ _ _ f)
    (remove_dot_segments r.path)
    (same-path-without-dots r.path (subst D d (n.literal own)) (subst L d (n.rootless own)))
    refl n.unguarded)
    (λ f.
    let joins : is_merged r ≡ true =
    and_from _ _ (and_from _ _ (and_from _ _ (not_some_is_none r.scheme s)
    (not_some_is_none r.authority a)) (not_from_false _ e)) (not_from_false _ f) in
    let d : dotted_target base r
    ≡ record base { path = merged base.path r.path; query = r.query; fragment = r.fragment } =
    cond-false _ _ _ s ∙ cond-false _ _ _ a ∙ cond-false _ _ _ e ∙ cond-false _ _ _ f in
    let paths : merged base.path r.path ≡ merge base r.path = same-merged-path base r.path
    (merging-base-is-not-opaque base r n.taken (not_some_is_none r.scheme s) e) (n.last joins) in
    same-target base r
    (record base { path = merged base.path r.path; query = r.query; fragment = r.fragment }) _ d
    (cond-false _ _ _ s ∙ cond-false _ _ _ a ∙ cond-false _ _ _ e ∙ cond-false _ _ _ f)
    (remove_dot_segments (merge base r.path))
    (same-path-without-dots (merged base.path r.path) (subst D d (n.literal own))
    (subst L d (n.rootless own))
    ∙ ap remove_dot_segments paths)
    refl n.unguarded)
    (cases_Bool (starts 47 r.path)))
    (cases_Bool (is_empty r.path)))
    (cases_Bool (is_some r.authority)))
    (cases_Bool (is_some r.scheme))

-- targets: where nothing deviates, both algorithms return the same text
pub same-resolutions : (base r : Components) → NothingDeviates base r
    → (resolution_of base r ≡ Ok (recompose (target base r)))
    × (basic_resolution base r ≡ Ok (recompose (target base r)))
same-resolutions base r n = search (rules, cond-false, same-targets)

pub leading-reference-resolves : (base target reference : List ℕ) → LeadsTo base target reference
    → NothingDeviates (without_fragment (components base)) (components reference)
    → basic_resolution_of_texts base reference ≡ Ok (recompose (settled target))
leading-reference-resolves base target reference leads nothing =
    let same = same-resolutions (without_fragment (components base)) (components reference)
    nothing in
    same.1 ∙ ap (λ t. Ok t) (resolution-is-unique _ _ _ same.0 leads.leads)
