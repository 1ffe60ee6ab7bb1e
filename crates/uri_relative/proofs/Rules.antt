-- Which reference is chosen.
use Rattle.uri_relative.proofs.Common.{◌≡◌, ℕ, ◌<◌, ◌≤◌, Bool, true, false, not, ◌&&◌, List, [], length, ◌+◌, drop, sym, ap, ◌∙◌, arith, Option, None, Some, bytes_eq, is_none, is_some, Decides, and_from, and_left, and_parts, and_right, both_ways, cond-false, cond-true, false_from_ne_true, lt-leb, not_from_true, or_from, Decides-like, slash, Components, starts, lacks_dot_segments, or_slash, remove_dot_segments, guarded, is_opaque, remove-dots-of-dotless, IsUnguarded, NeedsPath, from_authority, IsLongestPrefix, IsSharedPrefix, relative_path, slashes, has_same_authority, has_same_query, has_same_scheme, path_from_base, reference_components, shortest_or_preferred_path, has_same_authority_and_path}
use Rattle.std.specs.Option.{option_eq}
use Rattle.std.proofs.lemmas.Slice.Eq.{bytes_eq-Decides}
use Rattle.uri_relative.proofs.Climbs.{remove_dot_segments-follows-dots}
use Rattle.uri_relative.proofs.SharedLengths.{longest-shared-prefix-has-shared_directory_len}
use Rattle.uri_relative.proofs.Ways.{guard-counts-as-no-segment}

pub path-from-root-for-base-with-dots : (prefers : Bool) (base path : List ℕ)
    → lacks_dot_segments base ≡ false
    → guarded None path ≡ shortest_or_preferred_path prefers base path
unfolding shortest_or_preferred_path
path-from-root-for-base-with-dots prefers base path e = sym (cond-false _ _ _ (and_left _ _ e))

-- relativized references: the path from the root is chosen where it is shorter, unless a relative
-- one is preferred
pub path-from-root-if-shorter : (prefers : Bool) (base path : List ℕ) → prefers ≡ false
    → length (guarded None path) < length (path_from_base base path)
    → guarded None path ≡ shortest_or_preferred_path prefers base path
unfolding shortest_or_preferred_path
path-from-root-if-shorter prefers base path e h =
    sym (cond-false _ _ _ (and_right _ _ (or_from prefers _ e (lt-leb _ _ h))))

pub relative-path-if-no-longer : (prefers : Bool) (base path : List ℕ) → lacks_dot_segments base
    ≡ true
    → (prefers ≡ false → length (path_from_base base path) ≤ length (guarded None path))
    → path_from_base base path ≡ shortest_or_preferred_path prefers base path
unfolding shortest_or_preferred_path
relative-path-if-no-longer prefers base path dotless h = grind arith

-- relativized references: the path that is relative to the base's, by the shared prefix that the
-- code finds
pub relative-path-by-longest-prefix : (given base path bytes others rest : List ℕ)
    (last double_dots : ℕ) → base ≡ or_slash given → bytes ≡ base → others ≡ path
    → last < length bytes → IsSharedPrefix (last + 1) bytes others
    → IsLongestPrefix (last + 1) bytes others → double_dots ≡ slashes (drop (last + 1) base)
    → rest ≡ drop (last + 1) path → relative_path double_dots rest ≡ path_from_base given path
relative-path-by-longest-prefix given base path bytes others rest last double_dots root e f h shared
    longest g k =
    grind (arith, longest-shared-prefix-has-shared_directory_len)

pub unguarded-path-is-without-dots : (t : Components) (path : List ℕ) → IsUnguarded t path
    → path ≡ remove_dot_segments t.path
unguarded-path-is-without-dots t path u =
    let dotless = remove-dots-of-dotless path u.absolute u.dotless in
    let clean : remove_dot_segments (guarded t.authority path) ≡ path =
    grind (arith, guard-counts-as-no-segment, remove_dot_segments-follows-dots) in
    sym clean ∙ ap remove_dot_segments u.guards

-- relativized references: comparing two components decides whether they are equal
option-test-decides-equality : (p q : Option (List ℕ)) → Decides (option_eq bytes_eq p q) (p ≡ q)
option-test-decides-equality p q = grind (arith, Decides-like, bytes_eq-Decides)

-- general fact on booleans, for the choice of a reference, in relativizing, in relativizing, in
-- relativizing, in relativizing: a test of what is refuted fails
refuted-test-is-false : (b : Bool) (P : Type 0) → Decides b P → (P → ⊥) → b ≡ false
refuted-test-is-false b P d other = false_from_ne_true b (λ e. other (d.0 e))

module _ (prefers : Bool) (base t : Components) where
  equal-schemes-pass-test : base.scheme ≡ t.scheme → not (has_same_scheme base t) ≡ false
  equal-schemes-pass-test s = not_from_true _
      ((option-test-decides-equality base.scheme t.scheme).1 s)

  equal-authority-and-path-pass-test : base.authority ≡ t.authority → base.path ≡ t.path
      → has_same_authority_and_path base t ≡ true
  equal-authority-and-path-pass-test a p =
      grind (arith, option-test-decides-equality, bytes_eq-Decides)

  other_query : (base.query ≡ t.query → ⊥)
      → (has_same_authority_and_path base t && has_same_query base t) ≡ false
  other_query other = grind (arith, refuted-test-is-false, option-test-decides-equality)

  target-that-needs-path-differs : NeedsPath base t
      → (has_same_authority_and_path base t && has_same_query base t) ≡ false
  target-that-needs-path-differs n = false_from_ne_true _ (λ e.
      let both = and_parts (has_same_authority_and_path base t) _ e in
      let place = and_parts (has_same_authority base t) _ both.0 in
      n.other_query ((option-test-decides-equality base.authority t.authority).0 place.0)
      ((bytes_eq-Decides base.path t.path).0 place.1)
      ((option-test-decides-equality base.query t.query).0 both.1))

  target-that-needs-path-has-no-query-form : NeedsPath base t → is_opaque base ≡ false
      → (has_same_authority_and_path base t && is_some t.query) ≡ false
  target-that-needs-path-has-no-query-form n opaque = false_from_ne_true _ (λ e.
      let both = and_parts (has_same_authority_and_path base t) _ e in
      let place = and_parts (has_same_authority base t) _ both.0 in
      none_or_some t.query (n.no_query
      ((option-test-decides-equality base.authority t.authority).0 place.0)
      ((bytes_eq-Decides base.path t.path).0 place.1) opaque) both.1)
    where
      none_or_some : (o : Option (List ℕ)) → is_none o ≡ true → is_some o ≡ true → ⊥
      none_or_some None e f = cc
      none_or_some (Some q) e f = cc

  pub rule-gives-target-for-other-scheme : (base.scheme ≡ t.scheme → ⊥) → t
      ≡ reference_components prefers base t
  unfolding reference_components
  rule-gives-target-for-other-scheme other =
      grind (arith, refuted-test-is-false, option-test-decides-equality)

  pub rule-gives-fragment-for-same-query : base.scheme ≡ t.scheme → base.authority ≡ t.authority
      → base.path ≡ t.path → base.query ≡ t.query
      → record t { scheme = None; authority = None; path = []; query = None }
      ≡ reference_components prefers base t
  unfolding reference_components
  rule-gives-fragment-for-same-query s a p q = sym (cond-false _ _ _ (equal-schemes-pass-test s)
      ∙ cond-true _ _ _ (and_from _ _ (equal-authority-and-path-pass-test a p)
      ((option-test-decides-equality base.query t.query).1 q)))

  pub rule-gives-target-for-opaque-base : base.scheme ≡ t.scheme → NeedsPath base t
      → is_opaque base ≡ true → t ≡ reference_components prefers base t
  unfolding reference_components
  rule-gives-target-for-opaque-base s n opaque =
      grind (arith, equal-schemes-pass-test, target-that-needs-path-differs)

  pub rule-gives-query-for-same-path : base.scheme ≡ t.scheme → base.authority ≡ t.authority
      → base.path ≡ t.path
      → (base.query ≡ t.query → ⊥) → is_opaque base ≡ false → is_some t.query ≡ true
      → record t { scheme = None; authority = None; path = [] }
      ≡ reference_components prefers base t
  unfolding reference_components
  rule-gives-query-for-same-path s a p other opaque some =
      grind (arith, equal-schemes-pass-test, other_query, equal-authority-and-path-pass-test)

  pub rule-gives-authority : base.scheme ≡ t.scheme → NeedsPath base t → is_opaque base ≡ false
      → (base.authority ≡ t.authority → starts slash t.path ≡ false)
      → from_authority t ≡ reference_components prefers base t
  unfolding reference_components
  rule-gives-authority s n opaque rootless =
      sym (cond-false _ _ _ (equal-schemes-pass-test s)
      ∙ cond-false _ _ _ (target-that-needs-path-differs n)
      ∙ cond-false _ _ _ opaque
      ∙ cond-false _ _ _ (target-that-needs-path-has-no-query-form n opaque)
      ∙ cond-false _ _ _ (false_from_ne_true _ (λ e.
      let both = and_parts (has_same_authority base t) _ e in
      both_ways _ (rootless ((option-test-decides-equality base.authority t.authority).0 both.0))
      both.1)))

  pub rule-gives-path-for-same-authority : base.scheme ≡ t.scheme → base.authority ≡ t.authority
      → NeedsPath base t
      → is_opaque base ≡ false → starts slash t.path ≡ true → (way : List ℕ)
      → way ≡ shortest_or_preferred_path prefers base.path (remove_dot_segments t.path)
      → record t { scheme = None; authority = None; path = way }
      ≡ reference_components prefers base t
  unfolding reference_components
  rule-gives-path-for-same-authority s a n opaque absolute way e =
      ap (λ w. record t { scheme = None; authority = None; path = w }) e ∙ sym
      (cond-false _ _ _ (equal-schemes-pass-test s)
      ∙ cond-false _ _ _ (target-that-needs-path-differs n) ∙ cond-false _ _ _ opaque
      ∙ cond-false _ _ _ (target-that-needs-path-has-no-query-form n opaque) ∙ cond-true _ _ _
      (and_from _ _ ((option-test-decides-equality base.authority t.authority).1 a) absolute))
