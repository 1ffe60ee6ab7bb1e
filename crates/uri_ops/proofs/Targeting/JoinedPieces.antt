-- What a target has of a base and a reference (section 5.2.2), by what the reference has.
use Rattle.uri_ops.proofs.Common.{common_steps, ◌≡◌, ℕ, ◌+◌, true, false, List, [], ◌++◌, length, sym, ap, arith, ◌&&◌, append_assoc, option_map, codes, Option, Some, None, is_some, ◌==◌, cond-true, ne_eqb, nat_tests, Components, IsAbemptyPath, components, marked, recompose, starts, components-are-split-of-text, before_path, directory, is_empty, remove_dot_segments, underflows, dotless_if_absolute, underflows_if_absolute, is_opaque_rejection, merged, eq_true_from_IsTrue, not_some_is_none}
use Rattle.uri_ops.proofs.Paths.DotLaws.{directory-is-absolute}
use Rattle.uri_ops.proofs.Targeting.Swaps.{merging-base-is-not-opaque, base-that-is-not-opaque-has-abempty-path}
use Rattle.uri_ops.proofs.Targeting.Targets.{appended-absolute-path-is-absolute}

-- a base's path, which is empty or begins with `/`, merged with a reference's
module _ (base path : List ℕ) (rooted : IsAbemptyPath base) where
  merged-path-begins-with-slash : starts 47 (merged base path) ≡ true
  merged-path-begins-with-slash = eq_true_from_IsTrue _
      (appended-absolute-path-is-absolute (directory base) path (directory-is-absolute base rooted))

  pub merged-path-loses-dots-as-target-path : remove_dot_segments (merged base path)
      ≡ dotless_if_absolute (merged base path)
  merged-path-loses-dots-as-target-path = sym
      (cond-true (starts 47 (merged base path)) _ _ merged-path-begins-with-slash)

  pub merged-path-underflows-as-target-path : underflows (merged base path)
      ≡ underflows_if_absolute (merged base path)
  merged-path-underflows-as-target-path = sym
      (ap (λ x. x && underflows (merged base path)) merged-path-begins-with-slash)

-- resolving: a base path with which a path is merged is empty or begins with `/`; r: the reference
pub base-of-merged-path-is-rooted : (base : List ℕ) (r : Components)
    → is_opaque_rejection (components base) r ≡ false → is_some r.scheme ≡ false
    → is_empty r.path ≡ false → IsAbemptyPath (components base).path
base-of-merged-path-is-rooted base r refused s e =
    base-that-is-not-opaque-has-abempty-path (components base).authority (components base).path
    (merging-base-is-not-opaque (components base) r refused (not_some_is_none r.scheme s) e)
    (components-are-split-of-text base).authority

-- resolving: what is before a target's path, the path, and query and fragment,
-- appended one after the other, are its text
pub prefix-path-and-suffix-recompose : (t : Components) (o0 o1 o2 : List ℕ)
    → o1 ≡ o0 ++ (before_path t ++ t.path) → o2 ≡ o1 ++ (marked (codes "?") t.query []
    ++ marked (codes "#") t.fragment []) → o2 ≡ o0 ++ recompose t
prefix-path-and-suffix-recompose t o0 o1 o2 e1 e2 = grind (arith, nat_tests, append_assoc)

pub pushed-query-ends-at-length : (query : Option (List ℕ)) (o3 o4 : List ℕ) (end : ℕ)
    → is_some query ≡ true → o4 ≡ o3 ++ marked (codes "?") query []
    → end ≡ length o4 → Some end ≡ option_map (λ q. length o3 + 1 + length q) query
pushed-query-ends-at-length query o3 o4 end some e n = grind (arith, common_steps)

-- general fact on texts, for targets: one of length 0 is empty
pub zero-length-is-empty : (text : List ℕ) → (length text == 0) ≡ is_empty text
zero-length-is-empty text = grind (arith, common_steps, ne_eqb)

-- targets: a query without its `?` is absent, and has no end
pub empty-query-is-absent : (query : Option (List ℕ)) (text old : List ℕ)
    → text ≡ marked (codes "?") query [] → (length text == 0) ≡ true
    → None ≡ option_map (λ q. length old + 1 + length q) query
empty-query-is-absent query text old is e = grind (arith, common_steps, zero-length-is-empty)

pub query-with-bytes-is-there : (query : Option (List ℕ)) (text : List ℕ)
    → text ≡ marked (codes "?") query [] → (length text == 0) ≡ false → is_some query ≡ true
query-with-bytes-is-there query text is e = grind (arith, common_steps)
