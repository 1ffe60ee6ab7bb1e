-- The text of a target has the components that were put into it.
use Rattle.uri_ops.proofs.Common.{◌≡◌, ℕ, ◌<◌, true, false, cond, List, ◌++◌, length, refl, ◌||◌, inr, arith, codes, Option, Some, None, IfSome, IfNone, is_some, cond_both, All-append, nat_tests, is_one_of, Components, IsSplitOf, Lacks, IsAbemptyPath, starts, has_authority, components, recompose, only-split-is-components, components-are-split-of-text, equal-to-true-is-IsTrue, is_empty, remove_dot_segments, directory, IsAbsolute, is_fragment_only, merged, dotted_target, dotless_if_absolute, guarded, target_of, common_steps}
use Rattle.uri_ops.proofs.Paths.DotLaws.{removing-dots-keeps-absolute, directory-is-absolute}
use Rattle.uri_ops.proofs.Paths.PathCharacters.{removing-dots-adds-no-character, directory-adds-no-character}

-- targets: components have a scheme, and each lacks the characters that would end it
record IsSplittable (c : Components) : Type 0 where
  pub some : is_some c.scheme ≡ true
  pub scheme : IfSome c.scheme (λ s. (0 < length s) × Lacks (codes ":/?#") s)
  pub authority : IfSome c.authority (λ a. Lacks (codes "/?#") a × IsAbemptyPath c.path)
  pub path : Lacks (codes "?#") c.path
  pub query : IfSome c.query (λ q. Lacks (codes "#") q)

-- targets: an absolute path with any text after it is absolute
pub appended-absolute-path-is-absolute : (path q : List ℕ) → IsAbsolute path
    → IsAbsolute (path ++ q)
appended-absolute-path-is-absolute path q h = grind (arith, common_steps)

-- general fact on options, for authorities of a target: what is known of the path after one implies
-- another property of it
pub authority-property-implies-other-if-some : (o : Option (List ℕ)) (P Q : Type 0) → (P → Q)
    → IfSome o (λ a. Lacks (codes "/?#") a × P) → IfSome o (λ a. Lacks (codes "/?#") a × Q)
authority-property-implies-other-if-some o q r f h = grind (arith, common_steps, f)

-- resolving: the components of a target by the table of RFC 3986, section 5.2.2, are split off
-- again when its text is parsed
dotted_target-is-splittable : (b t : List ℕ) (base r : Components) → is_some base.scheme ≡ true
    → IsSplitOf b base → IsSplitOf t r → IsSplittable (dotted_target base r)
dotted_target-is-splittable b t base r some is_base is_reference =
    cond_both (is_some r.scheme) r _ IsSplittable (λ h. record {
      some = h;
      scheme = is_reference.scheme;
      authority = is_reference.authority;
      path = is_reference.path;
      query = is_reference.query;
    }) (λ h. cond_both
    (is_some r.authority) (record r { scheme = base.scheme }) _ IsSplittable (λ h. record {
      some = some;
      scheme = is_base.scheme;
      authority = is_reference.authority;
      path = is_reference.path;
      query = is_reference.query;
    }) (λ h. cond_both (is_empty r.path)
    (record base { query = cond (is_some r.query) r.query base.query; fragment = r.fragment })
    _ IsSplittable (λ h. record {
      some = some;
      scheme = is_base.scheme;
      authority = is_base.authority;
      path = is_base.path;
      query = cond_both (is_some r.query) r.query base.query
          (λ o. IfSome o (λ q. Lacks (codes "#") q)) (λ _. is_reference.query) (λ _. is_base.query);
    }) (λ h. cond_both
    (starts 47 r.path) (record base { path = r.path; query = r.query; fragment = r.fragment })
    (record base { path = merged base.path r.path; query = r.query; fragment = r.fragment })
    IsSplittable (λ h. record {
      some = some;
      scheme = is_base.scheme;
      authority = authority-property-implies-other-if-some base.authority (IsAbemptyPath base.path)
          (IsAbemptyPath r.path) (λ _. inr (equal-to-true-is-IsTrue _ h)) is_base.authority;
      path = is_reference.path;
      query = is_reference.query;
    }) (λ h. record {
      some = some;
      scheme = is_base.scheme;
      authority = authority-property-implies-other-if-some base.authority (IsAbemptyPath base.path)
          (IsAbemptyPath (merged base.path r.path)) (λ k. inr (appended-absolute-path-is-absolute
          (directory base.path) r.path (directory-is-absolute base.path k))) is_base.authority;
      path = All-append (λ c. is_one_of (codes "?#") c ≡ false) (directory base.path) r.path
          (directory-adds-no-character (codes "?#") refl base.path is_base.path) is_reference.path;
      query = is_reference.query;
    }))))

-- resolving: without its dot segments, a path is empty or begins with `/` if it is or does
pub dotless-abempty-path-is-abempty : (path : List ℕ) → IsAbemptyPath path
    → IsAbemptyPath (dotless_if_absolute path)
dotless-abempty-path-is-abempty path h =
    grind (arith, nat_tests, cond_both, removing-dots-keeps-absolute, equal-to-true-is-IsTrue)

-- resolving: removing dot segments gives a path neither `?` nor `#`
dotless-path-lacks-its-ends : (path : List ℕ) → Lacks (codes "?#") path
    → Lacks (codes "?#") (dotless_if_absolute path)
dotless-path-lacks-its-ends path h = cond_both (starts 47 path) (remove_dot_segments path) path
    (Lacks (codes "?#")) (λ e. removing-dots-adds-no-character (codes "?#") refl path
    (equal-to-true-is-IsTrue _ e) h) (λ e. h)

pub guarded-path-without-authority-has-no-two-slashes : (authority : Option
    (List ℕ)) (path : List ℕ) → IfNone authority (has_authority (guarded authority path) ≡ false)
guarded-path-without-authority-has-no-two-slashes None path = grind (arith, nat_tests, cond_both)
guarded-path-without-authority-has-no-two-slashes (Some a) path = tt

-- general fact on options, for components of a target: one that is there makes each statement on
-- its absence true
pub option-that-is-some-has-no-none : (o : Option (List ℕ)) (P : Type 0) → is_some o ≡ true
    → IfNone o P
option-that-is-some-has-no-none o q h = grind (arith, common_steps)

-- resolving: a target's path without dot segments, guarded,
-- is split off again when its text is parsed
guarded-target-is-split-of-its-text : (t : Components) → IsSplittable t
    → IsSplitOf (recompose (record t { path = guarded t.authority (dotless_if_absolute t.path) }))
    (record t { path = guarded t.authority (dotless_if_absolute t.path) })
guarded-target-is-split-of-its-text t fits =
    grind (arith, dotless-abempty-path-is-abempty, dotless-path-lacks-its-ends)

pub target-components-are-split : (base reference : List ℕ)
    → is_some (components base).scheme ≡ true → IsSplitOf (recompose (target_of (components base)
    (components reference))) (target_of (components base) (components reference))
target-components-are-split base reference some =
    guarded-target-is-split-of-its-text (dotted_target (components base) (components reference))
    (dotted_target-is-splittable base reference (components base) (components reference) some
    (components-are-split-of-text base) (components-are-split-of-text reference))

-- resolving: the components of a target's text are those of the
-- target (RFC 3986, sections 5.2.2 and 5.3)
pub target-text-has-target-components : (base reference : List ℕ) → is_some (components base).scheme
    ≡ true → components (recompose (target_of (components base) (components reference)))
    ≡ target_of (components base) (components reference)
target-text-has-target-components base reference some =
    only-split-is-components _ _ (target-components-are-split base reference some)

-- resolving: a reference is a fragment alone exactly if it is empty or begins with `#` (35)
pub fragment_only_is_empty_or_leading_hash : (text : List ℕ)
    → is_fragment_only (components text) ≡ (is_empty text || starts 35 text)
fragment_only_is_empty_or_leading_hash text = grind (arith, nat_tests)
