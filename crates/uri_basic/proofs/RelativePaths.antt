-- The paths of relativized references: how they are parsed, and what they lead to.
use Rattle.uri_basic.proofs.Common.{◌≡◌, ℕ, zero, suc, ◌-◌, ◌<◌, Bool, true, false, not, cond, eqb, List, [], ◌∷◌, ◌++◌, ◌&&◌, ◌||◌, take, drop, refl, sym, ap, ◌∙◌, inr, ⊎_elim, arith, append_assoc, true≢false, rules, None, Option, codes, is_none, is_some, nat_lt, list_all, and_from, and_parts, and_right, cond-false, cond-true, cond_both, eq-eqb, eqb-true, false≢true, ltb-true, or_cases, or_left, or_parts, take-append-drop, list_all-append, eq_true_from_IsTrue, is_one_of, Components, IsAbemptyPath, Lacks, has_authority, starts, has_colon_in_first_segment, IsAbsolute, directory, is_empty, lacks_dot_segments, or_slash, up_to_last_slash, guarded, is_opaque, directory-is-absolute, remove-dots-of-dotless, lacked-delimiters-fail-test, test-of-delimiters-gives-lacks, appended-absolute-path-is-absolute, has_encoded_dot_segment, remove_dot_segments, merge}
use Rattle.uri_pct.specs.Delimiters.{slash}
use Rattle.uri_parts.proofs.Offered.{cons_is_not_nil}
use Rattle.uri_ops.specs.Dots as Dots
use Rattle.uri_ops.proofs.Offered.{absolute-path-is-slash-and-rest}
use Rattle.uri_relative.specs.Relative.{IsSharedPrefix, double_dots, needs_leading_dot, relative_path, slashes}
use Rattle.uri_relative.specs.Rule.{path_from_base, shared_directory_len, shortest_or_preferred_path}
use Rattle.uri_relative.proofs.Offered.{merged-relative-path-leads-to-path, remove_dot_segments-follows-dots, guard-counts-as-no-segment, rootless-path-has-no-authority}
use Rattle.uri_basic.proofs.DotSegments.{directory-of-dotless-path-is-up-to-last-slash, dotless-path-has-no-encoded-dot, dotless-path-has-no-literal-dot, encoded-dots-after-directory, encoded-dots-at-slash}
use Rattle.uri_basic.proofs.SameRemovals.{removal-of-path-without-dots, same-removal}
use Rattle.uri_basic.proofs.SameTargets.{base-with-empty-path-has-authority}

property-of-rest-holds-after-double-dots : (P : List ℕ → Type 0)
    → ((t : List ℕ) → P t → P (codes "../" ++ t)) → (n : ℕ) (rest : List ℕ) → P rest
    → P (double_dots n ++ rest)
unfolding double_dots
property-of-rest-holds-after-double-dots P up zero rest h = h
property-of-rest-holds-after-double-dots P up (suc n) rest h =
    up (double_dots n ++ rest) (property-of-rest-holds-after-double-dots P up n rest h)

property-of-rest-holds-of-relative-path : (P : List ℕ → Type 0) → P (codes ".") → P (codes "..")
    → ((t : List ℕ) → P t → P (codes "./" ++ t)) → ((t : List ℕ) → P t → P (codes "../" ++ t))
    → (n : ℕ) (rest : List ℕ) → P rest → P (relative_path n rest)
property-of-rest-holds-of-relative-path P dot double stay up n rest h = cond_both (eqb n 0) _ _ P
    (λ _. cond_both (is_empty rest) _ _ P (λ _. dot)
    (λ _. cond_both (needs_leading_dot rest) _ _ P (λ _. stay rest h) (λ _. h)))
    (λ _. cond_both (is_empty rest) _ _ P
    (λ _. property-of-rest-holds-after-double-dots P up (n - 1) (codes "..") double)
    (λ _. property-of-rest-holds-after-double-dots P up n rest h))

-- relativized paths: the path is not empty, has no leading `/`, and no `:` in its first segment
record IsRelativePath (way : List ℕ) : Type 0 where
  some : is_empty way ≡ false
  rootless : starts slash way ≡ false
  no_scheme : has_colon_in_first_segment way ≡ false

double-dots-and-last-are-relative : (n : ℕ) → IsRelativePath (double_dots n ++ codes "..")
unfolding double_dots
double-dots-and-last-are-relative zero =
    record { some = refl; rootless = refl; no_scheme = refl }
double-dots-and-last-are-relative (suc n) =
    record { some = refl; rootless = refl; no_scheme = refl }

some-double-dots-are-relative : (n : ℕ) (rest : List ℕ) → eqb n 0 ≡ false
    → IsRelativePath (double_dots n ++ rest)
unfolding double_dots
some-double-dots-are-relative zero rest e = absurd (true≢false e)
some-double-dots-are-relative (suc n) rest e =
    record { some = refl; rootless = refl; no_scheme = refl }

relative-path-is-relative : (n : ℕ) (rest : List ℕ) → IsRelativePath (relative_path n rest)
relative-path-is-relative n rest =
    cond_both (eqb n 0) _ _ IsRelativePath (search (rules, cond_both, or_parts))
    (λ e. cond_both (is_empty rest) _ _ IsRelativePath
    (λ _. double-dots-and-last-are-relative (n - 1))
    (λ _. some-double-dots-are-relative n rest e))

-- relativized paths: an equal first byte makes the shared prefix one byte longer, if it ends in `/`
-- (47) still
equal-first-byte-extends-shared-prefix : (a b : ℕ) (base path : List ℕ) (n : ℕ) → a ≡ b
    → (eqb a 47 || nat_lt 0 n) ≡ true → (0 < n → IsSharedPrefix n base path)
    → IsSharedPrefix (suc n) (a ∷ base) (b ∷ path)
equal-first-byte-extends-shared-prefix a b base path zero e k shared =
    search (rules, eqb-true, ltb-true, or_cases)
equal-first-byte-extends-shared-prefix a b base path (suc n) e k shared =
    let s = shared (omega arith) in
    record {
      same = ap (λ c. c ∷ take (suc n) base) e ∙ ap (λ t. b ∷ t) s.same;
      closed = (a ∷ s.closed.0, ap (λ t. a ∷ t) s.closed.1);
    }

shared-directory-is-shared-prefix : (base path : List ℕ) → 0 < shared_directory_len base path
    → IsSharedPrefix (shared_directory_len base path) base path
unfolding shared_directory_len
shared-directory-is-shared-prefix [] path h = absurd (omega (arith, h))
shared-directory-is-shared-prefix (a ∷ base) [] h = absurd (omega (arith, h))
shared-directory-is-shared-prefix (a ∷ base) (b ∷ path) h =
    let n = shared_directory_len base path in
    cond_both (eqb a b && (eqb a 47 || nat_lt 0 n)) (suc n) 0
    (λ m. 0 < m → IsSharedPrefix m (a ∷ base) (b ∷ path))
    (λ e _. let both = and_parts (eqb a b) _ e in
    equal-first-byte-extends-shared-prefix a b base path n (eqb-true a b both.0) both.1
    (shared-directory-is-shared-prefix base path))
    (λ _ none. absurd (omega (arith, none))) h

-- relativized paths: two that begin with `/` share that
absolute-paths-share-a-directory : (base path : List ℕ) → IsAbsolute base → IsAbsolute path
    → 0 < shared_directory_len base path
unfolding shared_directory_len
absolute-paths-share-a-directory [] path h k = absurd (false≢true (eq_true_from_IsTrue _ h))
absolute-paths-share-a-directory (a ∷ base) [] h k = absurd (false≢true (eq_true_from_IsTrue _ k))
absolute-paths-share-a-directory (a ∷ base) (b ∷ path) h k =
    search (rules, eq_true_from_IsTrue, eqb-true, cond-true, and_from, eq-eqb, or_left)

path-is-shared-prefix-and-rest : (n : ℕ) (base path : List ℕ) (s : IsSharedPrefix n base path)
    → path ≡ s.closed.0 ++ 47 ∷ drop n path
path-is-shared-prefix-and-rest n base path s =
    cc (take-append-drop n path, append_assoc s.closed.0 (codes "/") (drop n path))

-- relativized paths: the path begins with `/`, has no dot segment, and neither `?` nor `#`
pub record IsFinalPath (path : List ℕ) : Type 0 where
  pub absolute : IsAbsolute path
  pub dotless : lacks_dot_segments path ≡ true
  pub lacks : Lacks (codes "?#") path

-- relativized paths: a reference with this path, and without a scheme and an authority, is parsed
-- with it, and leads from the base to the other path by the basic algorithm
pub record LeadsByPath (base : Components) (path way : List ℕ) : Type 0 where
  pub some : is_empty way ≡ false
  pub no_authority : has_authority way ≡ false
  pub no_scheme : has_colon_in_first_segment way ≡ false
  pub lacks : Lacks (codes "?#") way
  pub leads : cond (starts slash way) (remove_dot_segments way)
      (remove_dot_segments (merge base way)) ≡ path

-- relativized paths: the path from the root, guarded if it begins with `//` (double), leads to
-- itself
rooted-path-leads-to-path : (base : Components) (rest : List ℕ) (double : Bool)
    → has_authority (47 ∷ rest) ≡ double → IsFinalPath (47 ∷ rest)
    → LeadsByPath base (47 ∷ rest) (cond double (codes "/." ++ (47 ∷ rest)) (47 ∷ rest))
rooted-path-leads-to-path base rest true e w =
    let literal : has_encoded_dot_segment (codes "/." ++ (47 ∷ rest)) ≡ false =
    dotless-path-has-no-encoded-dot (47 ∷ rest) w.dotless in
    record {
      some = refl;
      no_authority = refl;
      no_scheme = refl;
      lacks = test-of-delimiters-gives-lacks (codes "?#") (codes "/." ++ (47 ∷ rest))
          (lacked-delimiters-fail-test (codes "?#") (47 ∷ rest) w.lacks);
      leads = sym (same-removal (codes "/." ++ (47 ∷ rest)) refl literal)
          ∙ guard-counts-as-no-segment Dots.remove_dot_segments remove_dot_segments-follows-dots
          (47 ∷ rest) refl ∙ remove-dots-of-dotless (47 ∷ rest) refl w.dotless;
    }
rooted-path-leads-to-path base rest false e w =
    search (rules, removal-of-path-without-dots, dotless-path-has-no-literal-dot)

path-from-root-leads-to-path : (base : Components) (path : List ℕ) → IsFinalPath path
    → LeadsByPath base path (guarded None path)
path-from-root-leads-to-path base path w =
    search (rules, absolute-path-is-slash-and-rest, rooted-path-leads-to-path)

path-is-merged-after-directory : (o : Option (List ℕ)) (path way : List ℕ)
    → (is_none o && not (starts 47 path)) ≡ false → IsAbemptyPath path
    → lacks_dot_segments path ≡ true
    → cond (is_some o && is_empty path) (codes "/" ++ way) (up_to_last_slash path ++ way)
    ≡ directory (or_slash path) ++ way
unfolding directory
path-is-merged-after-directory o [] way e h dotless =
    cond-true _ _ _ (and_from _ _ (base-with-empty-path-has-authority o [] e refl) refl)
path-is-merged-after-directory o (c ∷ path) way e h dotless =
    cond-false _ _ _ (and_right (is_some o) false refl)
    ∙ ap (λ t. t ++ way) (directory-of-dotless-path-is-up-to-last-slash (c ∷ path)
    (⊎_elim (λ none. absurd (cons_is_not_nil c path none)) (λ absolute. absolute) h) dotless)

-- relativized paths: the path to merge with is `/` if it is empty, and begins with `/`
path-or-slash-is-absolute : (path : List ℕ) → IsAbemptyPath path → IsAbsolute (or_slash path)
path-or-slash-is-absolute path h = grind (arith, cons_is_not_nil)

-- relativized paths: a path with `/` for an empty one has no dot segment, if it has none itself
path-or-slash-is-dotless : (path : List ℕ) → lacks_dot_segments path ≡ true
    → lacks_dot_segments (or_slash path) ≡ true
path-or-slash-is-dotless path e = grind arith

relative-path-leads-to-path : (base : Components) (path : List ℕ) → is_opaque base ≡ false
    → IsAbemptyPath base.path → lacks_dot_segments base.path ≡ true → IsFinalPath path
    → LeadsByPath base path (path_from_base base.path path)
relative-path-leads-to-path base path opaque rooted dotless w =
    let given = or_slash base.path in
    let absolute = path-or-slash-is-absolute base.path rooted in
    let given_dotless = path-or-slash-is-dotless base.path dotless in
    let n = shared_directory_len given path in
    let s = shared-directory-is-shared-prefix given path
    (absolute-paths-share-a-directory given path absolute w.absolute) in
    let whole = path-is-shared-prefix-and-rest n given path s in
    let climbs = slashes (drop n given) in
    let way = path_from_base base.path path in
    let r = relative-path-is-relative climbs (drop n path) in
    let other = λ (c : ℕ). not (is_one_of (codes "?#") c) in
    let encoded = property-of-rest-holds-of-relative-path
    (λ t. has_encoded_dot_segment t ≡ false) refl refl (λ t e. e) (λ t e. e) climbs (drop n path)
    (or_parts (has_encoded_dot_segment s.closed.0) _
    (sym (encoded-dots-at-slash s.closed.0 (drop n path))
    ∙ ap has_encoded_dot_segment (sym whole)
    ∙ dotless-path-has-no-encoded-dot path w.dotless)).1 in
    let lacking = property-of-rest-holds-of-relative-path
    (λ t. list_all other t ≡ true) refl refl (λ t e. e) (λ t e. e) climbs (drop n path)
    (and_parts (list_all other s.closed.0) (list_all other (47 ∷ drop n path))
    (sym (list_all-append other s.closed.0 (47 ∷ drop n path))
    ∙ ap (list_all other) (sym whole)
    ∙ lacked-delimiters-fail-test (codes "?#") path w.lacks)).1 in
    record {
      some = r.some;
      no_authority = rootless-path-has-no-authority way r.rootless;
      no_scheme = r.no_scheme;
      lacks = test-of-delimiters-gives-lacks (codes "?#") way lacking;
      leads = cond-false _ _ _ r.rootless ∙ ap remove_dot_segments
          (path-is-merged-after-directory base.authority base.path way opaque rooted dotless) ∙ sym
          (same-removal (directory given ++ way) (appended-absolute-path-is-absolute
          (directory given) way (directory-is-absolute given (inr absolute)))
          (encoded-dots-after-directory given way absolute given_dotless encoded))
          ∙ merged-relative-path-leads-to-path n given path absolute given_dotless w.absolute
          w.dotless s;
    }

pub chosen-path-leads-to-path : (prefers : Bool) (base : Components) (path : List ℕ)
    → is_opaque base ≡ false → IsAbemptyPath base.path → IsFinalPath path
    → LeadsByPath base path (shortest_or_preferred_path prefers base.path path)
unfolding shortest_or_preferred_path
chosen-path-leads-to-path prefers base path opaque rooted w =
    cond_both (lacks_dot_segments base.path && _) (path_from_base base.path path)
    (guarded None path) (LeadsByPath base path)
    (λ e. relative-path-leads-to-path base path opaque rooted
    (and_parts (lacks_dot_segments base.path) _ e).0 w)
    (λ _. path-from-root-leads-to-path base path w)
