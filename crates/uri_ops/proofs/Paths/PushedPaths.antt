-- What is appended of a path without its dot segments, and of a reference's path after the
-- directory of a base's path.
use Rattle.uri_ops.proofs.Common.{common_steps, ◌≡◌, ◌<◌, ◌≤◌, ℕ, Bool, true, false, List, [], ◌∷◌, ◌++◌, length, take, drop, sym, ap, subst, ◌∙◌, ◌||◌, inr, arith, eqb-true, false≢true, eq_true_from_IsTrue, IsUtf8, IsCharBoundary, IsCharBoundary-after_ascii, take-append-drop, take_at, drop_at, lacks_dot_segments, remove_dot_segments, underflows, directory, IsAbsolute, EndsInSlash, IsCutAtSegment, IsDotlessDirectory, RemovalState, begins_with_dot, merged}
use Rattle.uri_ops.proofs.Paths.DotLaws.{directory-is-absolute, directory-ends-in-slash, removing-dots-keeps-absolute, removing-dots-and-directory-swap, prefix-dots-may-be-removed-first, removing-dots-leaves-no-dot-segment, remove-dots-of-dotless, path-underflows-as-prefix-or-remainder, dotless-path-does-not-underflow}

-- paths: a prefix of an absolute path, one byte at least, is absolute
pub prefix-of-absolute-path-is-absolute : (path : List ℕ) (n : ℕ) → IsAbsolute path → 0 < n
    → IsAbsolute (take n path)
prefix-of-absolute-path-is-absolute path n h some = grind (arith, common_steps)

pub absolute-path-begins-with-no-dot : (path : List ℕ) → IsAbsolute path
    → (begins_with_dot path ≡ false) × (0 < length path)
absolute-path-begins-with-no-dot path h = grind (arith, common_steps, eq_true_from_IsTrue)

-- removing dot segments, segment by segment:
-- at first a prefix of a path without dot segments is kept, and the rest is left
pub removal-begins-after-dotless-prefix : (path : List ℕ) (n : ℕ) → IsAbsolute path → 0 < n
    → lacks_dot_segments (take n path) ≡ true → IsCutAtSegment (take n path) (drop n path)
    → RemovalState path (take n path) (drop n path) false
removal-begins-after-dotless-prefix path n h some dotless closed =
    grind (arith, common_steps, prefix-of-absolute-path-is-absolute)

-- paths: a character begins after the first `/` of an absolute path
pub position-after-root-is-boundary : (path : List ℕ) → IsUtf8 path → IsAbsolute path
    → IsCharBoundary path 1
position-after-root-is-boundary [] u h = absurd (false≢true (eq_true_from_IsTrue _ h))
position-after-root-is-boundary (c ∷ path) u h =
    let root = eqb-true c 47 (eq_true_from_IsTrue _ h) in
    IsCharBoundary-after_ascii (c ∷ path) 0 u (omega arith) (omega (arith, root))

-- removing dot segments: a path without any is taken whole
pub dotless-path-is-its-own-removal : (path prefix : List ℕ) (n : ℕ)
    → IsAbsolute path → n ≡ length path → lacks_dot_segments (take n path) ≡ true
    → prefix ≡ take n path → (prefix ≡ remove_dot_segments path) × (false ≡ underflows path)
dotless-path-is-its-own-removal path prefix n absolute end dotless is =
    grind (arith, common_steps, remove-dots-of-dotless, dotless-path-does-not-underflow)

-- after the old text
module _ (old : List ℕ) (start : ℕ) (at : start ≡ length old) (mid : List ℕ) where
  pub text-after-old-is-pushed-text : (text : List ℕ) → mid ≡ old ++ text → drop start mid ≡ text
  text-after-old-is-pushed-text text e = ap (drop start) e ∙ drop_at old text start (sym at)

  pub whole : (text new kept : List ℕ) → mid ≡ old ++ text → take start new ≡ take start mid
      → drop start new ≡ kept → new ≡ old ++ kept
  whole text new kept e before is = sym (take-append-drop start new) ∙ ap (λ t. t ++ drop start new)
      (before ∙ ap (take start) e ∙ take_at old text start (sym at)) ∙ ap (λ t. old ++ t) is

  -- one path, whose prefix without dot segments is appended before the rest is scanned
  module _ (path : List ℕ) (absolute : IsAbsolute path) (n : ℕ) (prefix : List ℕ)
      (is : prefix ≡ take n path) (e : mid ≡ old ++ prefix) where
    pushed-text-is-path-prefix : drop start mid ≡ take n path
    pushed-text-is-path-prefix = text-after-old-is-pushed-text prefix e ∙ is

    pub pushed-dotless-path-prefix-is-directory : 0 < n → n ≤ length path → (n ≡ length path → ⊥)
        → lacks_dot_segments (take n path) ≡ true → IsCutAtSegment (take n path) (drop n path)
        → IsDotlessDirectory (drop start mid)
    pushed-dotless-path-prefix-is-directory some within more dotless closed =
        grind (arith, common_steps, pushed-text-is-path-prefix, prefix-of-absolute-path-is-absolute)

    module _ (rest : List ℕ) (left : rest ≡ drop n path) where
      pushed-prefix-and-rest-are-path : drop start mid ++ rest ≡ path
      pushed-prefix-and-rest-are-path = ap (λ t. t ++ rest) pushed-text-is-path-prefix
          ∙ ap (λ t. take n path ++ t) left ∙ take-append-drop n path

      pub pushed-path-loses-its-dots : (new : List ℕ) → take start new ≡ take start mid
          → drop start new ≡ remove_dot_segments (drop start mid ++ rest)
          → new ≡ old ++ remove_dot_segments path
      pushed-path-loses-its-dots new before kept = whole prefix new (remove_dot_segments path)
          e before (kept ∙ ap remove_dot_segments pushed-prefix-and-rest-are-path)

      pub pushed-rest-underflows-as-path : (underflowed : Bool)
          → underflowed ≡ underflows (drop start mid ++ rest) → underflowed ≡ underflows path
      pushed-rest-underflows-as-path underflowed f = f
          ∙ ap underflows pushed-prefix-and-rest-are-path

  -- two paths, of which the first has the base's directory
  module _ (base path : List ℕ) (absolute : IsAbsolute path)
      (same : directory path ≡ directory base) (prefix : List ℕ)
      (removed : remove_dot_segments prefix ≡ remove_dot_segments (directory path))
      (e : mid ≡ old ++ remove_dot_segments prefix) where
    dotless-directory-of-base-path : IsDotlessDirectory (remove_dot_segments (directory path))
    dotless-directory-of-base-path = record {
      absolute = removing-dots-keeps-absolute (directory path)
          (directory-is-absolute path (inr absolute));
      closed = subst EndsInSlash (sym (removing-dots-and-directory-swap path (inr absolute)))
          (directory-ends-in-slash (remove_dot_segments path)
          (inr (removing-dots-keeps-absolute path absolute)));
      dotless = removing-dots-leaves-no-dot-segment (directory path)
          (directory-is-absolute path (inr absolute));
    }

    pushed-text-is-dotless-directory-of-base : drop start mid ≡ remove_dot_segments (directory path)
    pushed-text-is-dotless-directory-of-base = text-after-old-is-pushed-text
        (remove_dot_segments prefix) e ∙ removed

    pub pushed-base-directory-is-dotless-directory : IsDotlessDirectory (drop start mid)
    pushed-base-directory-is-dotless-directory = subst IsDotlessDirectory
        (sym pushed-text-is-dotless-directory-of-base) dotless-directory-of-base-path

    module _ (reference : List ℕ) where
      pub pushed-merged-path-loses-its-dots : (new : List ℕ) → take start new ≡ take start mid
          → drop start new ≡ remove_dot_segments (drop start mid ++ reference)
          → new ≡ old ++ remove_dot_segments (merged base reference)
      pushed-merged-path-loses-its-dots new before kept =
          grind (
            arith,
            whole,
            merged,
            pushed-text-is-dotless-directory-of-base,
            prefix-dots-may-be-removed-first,
            directory,
            directory-is-absolute,
            directory-ends-in-slash,
          )

      pub base-or-rest-underflows-as-merged-path : (of_base of_reference : Bool)
          → of_base ≡ underflows prefix → underflows prefix ≡ underflows (directory path)
          → of_reference ≡ underflows (drop start mid ++ reference)
          → (of_base || of_reference) ≡ underflows (merged base reference)
      base-or-rest-underflows-as-merged-path of_base of_reference f g h =
          grind (
            arith,
            directory,
            pushed-text-is-dotless-directory-of-base,
            path-underflows-as-prefix-or-remainder,
            directory-is-absolute,
            directory-ends-in-slash,
          )

-- the decoded form of a base's path
module _ (path prefix : List ℕ) (n : ℕ) (is : prefix ≡ take n path) where
  pub prefix-loses-dots-as-directory : remove_dot_segments (take n path) ≡ remove_dot_segments
      (directory path) → remove_dot_segments prefix ≡ remove_dot_segments (directory path)
  prefix-loses-dots-as-directory e = ap remove_dot_segments is ∙ e

  pub prefix-underflows-as-directory : underflows (take n path) ≡ underflows (directory path)
      → underflows prefix ≡ underflows (directory path)
  prefix-underflows-as-directory e = ap underflows is ∙ e
