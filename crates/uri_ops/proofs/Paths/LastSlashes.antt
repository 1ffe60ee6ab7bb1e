-- The cut at the last `/` of what is in a text from a place on.
use Rattle.uri_ops.proofs.Common.{common_steps, ◌≡◌, ℕ, ◌+◌, ◌-◌, ◌<◌, ◌≤◌, true, false, eqb, List, [], ◌∷◌, ◌++◌, length, take, drop, get_or, refl, sym, ap, ◌∙◌, arith, append_assoc, cond, take-add, append-nil, take-append-drop, drop-drop, take_at, drop_at, take-append-le, length-append, length-take-le, cond-false, cond-true, or_parts, ne_eqb, IsCharBoundary-after_ascii, codes, ◌==◌, IsUtf8, IsCharBoundary, IsAbemptyPath, is_empty, has_slash, is_double_dot, before_last_slash, last_segment, remove_dot_segments, directory, IsAbsolute, EndsInSlash, IsDotlessDirectory, parent_directory, IsSlashOrStart, eq_true_from_IsTrue}
use Rattle.uri_ops.proofs.Paths.DotStarts.{take-one-more-byte}
use Rattle.uri_ops.proofs.Paths.TakenSegments.{trailing-double-dot-leaves-slash}
use Rattle.uri_ops.proofs.Paths.SlashedSegments.{slash-in-suffix-is-in-append, before_last_slash-of-append, last_segment-of-append}

-- paths: what is before the last `/` (47) of two texts joined by it,
-- the second without any, is the first
pub before_last_slash-of-slashless-tail : (xs ys : List ℕ) → has_slash ys ≡ false
    → before_last_slash (xs ++ 47 ∷ ys) ≡ xs
before_last_slash-of-slashless-tail xs ys e = before_last_slash-of-append xs (47 ∷ ys) refl
    ∙ ap (λ t. xs ++ t) (cond-false _ _ _ e) ∙ append-nil xs

-- paths: what is before the last `/` of a text without any is empty
pub before_last_slash-of-slashless-is-empty : (ys : List ℕ) → has_slash ys ≡ false
    → before_last_slash ys ≡ []
before_last_slash-of-slashless-is-empty [] e = refl
before_last_slash-of-slashless-is-empty (c ∷ ys) e = cond-false _ _ _
    (or_parts (eqb c 47) (has_slash ys) e).1

-- paths: what is left from a `/` (47) on begins with it
suffix-at-slash-begins-with-slash : (bytes : List ℕ) (end : ℕ)
    → end < length bytes → get_or bytes end 0 ≡ 47 → drop end bytes ≡ 47 ∷ drop (end + 1) bytes
suffix-at-slash-begins-with-slash bytes end within slash = grind (arith, common_steps, within)

-- paths: if the last `/` (47) is at end, what is before it from
-- start on is as long as the positions are apart
before_last_slash-by-position : (bytes : List ℕ) (start k end : ℕ) → start + k ≡ end
    → end < length bytes → get_or bytes end 0 ≡ 47 → has_slash (drop (end + 1) bytes) ≡ false
    → before_last_slash (drop start bytes) ≡ take k (drop start bytes)
before_last_slash-by-position bytes start k end same within slash none =
    ap before_last_slash (sym (take-append-drop k (drop start bytes))
    ∙ ap (λ t. take k (drop start bytes) ++ t) (drop-drop k start bytes
    ∙ ap (λ n. drop n bytes) same ∙ suffix-at-slash-begins-with-slash bytes end within slash))
    ∙ before_last_slash-of-slashless-tail (take k (drop start bytes)) (drop (end + 1) bytes) none

-- paths: if the last `/` (47) is at end, what is before it is
-- the text to start and what is before the last `/` from there
pub prefix-to-last-slash : (bytes : List ℕ) (start end : ℕ) → start ≤ end → end < length bytes
    → get_or bytes end 0 ≡ 47 → has_slash (drop (end + 1) bytes) ≡ false
    → take end bytes ≡ take start bytes ++ before_last_slash (drop start bytes)
prefix-to-last-slash bytes start end from within slash none =
    let same : start + (end - start) ≡ end = omega (arith, from) in
    ap (λ n. take n bytes) (sym same) ∙ take-add start (end - start) bytes
    ∙ ap (λ t. take start bytes ++ t)
    (sym (before_last_slash-by-position bytes start (end - start) end same within slash none))

-- paths: if there is no `/` from start on, what is before the last one from there is nothing
pub prefix-without-slash-after-start : (bytes : List ℕ) (start : ℕ) → has_slash (drop start bytes)
    ≡ false → take start bytes ≡ take start bytes ++ before_last_slash (drop start bytes)
prefix-without-slash-after-start bytes start none =
    grind (arith, common_steps, before_last_slash-of-slashless-is-empty)

-- paths: if there is no `/` from start on, there is none from the next byte on
pub slashless-suffix-stays-slashless : (bytes : List ℕ) (start : ℕ)
    → has_slash (drop start bytes) ≡ false → has_slash (drop (start + 1) bytes) ≡ false
slashless-suffix-stays-slashless bytes start none = sym (ap has_slash (drop-drop 1 start bytes))
    ∙ fewer (drop start bytes) none
  where
    fewer : (ys : List ℕ) → has_slash ys ≡ false → has_slash (drop 1 ys) ≡ false
    fewer [] e = refl
    fewer (c ∷ ys) e = (or_parts (eqb c 47) (has_slash ys) e).1

-- paths: the last segment of a text is what is after its last `/` (47)
last_segment-after-slash : (x y : List ℕ) → has_slash y ≡ false → last_segment (x ++ 47 ∷ y) ≡ y
last_segment-after-slash x y e = last_segment-of-append x (47 ∷ y) refl ∙ cond-false _ _ _ e

-- paths: the directory ends at the last `/` (47), or after the last segment if that is `..`
directory-by-last-slash : (x y : List ℕ) → has_slash y ≡ false
    → directory (x ++ 47 ∷ y) ≡ cond (is_double_dot y) ((x ++ 47 ∷ y) ++ codes "/") (x ++ codes "/")
unfolding directory
directory-by-last-slash x y e =
    grind (
      arith,
      common_steps,
      last_segment-after-slash,
      before_last_slash-of-slashless-tail,
      slash-in-suffix-is-in-append,
    )

-- paths: in an absolute path, the position of a last slash is that of a `/` (47)
pub slash-position-is-of-slash : (path : List ℕ) (slash : ℕ) → IsAbsolute path
    → IsSlashOrStart path 0 slash → (slash < length path) × (get_or path slash 0 ≡ 47)
slash-position-is-of-slash path slash h p = grind (arith, common_steps, eq_true_from_IsTrue)

module _ (path : List ℕ) (slash : ℕ) (absolute : IsAbsolute path)
    (place : IsSlashOrStart path 0 slash) where
  pub position-after-slash-is-boundary : IsUtf8 path → IsCharBoundary path (slash + 1)
  position-after-slash-is-boundary u = let at = slash-position-is-of-slash path slash
      absolute place in
      IsCharBoundary-after_ascii path slash u at.0 (omega (arith, at.1))

  pub cut : path ≡ take slash path ++ 47 ∷ drop (slash + 1) path
  cut = grind (arith, common_steps, slash-position-is-of-slash, suffix-at-slash-begins-with-slash)

  pub prefix-through-slash-ends-in-slash : take (slash + 1) path ≡ take slash path ++ codes "/"
  prefix-through-slash-ends-in-slash = let at = slash-position-is-of-slash path slash absolute
      place in take-one-more-byte path slash at.0 ∙ ap (λ c. take slash path ++ c ∷ []) at.1

  pub slash-position-is-prefix-length : slash ≡ length (take slash path)
  slash-position-is-prefix-length = let at = slash-position-is-of-slash path slash absolute place in
      sym (length-take-le slash path (omega (arith, at.0)))

  directory-by-slash-position : has_slash (drop (slash + 1) path) ≡ false → directory path ≡ cond
      (is_double_dot (drop (slash + 1) path)) (path ++ codes "/") (take slash path ++ codes "/")
  directory-by-slash-position last = grind (arith, directory, cut, directory-by-last-slash)

  directory-is-prefix-to-slash : has_slash (drop (slash + 1) path) ≡ false
      → is_double_dot (drop (slash + 1) path) ≡ false
      → directory path ≡ take slash path ++ codes "/"
  directory-is-prefix-to-slash last e = directory-by-slash-position last ∙ cond-false _ _ _ e

  directory-of-double-dot-adds-slash : has_slash (drop (slash + 1) path) ≡ false
      → is_double_dot (drop (slash + 1) path) ≡ true → directory path ≡ path ++ codes "/"
  directory-of-double-dot-adds-slash last e = directory-by-slash-position last ∙ cond-true _ _ _ e

-- paths: an empty base path has `/` as its directory (RFC 3986, section 5.2.3)
pub empty-path-has-root-directory : (path : List ℕ) → (length path == 0) ≡ true → directory path
    ≡ codes "/"
unfolding directory
empty-path-has-root-directory path e = grind (arith, common_steps)

-- the directory up to the last `/`, and a path that ends in a double dot, which is its own
-- directory
module _ (path : List ℕ) (slash : ℕ) (absolute : IsAbsolute path)
    (place : IsSlashOrStart path 0 slash)
    (last : has_slash (drop (slash + 1) path) ≡ false) where
  pub prefix-with-last-slash-is-directory : is_double_dot (drop (slash + 1) path) ≡ false
      → take (slash + 1) path ≡ directory path
  prefix-with-last-slash-is-directory e =
      grind (arith, prefix-through-slash-ends-in-slash, directory-is-prefix-to-slash)

  path-with-double-dot-and-slash-is-directory : is_double_dot (drop (slash + 1) path) ≡ true
      → (take slash path ++ 47 ∷ drop (slash + 1) path) ++ 47 ∷ [] ≡ directory path
  path-with-double-dot-and-slash-is-directory e =
      grind (arith, cut, directory-of-double-dot-adds-slash)

  pub trailing-double-dot-path-is-its-directory : is_double_dot (drop (slash + 1) path) ≡ true
      → remove_dot_segments path ≡ remove_dot_segments (directory path)
  trailing-double-dot-path-is-its-directory e =
      grind (
        arith,
        cut,
        trailing-double-dot-leaves-slash,
        path-with-double-dot-and-slash-is-directory,
      )

pub before_last_slash-of-directory : (path : List ℕ) → (d : EndsInSlash path)
    → before_last_slash path ≡ d.0
before_last_slash-of-directory path d = ap before_last_slash d.1
    ∙ before_last_slash-of-slashless-tail d.0 [] refl

-- paths: one that ends in `/` has one byte more than the text before that `/`
pub length-of-directory : (path : List ℕ) → (d : EndsInSlash path) → length path ≡ length d.0 + 1
length-of-directory path d = ap length d.1 ∙ length-append d.0 (codes "/")

-- paths: the first byte of an absolute path is `/` (47)
absolute-path-has-slash-first : (path : List ℕ) → IsAbsolute path → get_or path 0 0 ≡ 47
absolute-path-has-slash-first path h = grind (arith, common_steps, eq_true_from_IsTrue)

pub text-is-empty-if-positions-are-equal : (text : List ℕ) (n m : ℕ) → n ≡ m + length text → eqb n m
    ≡ is_empty text
text-is-empty-if-positions-are-equal text n m e = grind (arith, common_steps, ne_eqb)

module _ (text : List ℕ) (start : ℕ) (d : IsDotlessDirectory (drop start text)) where
  prefix : List ℕ
  prefix = d.closed.0

  parts : (length text ≡ start + length prefix + 1)
      × (text ≡ (take start text ++ prefix) ++ codes "/")
  unfolding prefix
  parts = grind (arith, common_steps, length-of-directory)

  prefix-before-start-has-its-length : length (take start text) ≡ start
  prefix-before-start-has-its-length = length-take-le start text (omega (arith, parts.0))

  text-without-last-slash-is-both-prefixes : take (length text - 1) text ≡ take start text ++ prefix
  text-without-last-slash-is-both-prefixes = ap (take (length text - 1)) parts.1
      ∙ take_at (take start text ++ prefix) (codes "/") (length text - 1) (length-append
      (take start text) prefix ∙ omega (arith, parts.0, prefix-before-start-has-its-length))

  pub root-directory-has-no-segment : (n : ℕ) → n ≡ length text
      → eqb (n - 1) start ≡ is_empty (before_last_slash (drop start text))
  unfolding prefix
  root-directory-has-no-segment n e = text-is-empty-if-positions-are-equal prefix (n - 1) start
      (omega (arith, e, parts.0))
      ∙ ap is_empty (sym (before_last_slash-of-directory (drop start text) d.closed))

  module _ (all : List ℕ) (all_is : all ≡ take (length text - 1) text) (slash : ℕ)
      (place : IsSlashOrStart all start slash) where
    pub slash-before-popped-segment : (slash < length text) × (get_or text slash 0 ≡ 47)
    slash-before-popped-segment = grind (arith, common_steps, absolute-path-has-slash-first)

    pub popped-directory-is-parent : take slash all ≡ take start all ++ before_last_slash
        (drop start all)
        → take (slash + 1) text ≡ take start text ++ parent_directory (drop start text)
    unfolding prefix
    popped-directory-is-parent e = take-one-more-byte text slash slash-before-popped-segment.0
        ∙ ap (λ c. take slash text ++ c ∷ []) slash-before-popped-segment.1
        ∙ ap (λ t. t ++ codes "/") (same ∙ e ∙ ap (λ t. take start t
        ++ before_last_slash (drop start t)) (all_is ∙ text-without-last-slash-is-both-prefixes)
        ∙ pieces) ∙ append_assoc (take start text) (before_last_slash d.closed.0) (codes "/")
        ∙ ap (λ t. take start text ++ (before_last_slash t ++ codes "/"))
        (sym (before_last_slash-of-directory (drop start text) d.closed))
      where
        within : slash ≤ length (take start text ++ prefix)
        within = omega (
          arith,
          slash-before-popped-segment.0,
          parts.0,
          prefix-before-start-has-its-length,
          length-append (take start text) prefix,
        )

        same : take slash text ≡ take slash all
        same = ap (take slash) parts.1
            ∙ take-append-le slash (take start text ++ prefix) (codes "/") within
            ∙ ap (take slash) (sym (all_is ∙ text-without-last-slash-is-both-prefixes))

        pieces : take start (take start text ++ prefix) ++ before_last_slash
            (drop start (take start text ++ prefix)) ≡ take start text ++ before_last_slash prefix
        pieces = ap (λ t. t ++ before_last_slash (drop start (take start text ++ prefix)))
            (take_at (take start text) prefix start prefix-before-start-has-its-length)
            ∙ ap (λ t. take start text ++ before_last_slash t)
            (drop_at (take start text) prefix start prefix-before-start-has-its-length)

-- paths: the byte after a segment is `/` (47)
pub byte-after-segment-is-slash : (path : List ℕ) (end : ℕ)
    → IsAbemptyPath (drop end path) → end < length path → get_or path end 0 ≡ 47
byte-after-segment-is-slash path end h within =
    grind (arith, common_steps, absolute-path-has-slash-first)

pub directory-of-root : directory (codes "/") ≡ codes "/"
unfolding directory
directory-of-root = refl
