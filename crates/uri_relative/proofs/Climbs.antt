-- Where a path of `../` leads to.
use Rattle.std.proofs.lemmas.Grind.{common_steps}
use Rattle.uri_relative.proofs.Common.{◌≡◌, ℕ, zero, suc, ◌+◌, Bool, true, false, cond, eqb, List, [], ◌∷◌, ◌++◌, length, take, drop, refl, sym, ap, subst, ◌∙◌, arith, append_assoc, inr, ◌||◌, codes, append-nil, take-append-drop, list_all-append, and_parts, false≢true, nat_tests, IsAbemptyPath, is_empty, IsAbsolute, EndsInSlash, lacks_dot_segments, segments, remove_dot_segments, underflows, directory, pop, pop-undoes-push, pushed-segments-are-not-none, AllPass, is_dotless, step_of, next_output, parent-of-dotless-is-pop, slashed, NoSlashes, lacks_slash, segments-of-slashed-segments, segments-of-text-are-not-none, directory-by-segments, path-after-slash-appends-its-segments, appended-segments-lack-slashes, property-of-path-to-slash-by-segments, property-of-absolute-path-by-segments, segments-of-dotless-path-are-dotless, remove-dots-of-dotless, dotless-path-does-not-underflow, empty-text-is-nil, removing-dots-after-directory, underflow-after-directory, double_dots, slashes, relative_path, relative_from, IsSharedPrefix}
use Rattle.std.proofs.lemmas.List.Splits.{length-slice_split}
use Rattle.uri_ops.proofs.Offered.{is_none, underflows_at}

-- relativized paths: one `../` more, before or after the others
double-dot-moves-past-others : (n : ℕ) (q : List ℕ) → double_dots n ++ (codes "../" ++ q)
    ≡ double_dots (suc n) ++ q
unfolding double_dots
double-dot-moves-past-others zero q = refl
double-dot-moves-past-others (suc n) q = ap (λ t. codes "../" ++ t)
    (double-dot-moves-past-others n q)

-- relativized paths: one that goes n + 1 directories up ends in `..`, or in `../` and the rest
pub relative_path-of-some-climbs : (n : ℕ) (rest : List ℕ) → relative_path (suc n) rest
    ≡ cond (is_empty rest) (double_dots n ++ codes "..") (double_dots (suc n) ++ rest)
relative_path-of-some-climbs n rest = grind (arith, nat_tests)

pub prefix-all-pass : (p : List ℕ → Bool) (xs ys : List (List ℕ)) → AllPass p (xs ++ ys)
    → AllPass p xs
prefix-all-pass p xs ys e = (and_parts _ _ (sym (list_all-append p xs ys) ∙ e)).0

-- general fact on lists of segments, for relativized paths: one in the middle may go to either side
pushed-segment-joins-the-rest : (xs ys : List (List ℕ)) (y : List ℕ) → (xs ++ y ∷ []) ++ ys
    ≡ xs ++ y ∷ ys
pushed-segment-joins-the-rest xs ys y = append_assoc xs (y ∷ []) ys

-- relativized paths: the text of a directory by its segments
abbrev pub dir : List (List ℕ) → List ℕ
dir xs = slashed (xs ++ [] ∷ [])

double-dot-removes-last-segment : (xs : List (List ℕ)) (y : List ℕ)
    → step_of (xs ++ y ∷ []) (codes "..") ≡ xs
unfolding step_of next_output
double-dot-removes-last-segment xs y = pop-undoes-push xs y

-- relativized paths: the segment `.` leaves the directory as it is
single-dot-keeps-segments : (xs : List (List ℕ)) → step_of xs (codes ".") ≡ xs
unfolding step_of next_output
single-dot-keeps-segments xs = refl

-- relativized paths: a function takes `..` after a directory without dot segments for its parent,
-- and `.` for nothing
pub record FollowsDotsFromDirectory {X : Type 0} (f : List ℕ → X) : Type 0 where
  pub up : (xs : List (List ℕ)) (y rest : List ℕ) → AllPass is_dotless (xs ++ y ∷ [])
      → NoSlashes (xs ++ y ∷ []) → IsAbemptyPath rest
      → f (dir (xs ++ y ∷ []) ++ (codes ".." ++ rest)) ≡ f (dir xs ++ drop 1 rest)
  pub stay : (xs : List (List ℕ)) (rest : List ℕ) → AllPass is_dotless xs → NoSlashes xs
      → IsAbemptyPath rest → f (dir xs ++ (codes "." ++ rest)) ≡ f (dir xs ++ drop 1 rest)

-- relativized paths: removing dot segments is a function that follows each `../` from a directory
-- to its parent
pub remove_dot_segments-follows-dots : FollowsDotsFromDirectory remove_dot_segments
remove_dot_segments-follows-dots = record {
  up = λ xs y rest dotless lack h. removing-dots-after-directory (xs ++ y
      ∷ []) dotless lack (codes "..") refl refl rest h
      ∙ ap (λ s. remove_dot_segments (dir s ++ drop 1 rest)) (double-dot-removes-last-segment xs y);
  stay = λ xs rest dotless lack h. removing-dots-after-directory xs dotless lack
      (codes ".") refl refl rest h
      ∙ ap (λ s. remove_dot_segments (dir s ++ drop 1 rest)) (single-dot-keeps-segments xs);
}

-- relativized paths: the segment `..` does not underflow after another (y)
double-dot-after-segment-does-not-underflow : (xs : List (List ℕ)) (y : List ℕ)
    → underflows_at false true false (xs ++ y ∷ []) ≡ false
unfolding underflows_at
double-dot-after-segment-does-not-underflow xs y = pushed-segments-are-not-none xs y

single-dot-does-not-underflow : (xs : List (List ℕ)) → underflows_at true false false xs ≡ false
unfolding underflows_at
single-dot-does-not-underflow xs = refl

-- relativized paths: the underflow of a path is a function that follows each `../` from a directory
-- to its parent
pub underflows-follows-dots : FollowsDotsFromDirectory underflows
underflows-follows-dots = record {
  up = λ xs y rest dotless lack h.
      underflow-after-directory (xs ++ y ∷ []) dotless lack (codes "..") refl refl rest h
      ∙ ap (λ b. b || underflows (dir (step_of (xs ++ y ∷ []) (codes "..")) ++ drop 1 rest))
      (double-dot-after-segment-does-not-underflow xs y)
      ∙ ap (λ s. underflows (dir s ++ drop 1 rest)) (double-dot-removes-last-segment xs y);
  stay = λ xs rest dotless lack h. underflow-after-directory xs dotless lack
      (codes ".") refl refl rest h
      ∙ ap (λ b. b || underflows (dir (step_of xs (codes ".")) ++ drop 1 rest))
      (single-dot-does-not-underflow xs)
      ∙ ap (λ s. underflows (dir s ++ drop 1 rest)) (single-dot-keeps-segments xs);
}

equal-lists-have-equal-tails : (xs ys : List (List ℕ)) → [] ∷ xs ≡ [] ∷ ys → xs ≡ ys
equal-lists-have-equal-tails xs ys e = cc

-- general fact on texts, for directories of relativized paths of relativized paths of relativized
-- paths of relativized paths: one that ends in `/` is not empty
text-with-slash-is-not-empty : (prefix : List ℕ) → [] ≡ prefix ++ codes "/" → ⊥
text-with-slash-is-not-empty prefix e = grind (arith, common_steps)

-- relativized paths: the last segment of two lists is that of the second
pop-removes-from-last-part : (xs ys : List (List ℕ)) → is_none ys ≡ false → pop (xs ++ ys)
    ≡ xs ++ pop ys
unfolding pop is_none
pop-removes-from-last-part xs [] e = absurd (false≢true (sym e))
pop-removes-from-last-part [] (y ∷ ys) e = refl
pop-removes-from-last-part (x ∷ []) (y ∷ ys) e = refl
pop-removes-from-last-part (x ∷ z ∷ xs) (y ∷ ys) e = ap (λ t. x ∷ t)
    (pop-removes-from-last-part (z ∷ xs) (y ∷ ys) e)

-- relativized paths: one `..` takes one segment away
pop-removes-one-segment : (ys : List (List ℕ)) → is_none ys ≡ false → length (pop ys) + 1
    ≡ length ys
unfolding pop is_none
pop-removes-one-segment [] e = absurd (false≢true (sym e))
pop-removes-one-segment (y ∷ []) e = refl
pop-removes-one-segment (y ∷ z ∷ ys) e =
    let ih = pop-removes-one-segment (z ∷ ys) refl in omega arith

pub slashes-count-segments : (text : List ℕ) → slashes text ≡ length (pop (segments text))
slashes-count-segments text =
    let a = length-slice_split (λ c. eqb c 47) text in
    let b = pop-removes-one-segment (segments text) (segments-of-text-are-not-none text) in
    omega arith

pub path-below-directory-has-its-segments-first : (xs zs : List (List ℕ)) (last below : List ℕ)
    → NoSlashes xs → NoSlashes (zs ++ last ∷ []) → slashed (zs ++ last ∷ []) ≡ dir xs ++ below
    → zs ≡ xs ++ pop (segments below)
path-below-directory-has-its-segments-first xs zs last below lack_xs lack_zs e =
    let same : zs ++ last ∷ [] ≡ xs ++ segments below =
    equal-lists-have-equal-tails _ _ (sym (segments-of-slashed-segments (zs ++ last ∷ []) lack_zs)
    ∙ ap segments (e ∙ path-after-slash-appends-its-segments xs below)
    ∙ segments-of-slashed-segments (xs ++ segments below)
    (appended-segments-lack-slashes xs below lack_xs)) in
    sym (pop-undoes-push zs last) ∙ ap pop same ∙ pop-removes-from-last-part xs (segments below)
    (segments-of-text-are-not-none below)

pub segments-are-all-but-last-and-last : (s : List ℕ) (rest : List (List ℕ)) → (last : List ℕ)
    × (s ∷ rest ≡ pop (s ∷ rest) ++ last ∷ [])
unfolding pop
segments-are-all-but-last-and-last s [] = (s, refl)
segments-are-all-but-last-and-last s (t ∷ rest) =
    let ih = segments-are-all-but-last-and-last t rest in (ih.0, ap (λ r. s ∷ r) ih.1)

-- relativized paths: the directory of a path without dot segments is all its segments but the last
pub directory-of-dotless-segments : (s : List ℕ) (rest : List (List ℕ)) → NoSlashes (s ∷ rest)
    → AllPass is_dotless (s ∷ rest) → directory (slashed (s ∷ rest)) ≡ dir (pop (s ∷ rest))
directory-of-dotless-segments s rest lack dotless =
    directory-by-segments s rest lack ∙ ap dir (parent-of-dotless-is-pop (s ∷ rest) dotless)

-- relativized paths: a directory at the start of an absolute path is absolute
prefix-of-absolute-path-is-absolute : (prefix below : List ℕ) → EndsInSlash prefix
    → IsAbsolute (prefix ++ below) → IsAbsolute prefix
prefix-of-absolute-path-is-absolute prefix below closed h =
    grind (arith, text-with-slash-is-not-empty)

module _ {X : Type 0} (f : List ℕ → X) (by : FollowsDotsFromDirectory f) where
  -- `../` for each directory leads up by that many directories
  double-dots-lead-up : (ys xs : List (List ℕ)) (q : List ℕ) → AllPass is_dotless (xs ++ ys)
      → NoSlashes (xs ++ ys)
      → f (dir (xs ++ ys) ++ (double_dots (length ys) ++ q)) ≡ f (dir xs ++ q)
  unfolding double_dots
  double-dots-lead-up [] xs q dotless lack = ap (λ s. f (dir s ++ q)) (append-nil xs)
  double-dots-lead-up (y ∷ ys) xs q dotless lack =
      let e = pushed-segment-joins-the-rest xs ys y in
      let dotless' = subst (AllPass is_dotless) (sym e) dotless in
      let lack' = subst NoSlashes (sym e) lack in
      ap (λ s. f (dir s ++ (double_dots (suc (length ys)) ++ q))) (sym e) ∙ ap
      (λ t. f (dir ((xs ++ y ∷ []) ++ ys) ++ t)) (sym (double-dot-moves-past-others (length ys) q))
      ∙ double-dots-lead-up ys (xs ++ y ∷ []) (codes "../" ++ q) dotless' lack' ∙ by.up xs y
      (47 ∷ q) (prefix-all-pass is_dotless (xs ++ y ∷ []) ys dotless')
      (prefix-all-pass lacks_slash (xs ++ y ∷ []) ys lack') (inr refl)

  -- a relative path without `../` leads from a directory to the rest
  path-without-double-dots-leads-to-rest : (xs : List (List ℕ)) (rest : List ℕ)
      (none misread : Bool) → (none ≡ true → rest ≡ []) → AllPass is_dotless xs → NoSlashes xs
      → f (dir xs ++ cond none (codes ".") (cond misread (codes "./" ++ rest) rest))
      ≡ f (dir xs ++ rest)
  path-without-double-dots-leads-to-rest xs rest none misread h dotless lack = grind (arith, by)

  path-with-double-dots-leads-up : (ys xs : List (List ℕ)) (y rest : List ℕ) (none : Bool)
      → (none ≡ true → rest ≡ []) → AllPass is_dotless (xs ++ y ∷ ys) → NoSlashes (xs ++ y ∷ ys) → f
      (dir (xs ++ y ∷ ys) ++ cond none (double_dots (length ys) ++ codes "..")
      (double_dots (suc (length ys)) ++ rest)) ≡ f (dir xs ++ rest)
  path-with-double-dots-leads-up ys xs y rest false h dotless lack = double-dots-lead-up
      (y ∷ ys) xs rest dotless lack
  path-with-double-dots-leads-up ys xs y rest true h dotless lack =
      let e = pushed-segment-joins-the-rest xs ys y in
      let dotless' = subst (AllPass is_dotless) (sym e) dotless in
      let lack' = subst NoSlashes (sym e) lack in
      grind (arith, nat_tests, double-dots-lead-up, prefix-all-pass)

  relative-path-leads-from-directory : (ys xs : List (List ℕ)) (rest : List ℕ)
      → AllPass is_dotless (xs ++ ys) → NoSlashes (xs ++ ys)
      → f (dir (xs ++ ys) ++ relative_path (length ys) rest) ≡ f (dir xs ++ rest)
  relative-path-leads-from-directory [] xs rest dotless lack =
      let e = append-nil xs in
      grind (arith, nat_tests, path-without-double-dots-leads-to-rest, empty-text-is-nil)
  relative-path-leads-from-directory (y ∷ ys) xs rest dotless lack =
      ap (λ t. f (dir (xs ++ y ∷ ys) ++ t)) (relative_path-of-some-climbs (length ys) rest)
      ∙ path-with-double-dots-leads-up ys xs y rest (is_empty rest)
      (empty-text-is-nil rest) dotless lack

  -- from the directory of a path to one above it
  relative-path-leads-to-directory-above : (xs zs : List (List ℕ)) (last below rest : List ℕ)
      → NoSlashes xs → NoSlashes (zs ++ last ∷ []) → AllPass is_dotless (zs ++ last ∷ [])
      → slashed (zs ++ last ∷ []) ≡ dir xs ++ below
      → f (dir zs ++ relative_path (slashes below) rest) ≡ f (dir xs ++ rest)
  relative-path-leads-to-directory-above xs zs last below rest lack_xs lack_zs dotless e =
      let ys = pop (segments below) in
      let z = path-below-directory-has-its-segments-first xs zs last below lack_xs lack_zs e in
      ap (λ s. f (dir s ++ relative_path (slashes below) rest)) z
      ∙ ap (λ n. f (dir (xs ++ ys) ++ relative_path n rest)) (slashes-count-segments below)
      ∙ relative-path-leads-from-directory ys xs rest
      (subst (AllPass is_dotless) z (prefix-all-pass is_dotless zs (last ∷ []) dotless))
      (subst NoSlashes z (prefix-all-pass lacks_slash zs (last ∷ []) lack_zs))

  relative-path-leads-from-segments : (xs : List (List ℕ)) (s : List ℕ) (segs : List (List ℕ))
      (below rest : List ℕ) → NoSlashes xs → NoSlashes (s ∷ segs) → AllPass is_dotless (s ∷ segs)
      → slashed (s ∷ segs) ≡ dir xs ++ below
      → f (directory (slashed (s ∷ segs)) ++ relative_path (slashes below) rest)
      ≡ f (dir xs ++ rest)
  relative-path-leads-from-segments xs s segs below rest lack_xs lack dotless e =
      let l = segments-are-all-but-last-and-last s segs in
      ap (λ t. f (t ++ relative_path (slashes below) rest))
      (directory-of-dotless-segments s segs lack dotless) ∙ relative-path-leads-to-directory-above
      xs (pop (s ∷ segs)) l.0 below rest lack_xs (subst NoSlashes l.1 lack)
      (subst (AllPass is_dotless) l.1 dotless) (ap slashed (sym l.1) ∙ e)

  relative-path-leads-from-prefix : (base prefix below rest : List ℕ) → IsAbsolute base
      → lacks_dot_segments base ≡ true → IsAbsolute prefix → EndsInSlash prefix
      → base ≡ prefix ++ below
      → f (directory base ++ relative_path (slashes below) rest) ≡ f (prefix ++ rest)
  relative-path-leads-from-prefix base prefix below rest base_absolute dotless absolute closed e =
      property-of-path-to-slash-by-segments (λ prefix. base ≡ prefix ++ below
      → f (directory base ++ relative_path (slashes below) rest) ≡ f (prefix ++ rest))
      (λ xs lack_xs. property-of-absolute-path-by-segments (λ base. lacks_dot_segments base ≡ true
      → base ≡ dir xs ++ below
      → f (directory base ++ relative_path (slashes below) rest) ≡ f (dir xs ++ rest))
      (λ s segs lack p. relative-path-leads-from-segments xs s segs below rest lack_xs lack
      (segments-of-dotless-path-are-dotless (s ∷ segs) lack p)) base base_absolute dotless)
      prefix absolute closed e

  -- from a base's path to a path with the same prefix
  relative-path-leads-over-shared-prefix : (n : ℕ) (base path : List ℕ) → IsAbsolute base
      → lacks_dot_segments base ≡ true
      → IsSharedPrefix n base path → f (directory base ++ relative_from n base path) ≡ f path
  relative-path-leads-over-shared-prefix n base path absolute dotless s =
      let whole = take-append-drop n base in
      relative-path-leads-from-prefix base (take n base) (drop n base) (drop n path) absolute
      dotless (prefix-of-absolute-path-is-absolute (take n base) (drop n base) s.closed
      (subst IsAbsolute (sym whole) absolute)) s.closed (sym whole)
      ∙ ap (λ t. f (t ++ drop n path)) s.same ∙ ap f (take-append-drop n path)

-- relativized paths: one that is merged with the base's, and without its dot segments, is the path
pub merged-relative-path-leads-to-path : (n : ℕ) (base path : List ℕ) → IsAbsolute base
    → lacks_dot_segments base ≡ true → IsAbsolute path → lacks_dot_segments path ≡ true
    → IsSharedPrefix n base path
    → remove_dot_segments (directory base ++ relative_from n base path) ≡ path
merged-relative-path-leads-to-path n base path base_absolute base_dotless absolute dotless s =
    relative-path-leads-over-shared-prefix remove_dot_segments remove_dot_segments-follows-dots n
    base path base_absolute base_dotless s ∙ remove-dots-of-dotless path absolute dotless

-- relativized paths: one that is merged with the base's has no `..` too many
pub merged-relative-path-does-not-underflow : (n : ℕ) (base path : List ℕ) → IsAbsolute base
    → lacks_dot_segments base ≡ true → IsAbsolute path → lacks_dot_segments path ≡ true
    → IsSharedPrefix n base path → underflows (directory base ++ relative_from n base path) ≡ false
merged-relative-path-does-not-underflow n base path base_absolute base_dotless absolute dotless s =
    relative-path-leads-over-shared-prefix underflows underflows-follows-dots n base path
    base_absolute base_dotless s ∙ dotless-path-does-not-underflow path absolute dotless
