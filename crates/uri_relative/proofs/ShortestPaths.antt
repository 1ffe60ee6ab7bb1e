-- No path that is joined to a base's and leads to a path is shorter than the relative one, where
-- the base's path has no dot segment.
use Rattle.uri_relative.proofs.Common.{◌≡◌, ℕ, ◌+◌, ◌<◌, ◌≤◌, true, false, List, [], ◌∷◌, ◌++◌, length, take, drop, get_or, ap, subst, ◌∙◌, arith, append_assoc, length-append, None, length-drop, nat_tests, slash, has_authority, starts, has_colon_in_first_segment, IsAbsolute, directory, is_empty, lacks_dot_segments, remove_dot_segments, segments, dotless_if_absolute, guarded, property-of-absolute-path-by-segments, segments-of-dotless-path-are-dotless, AllPass, is_dotless, pushed-segments-are-not-none, pop, NoSlashes, lacks_slash, slashed, slashed-of-push, IsLongestPrefix, IsSharedPrefix, joined_path, relative_from, relative_path, slashes, IsShortestPath}
use Rattle.std.proofs.Math.Seq.{drop-append_seam, take-append_seam}
use Rattle.uri_relative.proofs.Climbs.{path-below-directory-has-its-segments-first, dir, directory-of-dotless-segments, prefix-all-pass, segments-are-all-but-last-and-last, slashes-count-segments}
use Rattle.uri_relative.proofs.LongestPrefixes.{longer-shared-prefix-gives-shorter-path}
use Rattle.uri_relative.proofs.Shrinking.{target-path-is-no-longer}
use Rattle.uri_relative.proofs.ReachedPaths.{segments-left-are-directory-and-rest, nonempty-segments-have-first, leads}

-- relativized paths: base and path share a prefix, by which the relative path is no longer than x
record SharesPrefix (base path x : List ℕ) : Type 0 where
  pub len : ℕ
  pub shared : IsSharedPrefix len base path
  pub in_base : len ≤ length base
  pub in_path : len ≤ length path
  pub short : length (relative_from len base path) ≤ length x

-- relativized paths: two paths below the same directory (prefix) share a prefix, from which a short
-- path leads, if x is no shorter
joined-directory-is-shared-prefix : (prefix : List (List ℕ)) (base path below rest x : List ℕ)
    (n : ℕ) → base ≡ dir prefix ++ below → path ≡ dir prefix ++ rest → slashes below ≡ n
    → length (relative_path n rest) ≤ length x → SharesPrefix base path x
joined-directory-is-shared-prefix prefix base path below rest x n e f m short =
    let d = dir prefix in
    let in_b : take (length d) base ≡ d = ap (take (length d)) e ∙ take-append_seam d below in
    let in_p : take (length d) path ≡ d = ap (take (length d)) f ∙ take-append_seam d rest in
    let left_b : drop (length d) base ≡ below = ap (drop (length d)) e ∙ drop-append_seam d below in
    let left_p : drop (length d) path ≡ rest = ap (drop (length d)) f ∙ drop-append_seam d rest in
    grind (arith, slashed-of-push, length-append)

-- relativized paths: below a directory, a base's text has as many slashes as there are segments to
-- go up
text-below-directory-counts-climbs : (prefix up : List (List ℕ)) (last : List ℕ)
    → NoSlashes (prefix ++ up) → NoSlashes ((prefix ++ up) ++ last ∷ []) → (below : List ℕ)
    × (slashed ((prefix ++ up) ++ last ∷ []) ≡ dir prefix ++ below) × (slashes below ≡ length up)
text-below-directory-counts-climbs prefix up last lack lacks =
    let first = nonempty-segments-have-first (up ++ last ∷ [])
    (pushed-segments-are-not-none up last) in
    let below = first.0 ++ slashed first.1 in
    let e : slashed ((prefix ++ up) ++ last ∷ []) ≡ dir prefix ++ below =
    grind (arith, segments-left-are-directory-and-rest, append_assoc) in
    let free = prefix-all-pass lacks_slash prefix up lack in
    let z = path-below-directory-has-its-segments-first prefix (prefix ++ up) last below free
    lacks e in (
      below,
      e,
      slashes-count-segments below ∙ omega (
        arith,
        ap length z,
        length-append prefix up,
        length-append prefix (pop (segments below)),
      ),
    )

-- relativized paths: a path's segments and where x leads from them share a prefix, from which a
-- relative path is no longer than x
target-shares-prefix-with-segments : (s : List ℕ) (segs : List (List ℕ)) (x : List ℕ)
    → NoSlashes (s ∷ segs) → AllPass is_dotless (s ∷ segs) → is_empty x ≡ false
    → starts 47 x ≡ false → has_colon_in_first_segment x ≡ false → SharesPrefix (slashed (s ∷ segs))
    (remove_dot_segments (directory (slashed (s ∷ segs)) ++ x)) x
target-shares-prefix-with-segments s segs x lack dotless some rootless colon =
    let l = segments-are-all-but-last-and-last s segs in
    let xs = pop (s ∷ segs) in
    let lack' = subst NoSlashes l.1 lack in
    let dotless' = subst (AllPass is_dotless) l.1 dotless in
    let lack_xs = prefix-all-pass lacks_slash xs (l.0 ∷ []) lack' in
    let w = leads xs x (grind (arith, prefix-all-pass)) lack_xs some rootless colon in
    let b = text-below-directory-counts-climbs w.prefix w.up l.0
    (subst NoSlashes w.output_is lack_xs)
    (subst (λ t. NoSlashes (t ++ l.0 ∷ [])) w.output_is lack') in
    grind (arith, joined-directory-is-shared-prefix, directory-of-dotless-segments)

-- relativized paths: a base and where x leads from it share a prefix, from which a relative path is
-- no longer than x
target-shares-prefix-with-base : (base x : List ℕ) → IsAbsolute base → lacks_dot_segments base
    ≡ true
    → is_empty x ≡ false → starts 47 x ≡ false → has_colon_in_first_segment x ≡ false
    → SharesPrefix base (remove_dot_segments (directory base ++ x)) x
target-shares-prefix-with-base base x absolute dotless some rootless colon =
    property-of-absolute-path-by-segments (λ base. lacks_dot_segments base ≡ true
    → SharesPrefix base (remove_dot_segments (directory base ++ x)) x)
    (λ s segs lack p. target-shares-prefix-with-segments s segs x lack
    (segments-of-dotless-path-are-dotless (s ∷ segs) lack p) some rootless
    colon) base absolute dotless

-- relativized paths: the longest prefix that base and path share ends in the `/` at this index
pub record IsLastSharedSlash (base path : List ℕ) (last : ℕ) : Type 0 where
  pub in_base : last < length base
  pub in_path : last < length path
  pub base_at : get_or base last 0 ≡ 47
  pub path_at : get_or path last 0 ≡ 47
  pub longest : IsLongestPrefix (last + 1) base path

pub last-shared-slash-of-equals : (bytes base others path : List ℕ) (last : ℕ) → bytes ≡ base
    → others ≡ path → IsLastSharedSlash bytes others last → IsLastSharedSlash base path last
last-shared-slash-of-equals bytes base others path last e f w =
    subst (λ t. IsLastSharedSlash base t last) f (subst (λ t. IsLastSharedSlash t others last) e w)

-- relativized paths: no path without a leading `/` is shorter than the relative path by the longest
-- shared prefix
relative-path-is-shortest-rootless-path : (given base path x : List ℕ) (last : ℕ)
    → directory base ≡ directory given → IsAbsolute base → lacks_dot_segments base ≡ true
    → IsLastSharedSlash base path last → is_empty x ≡ false → starts slash x ≡ false
    → has_colon_in_first_segment x ≡ false → remove_dot_segments (joined_path given x) ≡ path
    → length (relative_from (last + 1) base path) ≤ length x
relative-path-is-shortest-rootless-path given base path x last same absolute dotless w some rootless
    colon leads =
    let joins : remove_dot_segments (directory base ++ x) ≡ path = grind (arith, leads) in
    let f = subst (λ t. SharesPrefix base t x) joins
    (target-shares-prefix-with-base base x absolute dotless some rootless colon) in
    omega (
      arith,
      f.short,
      longer-shared-prefix-gives-shorter-path base path last f.len w.in_base w.in_path w.base_at
          w.path_at (w.longest f.len f.in_base f.in_path f.shared),
    )

path-from-root-is-shortest-absolute-path : (given path x : List ℕ) → is_empty x ≡ false
    → starts slash x ≡ true → has_authority x ≡ false
    → remove_dot_segments (joined_path given x) ≡ path → length (guarded None path) ≤ length x
path-from-root-is-shortest-absolute-path given path x some rooted none leads =
    let same : dotless_if_absolute x ≡ path = grind (arith, leads) in
    omega (arith, target-path-is-no-longer None x none, ap (λ t. length (guarded None t)) same)

-- relativized paths: one (way) that is no longer than the relative path and the one from the root
-- is the shortest
pub no-longer-than-both-paths-is-shortest : (given base path way : List ℕ) (last : ℕ)
    → directory base ≡ directory given → IsAbsolute base → lacks_dot_segments base ≡ true
    → IsLastSharedSlash base path last → length way ≤ length (guarded None path)
    → length way ≤ length (relative_from (last + 1) base path) → IsShortestPath given path way
no-longer-than-both-paths-is-shortest given base path way last same absolute dotless w root other =
    grind (arith, path-from-root-is-shortest-absolute-path, relative-path-is-shortest-rootless-path)

-- lengths of paths to relativize: the one from the root is shorter than a longer relative one;
-- guard: the length of its guard
pub path-from-root-is-shorter : (n guard : ℕ) (path rest way : List ℕ) → rest ≡ drop n path
    → n ≤ length path → length (guarded None path) ≡ guard + length path
    → n + guard + length rest < length way → length (guarded None path) < length way
path-from-root-is-shorter n guard path rest way e within whole h =
    grind (arith, nat_tests, length-drop)
