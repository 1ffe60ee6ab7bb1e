-- A path that leads from a directory to a path: the inverse of RFC 3986, sections 5.2.3 and 5.2.4.
use Rattle.std.specs.Prelude.{◌≡◌, ◌≤◌, ℕ, zero, suc, Bool, true, false, ◌==◌, ◌||◌, ◌-◌, List, [], ◌++◌, take, drop, codes, if◌then◌else◌, length}
use Rattle.std.specs.List.{count_by}
use Rattle.uri_pct.specs.Prelude.{TableSet, is_valid_for, slash}
use Rattle.uri_parts.specs.Prelude.{Lacks, has_authority, has_colon_in_first_segment, starts}
use Rattle.uri_ops.specs.Prelude.{EndsInSlash, IsComponentSet, is_empty, merged, remove_dot_segments, underflows}

-- how many `/` are in a text: in the rest of a base's path, how many `../` a relative path begins
-- with
abbrev pub slashes : List ℕ → ℕ
slashes text = count_by (λ c. c == slash) text

-- `../` so many times: a path that goes up by this many directories (section 5.2.4)
unfoldable pub double_dots : ℕ → List ℕ
double_dots zero = []
double_dots (suc n) = codes "../" ++ double_dots n

-- whether a relative path needs `./` before it: it would be parsed as an absolute path, or as a
-- scheme (section 4.2)
abbrev pub needs_leading_dot : List ℕ → Bool
needs_leading_dot rest = starts slash rest || has_colon_in_first_segment rest

-- the shortest path that goes up by n directories, and from there to the rest (sections 4.2 and
-- 5.2.4)
abbrev pub relative_path : ℕ → List ℕ → List ℕ
relative_path n rest =
    if n == 0
    then (if is_empty rest then codes "."
    else (if needs_leading_dot rest then codes "./" ++ rest else rest))
    else (if is_empty rest then double_dots (n - 1) ++ codes ".." else double_dots n ++ rest)

-- the paths of a base and a target share the prefix of length n, which ends in `/`: a directory
-- that both are in
pub record IsSharedPrefix (n : ℕ) (base path : List ℕ) : Type 0 where
  pub same : take n base ≡ take n path
  pub closed : EndsInSlash (take n base)

-- the number is at least the length of each prefix that the paths of a base and a target share and
-- that ends in `/`
abbrev pub IsLongestPrefix : ℕ → List ℕ → List ℕ → Type 0
IsLongestPrefix n base path =
    (m : ℕ) → m ≤ length base → m ≤ length path → IsSharedPrefix m base path → m ≤ n

-- the relative path from the base's path to another, in this order, if they share the prefix of
-- length n
abbrev pub relative_from : ℕ → List ℕ → List ℕ → List ℕ
relative_from n base path = relative_path (slashes (drop n base)) (drop n path)

-- what a path of a relativizer's reference leads to from the base's path, before dot segments are
-- removed (section 5.2.2)
abbrev pub joined_path : List ℕ → List ℕ → List ℕ
joined_path base path =
    if is_empty path then base else (if starts slash path then path else merged base path)

-- The path `way` of a reference leads from the base's path to another, and never above the root
-- (sections 5.2.3 and 5.2.4).
-- The reference is parsed as this path. It is not empty, since an empty path takes the base's
-- query.
pub record IsPathTo (base path way : List ℕ) : Type 0 where
  pub some : is_empty way ≡ false
  pub leads : remove_dot_segments (joined_path base way) ≡ path
  pub below : underflows (joined_path base way) ≡ false
  pub no_authority : has_authority way ≡ false
  pub no_scheme : has_colon_in_first_segment way ≡ false
  pub lacks : Lacks (codes "?#") path → Lacks (codes "?#") way
  pub valid : (set : TableSet) → IsComponentSet (codes "?#[]") set → set.ascii slash ≡ true
      → is_valid_for set path ≡ true → is_valid_for set way ≡ true
