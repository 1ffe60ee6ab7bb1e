-- The two paths that lead to a path.
use Rattle.uri_relative.proofs.Common.{◌≡◌, ℕ, zero, suc, ◌+◌, ◌<◌, ◌≤◌, Bool, true, false, not, cond, List, [], ◌++◌, length, take, drop, get_or, refl, sym, ap, ◌∙◌, subst, inr, arith, lit<, append_assoc, codes, None, OnOk, Result, length-drop, take-append-drop, IsCharBoundary-after_ascii, list_all-append, and_parts, cond-false, nat_tests, slash, TableSet, allows, is_one_of, starts, has_authority, has_colon_in_first_segment, is_empty, IsAbsolute, lacks_dot_segments, directory, guarded, merged, is_set_text, set-text-from-utf8, set-text-is-valid, remove-dots-of-dotless, dotless-path-does-not-underflow, dot-is-set-text, guarded-set-text-is-set-text, slashed, absolute-path-is-slash-and-rest, double_dots, relative_path, relative_from, needs_leading_dot, slashes, IsSharedPrefix, IsPathTo, joined_path}
use Rattle.std.specs.List.{list_all}
use Rattle.std.specs.Str.{IsUtf8, IsCharBoundary, chars}
use Rattle.uri_pct.specs.Tokens.{is_valid_for, tokens_from_chars}
use Rattle.uri_pct.proofs.Offered.{ascii_char_is_allowed_iff_in_set}
use Rattle.uri_ops.specs.ComponentSets.{IsComponentSet}
use Rattle.uri_ops.proofs.Offered.{ascii-bytes-are-utf8, lacked-delimiters-fail-test, test-of-delimiters-gives-lacks, set-text-splits, set-texts-join-at-slash}
use Rattle.uri_relative.proofs.Climbs.{FollowsDotsFromDirectory, remove_dot_segments-follows-dots, underflows-follows-dots, merged-relative-path-leads-to-path, merged-relative-path-does-not-underflow, relative_path-of-some-climbs}

-- relativized paths: the path is not empty, has no leading `/`, and no `:` in its first segment
record IsRelative (way : List ℕ) : Type 0 where
  some : is_empty way ≡ false
  rootless : starts slash way ≡ false
  no_scheme : has_colon_in_first_segment way ≡ false

-- relativized paths: one without `../` is `.`, or the rest, after `./` if it would be misread;
-- none: whether the rest is empty
path-without-double-dots-is-relative : (rest : List ℕ) (none misread : Bool) → is_empty rest ≡ none
    → needs_leading_dot rest ≡ misread
    → IsRelative (cond none (codes ".") (cond misread (codes "./" ++ rest) rest))
path-without-double-dots-is-relative rest true misread e f =
    record { some = refl; rootless = refl; no_scheme = refl }
path-without-double-dots-is-relative rest false true e f =
    record { some = refl; rootless = refl; no_scheme = refl }
path-without-double-dots-is-relative rest false false e f = grind arith

-- relativized paths: one with n + 1 `../` is relative; none: whether the rest is empty, then the
-- last has no `/`
path-with-double-dots-is-relative : (n : ℕ) (rest : List ℕ) (none : Bool)
    → IsRelative (cond none (double_dots n ++ codes "..") (double_dots (suc n) ++ rest))
unfolding double_dots
path-with-double-dots-is-relative zero rest true =
    record { some = refl; rootless = refl; no_scheme = refl }
path-with-double-dots-is-relative (suc n) rest true =
    record { some = refl; rootless = refl; no_scheme = refl }
path-with-double-dots-is-relative n rest false =
    record { some = refl; rootless = refl; no_scheme = refl }

relative_path-is-relative : (n : ℕ) (rest : List ℕ) → IsRelative (relative_path n rest)
relative_path-is-relative zero rest = path-without-double-dots-is-relative rest (is_empty rest)
    (needs_leading_dot rest) refl refl
relative_path-is-relative (suc n) rest =
    subst IsRelative (sym (relative_path-of-some-climbs n rest))
    (path-with-double-dots-is-relative n rest (is_empty rest))

-- relativized paths: one that does not begin with `/` does not begin with `//`
pub rootless-path-has-no-authority : (way : List ℕ) → starts slash way ≡ false
    → has_authority way ≡ false
rootless-path-has-no-authority way e = grind arith

relative-path-is-merged : (base way : List ℕ) → IsRelative way → joined_path base way
    ≡ merged base way
relative-path-is-merged base way r = cond-false _ _ _ r.some ∙ cond-false _ _ _ r.rootless

property-of-each-case-holds-of-relative-path : (P : List ℕ → Type 0) (rest : List ℕ) → P (codes ".")
    → P (codes "./" ++ rest) → P rest → ((n : ℕ) → P (double_dots n ++ codes ".."))
    → ((n : ℕ) → P (double_dots n ++ rest)) → (n : ℕ) → P (relative_path n rest)
property-of-each-case-holds-of-relative-path P rest dot guard here up down n =
    grind (arith, nat_tests)

-- relativized paths: the text has neither `?` nor `#`
abbrev lacking : List ℕ → Bool
lacking text = list_all (λ c. not (is_one_of (codes "?#") c)) text

-- relativized paths: n `../` add neither `?` nor `#`
double-dots-lack-marks : (n : ℕ) (rest : List ℕ) → lacking rest ≡ true
    → lacking (double_dots n ++ rest) ≡ true
unfolding double_dots
double-dots-lack-marks zero rest e = e
double-dots-lack-marks (suc n) rest e = double-dots-lack-marks n rest e

-- relativized paths: what is left of a path has neither `?` nor `#`
rest-of-path-lacks-marks : (n : ℕ) (path : List ℕ) → lacking path ≡ true
    → lacking (drop n path) ≡ true
rest-of-path-lacks-marks n path e =
    let p = λ (c : ℕ). not (is_one_of (codes "?#") c) in
    (and_parts (list_all p (take n path)) (list_all p (drop n path))
    (sym (list_all-append p (take n path) (drop n path))
    ∙ ap (list_all p) (take-append-drop n path) ∙ e)).1

-- relativized paths: one of a rest without `?` and `#` has none
relative-path-lacks-marks : (n : ℕ) (rest : List ℕ) → lacking rest ≡ true
    → lacking (relative_path n rest) ≡ true
relative-path-lacks-marks n rest e =
    grind (arith, property-of-each-case-holds-of-relative-path, double-dots-lack-marks)

-- characters that a set allows
module _ (set : TableSet) (w : IsComponentSet (codes "?#[]") set)
    (slash : set.ascii 47 ≡ true) where
  path-set-allows-dot : allows set 46 ≡ true
  path-set-allows-dot = ascii_char_is_allowed_iff_in_set set 46 (lit< tt)
      ∙ w.unreserved.ascii 46 refl

  double-dot-is-text-of-set : is_set_text set (codes "..") ≡ true
  unfolding is_valid_for chars tokens_from_chars
  double-dot-is-text-of-set =
      grind (arith, set-text-from-utf8, ascii-bytes-are-utf8, path-set-allows-dot)

  double-dots-are-text-of-set : (n : ℕ) (rest : List ℕ) → is_set_text set rest ≡ true
      → is_set_text set (double_dots n ++ rest) ≡ true
  unfolding double_dots
  double-dots-are-text-of-set zero rest e = e
  double-dots-are-text-of-set (suc n) rest e = set-texts-join-at-slash set slash (codes "..")
      (double_dots n ++ rest) double-dot-is-text-of-set (double-dots-are-text-of-set n rest e)

  relative-path-is-text-of-set : (n : ℕ) (rest : List ℕ) → is_set_text set rest ≡ true
      → is_set_text set (relative_path n rest) ≡ true
  relative-path-is-text-of-set n rest e = property-of-each-case-holds-of-relative-path
      (λ t. is_set_text set t ≡ true) rest (dot-is-set-text set w slash)
      (set-texts-join-at-slash set slash (codes ".") rest (dot-is-set-text set w slash) e) e
      (λ m. double-dots-are-text-of-set m (codes "..") double-dot-is-text-of-set)
      (λ m. double-dots-are-text-of-set m rest e) n

  rest-after-slash-is-text-of-set : (n : ℕ) (path prefix : List ℕ) → take n path
      ≡ prefix ++ codes "/"
      → is_set_text set path ≡ true → is_set_text set (drop n path) ≡ true
  rest-after-slash-is-text-of-set n path prefix closed e =
      (set-text-splits set prefix (drop n path)
      (ap (is_set_text set) (sym (append_assoc prefix (codes "/") (drop n path))
      ∙ ap (λ t. t ++ drop n path) (sym closed) ∙ take-append-drop n path) ∙ e)).1

  relative-path-is-valid-for-set : (n : ℕ) (base path : List ℕ) → IsUtf8 path
      → IsSharedPrefix n base path
      → is_valid_for set path ≡ true → is_valid_for set (relative_from n base path) ≡ true
  relative-path-is-valid-for-set n base path utf8 s e =
      set-text-is-valid set _ (relative-path-is-text-of-set (slashes (drop n base)) (drop n path)
      (rest-after-slash-is-text-of-set n path s.closed.0 (sym s.same ∙ s.closed.1)
      (set-text-from-utf8 set path utf8 e)))

  path-from-root-is-valid-for-set : (path : List ℕ) → IsUtf8 path → is_valid_for set path ≡ true
      → is_valid_for set (guarded None path) ≡ true
  path-from-root-is-valid-for-set path utf8 e = set-text-is-valid set _
      (guarded-set-text-is-set-text set w slash None path (set-text-from-utf8 set path utf8 e))

pub relative-path-leads-to-path : (n : ℕ) (base given path : List ℕ)
    → directory base ≡ directory given → IsAbsolute base → lacks_dot_segments base ≡ true
    → IsAbsolute path → lacks_dot_segments path ≡ true → IsUtf8 path → IsSharedPrefix n base path
    → IsPathTo given path (relative_from n base path)
relative-path-leads-to-path n base given path same base_absolute base_dotless absolute
    dotless utf8 s =
    let way = relative_from n base path in
    let r = relative_path-is-relative (slashes (drop n base)) (drop n path) in
    let joined : joined_path given way ≡ directory base ++ way =
    relative-path-is-merged given way r ∙ ap (λ d. d ++ way) (sym same) in
    record {
      some = r.some;
      leads = grind (arith, merged-relative-path-leads-to-path);
      below = grind (arith, merged-relative-path-does-not-underflow);
      no_authority = rootless-path-has-no-authority way r.rootless;
      no_scheme = r.no_scheme;
      lacks = λ h. test-of-delimiters-gives-lacks (codes "?#") way
          (relative-path-lacks-marks (slashes (drop n base)) (drop n path)
          (rest-of-path-lacks-marks n path (lacked-delimiters-fail-test (codes "?#") path h)));
      valid = λ set w slash e. relative-path-is-valid-for-set set w slash n base path utf8 s e;
    }

-- relativized paths: the guard `/.` before a path from the root counts as no segment
pub guard-counts-as-no-segment : {X : Type 0} (f : List ℕ → X) → FollowsDotsFromDirectory f
    → (path : List ℕ) → IsAbsolute path → f (codes "/." ++ path) ≡ f path
unfolding slashed
guard-counts-as-no-segment f by path h = by.stay [] path refl refl (inr h)
    ∙ ap f (sym (absolute-path-is-slash-and-rest path h))

pub path-from-root-leads-to-path : (given path : List ℕ) → IsAbsolute path
    → lacks_dot_segments path ≡ true → IsUtf8 path → IsPathTo given path (guarded None path)
path-from-root-leads-to-path given path h dotless utf8 =
    grind (
      arith,
      guard-counts-as-no-segment,
      remove_dot_segments-follows-dots,
      remove-dots-of-dotless,
      underflows-follows-dots,
      dotless-path-does-not-underflow,
      path-from-root-is-valid-for-set,
    )

-- relativized references: the path that was appended leads to the path, is as short as short says,
-- and the least as least says
pub pushed-path-leads-to-path : {A E : Type 0} (result : Result A E)
    (pushes short least : List ℕ → Type 0) (way given path : List ℕ) → OnOk result (pushes way)
    → IsPathTo given path way → short way → least way
    → OnOk result ((way : List ℕ) × pushes way × IsPathTo given path way × short way × least way)
pushed-path-leads-to-path h pushes short least way given path e w s l = grind arith

-- relativized paths: a character begins after the last shared slash (47)
pub boundary-after-last-slash : (path bytes : List ℕ) (last : ℕ) → bytes ≡ path → IsUtf8 path
    → last < length bytes → get_or bytes last 0 ≡ 47 → IsCharBoundary path (last + 1)
boundary-after-last-slash path bytes last e utf8 within at = IsCharBoundary-after_ascii path last
    utf8 (let h : last < length path = subst (λ t. last < length t) e within in h) (grind arith)

pub shared-prefix-of-equals : (n : ℕ) (a b p q : List ℕ) → a ≡ b → p ≡ q → IsSharedPrefix n a p
    → IsSharedPrefix n b q
shared-prefix-of-equals n a b p q e f h = subst (λ t. IsSharedPrefix n t q) e
    (subst (IsSharedPrefix n a) f h)

-- relativized paths: the one that was appended leads to the path, is as short as short says, and
-- the least as least says; double_dots: how many `../` it begins with
pub pushed-relative-path-leads-to-path : {A E : Type 0} (result : Result A E)
    (pushes short least : List ℕ → Type 0) (n : ℕ) (base given path : List ℕ) (double_dots : ℕ)
    (rest : List ℕ) → double_dots ≡ slashes (drop n base)
    → rest ≡ drop n path → OnOk result (pushes (relative_path double_dots rest))
    → IsPathTo given path (relative_from n base path) → short (relative_path double_dots rest)
    → least (relative_path double_dots rest)
    → OnOk result ((way : List ℕ) × pushes way × IsPathTo given path way × short way × least way)
pushed-relative-path-leads-to-path result pushes short least n base given path double_dots rest e f
    h way s l =
    grind (arith, nat_tests, pushed-path-leads-to-path)

-- relativized paths: one that goes up n times is no longer than the path from the root, by its
-- length; guard: that of the guard
pub relative-path-is-no-longer-than-from-root : (n : ℕ) (path rest way : List ℕ) (guard : ℕ)
    → rest ≡ drop n path → n ≤ length path → length (guarded None path) ≡ guard + length path
    → length way ≤ n + guard + length rest → length way ≤ length (guarded None path)
relative-path-is-no-longer-than-from-root n path rest way guard e within whole h =
    grind (arith, nat_tests, length-drop)
