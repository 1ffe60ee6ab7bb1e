-- Where components end: the marks that a set excludes, and the texts that begin with no scheme.
use Rattle.uri_ops.proofs.Common.{◌≡◌, ℕ, Bool, true, false, eqb, not, nat_lt, List, [], ◌∷◌, ◌++◌, take, drop, refl, sym, ap, ◌∙◌, ◌&&◌, ⊎_elim, arith, codes, is_ascii_hexdigit, list_all, list_any, cases_Bool, and_parts, and_from, and_left, or_parts, nat_tests, TableSet, is_one_of, excludes, length_before_mark_at_start_is_zero, length_before_marks_counts_other_byte, starts, has_scheme, before_any, from_any, has_colon_in_first_segment, Kind, IsEmptyOrMarked, HasComponentSets, common_steps}

-- meanings of components: an ASCII character other than `%` and hexadecimal digits, as a delimiter
abbrev pub is_outside_octets : ℕ → Bool
is_outside_octets c = nat_lt c 128 && (not (is_ascii_hexdigit c) && not (eqb c 37))

-- meanings of components: delimiters that a set lacks, and no octet has, are not in its texts
pub ends-are-excluded-from-set : (marks : List ℕ) (set : TableSet)
    → list_all is_outside_octets marks ≡ true
    → list_any set.ascii marks ≡ false → excludes set marks ≡ true
ends-are-excluded-from-set [] set e f = refl
ends-are-excluded-from-set (m ∷ marks) set e f =
    grind (arith, common_steps, set.ascii, (ends-are-excluded-from-set marks set))

pub fewer-characters-are-excluded-too : (some more : List ℕ) (set : TableSet)
    → excludes set (some ++ more) ≡ true → excludes set some ≡ true
fewer-characters-are-excluded-too [] more set e = refl
fewer-characters-are-excluded-too (m ∷ some) more set e = let p = and_parts _ _ e in
    and_from _ _ p.0 (fewer-characters-are-excluded-too some more set p.1)

path-without-colon-meets-no-colon-first : (path tail : List ℕ)
    → has_colon_in_first_segment path ≡ false
    → IsEmptyOrMarked (codes "?#") tail → starts 58 (from_any (codes ":/?#") (path ++ tail)) ≡ false
path-without-colon-meets-no-colon-first [] [] e begins = refl
path-without-colon-meets-no-colon-first [] (c ∷ tail) e begins = grind arith
path-without-colon-meets-no-colon-first (c ∷ path) tail e begins =
    ⊎_elim (λ m. ap (λ n. starts 58 (drop n (c ∷ (path ++ tail))))
    (length_before_mark_at_start_is_zero (codes ":/?#") c (path ++ tail) m) ∙ first c path e) (λ m.
    let past = ap (λ n. drop n (c ∷ (path ++ tail)))
    (length_before_marks_counts_other_byte (codes ":/?#") c (path ++ tail) m) in
    ap (starts 58) past ∙ path-without-colon-meets-no-colon-first path tail (or_parts (eqb c 58)
    (has_colon_in_first_segment path) (sym (ap (list_any (λ d. eqb d 58))
    (before_other c path (no_slash c m))) ∙ e)).1 begins) (cases_Bool (is_one_of (codes ":/?#") c))
  where
    no_slash : (c : ℕ) → is_one_of (codes ":/?#") c ≡ false → is_one_of (codes "/") c ≡ false
    no_slash c e = grind (arith, nat_tests)

    colon_no_slash : (c : ℕ) → eqb c 58 ≡ true → is_one_of (codes "/") c ≡ false
    colon_no_slash c e = grind (arith, nat_tests)

    before_other : (c : ℕ) (path : List ℕ) → is_one_of (codes "/") c ≡ false
        → before_any (codes "/") (c ∷ path) ≡ c ∷ before_any (codes "/") path
    before_other c path m = ap (λ n. take n (c ∷ path))
        (length_before_marks_counts_other_byte (codes "/") c path m)

    first : (c : ℕ) (path : List ℕ) → has_colon_in_first_segment (c ∷ path) ≡ false
        → eqb c 58 ≡ false
    first c path e = grind (arith, common_steps, before_other, colon_no_slash)

-- recomposing meanings: a path whose first segment has no `:` has no scheme, whatever query or
-- fragment follows it
pub no_scheme : (path tail : List ℕ) → has_colon_in_first_segment path ≡ false
    → IsEmptyOrMarked (codes "?#") tail → has_scheme (path ++ tail) ≡ false
no_scheme path tail e begins = and_left _ _
    (path-without-colon-meets-no-colon-first path tail e begins)

-- a `?` and a `#` end a path, and a `#` a query
module _ (kind : Kind) (sets : HasComponentSets kind) where
  pub path-set-excludes-its-ends : excludes kind.path (codes "?#") ≡ true
  path-set-excludes-its-ends = fewer-characters-are-excluded-too (codes "?#") (codes "[]") kind.path
      (ends-are-excluded-from-set (codes "?#[]") kind.path refl sets.path.ends)

  pub query-set-excludes-its-end : excludes kind.query (codes "#") ≡ true
  query-set-excludes-its-end = fewer-characters-are-excluded-too (codes "#") (codes "[]") kind.query
      (ends-are-excluded-from-set (codes "#[]") kind.query refl sets.query.ends)
