-- What the sets of the four kinds have in common, and what goes on where another stops.
use Rattle.error_laws.proofs.Common.{arith, ◌≡◌, ℕ, Bool, true, false, List, [], refl, ⊎_elim, rules, codes, nat_tests, valid_prefix, allows_past_ascii, is_one_of, is_userinfo_char, is_path_char, excludes, starts, Kind, first_segment_set, kind_by_flags, Adjoins, greater-set-goes-on-with-mark, nothing-is-scanned-at-mark, begins-with-further-mark}
use Rattle.uri_parts.proofs.Offered.{known-kind-adjoins, each_kind_separates_components, SeparatesComponents, HasAllBut, greater-set-has-all-but-marks}

-- error law: what it needs of the sets of each of the four kinds
pub record Facts (kind : Kind) : Type 0 where
  pub known : kind ≡ kind_by_flags kind.path.ucschar kind.needs_scheme
  pub apart : SeparatesComponents (first_segment_set kind) kind
  pub adjoins : Adjoins kind
  -- what may follow a name, and what may follow userinfo that is no name
  pub name_marks : excludes kind.reg_name (codes ":@/?#[") ≡ true
  pub userinfo_marks : excludes kind.userinfo (codes "@/?#[") ≡ true
  -- a path has but `@` and `/` more than userinfo
  pub only_slash : HasAllBut (codes "@/") kind.userinfo kind.path

path-char-but-at-or-slash-is-userinfo-char : (c : ℕ) → is_one_of (codes "@/") c ≡ false
    → is_userinfo_char c ≡ false
    → is_path_char c ≡ false
path-char-but-at-or-slash-is-userinfo-char c m e = grind (arith, nat_tests)

-- error law: the sets of the four kinds have the facts that the law needs; the Bools are whether an
-- IRI's, and with a scheme needed
pub facts-of-four-kinds : (past needs : Bool) → Facts (kind_by_flags past needs)
unfolding allows_past_ascii
facts-of-four-kinds false needs = search (
  rules,
  each_kind_separates_components,
  known-kind-adjoins,
  greater-set-has-all-but-marks,
  path-char-but-at-or-slash-is-userinfo-char,
)
facts-of-four-kinds true needs = search (
  rules,
  each_kind_separates_components,
  known-kind-adjoins,
  greater-set-has-all-but-marks,
  path-char-but-at-or-slash-is-userinfo-char,
)

module _ (kind : Kind) (f : Facts kind) (bs : List ℕ) where
  -- a path goes on where userinfo ends with `@` or `/` alone
  pub path-stops-with-userinfo : valid_prefix kind.userinfo bs ≡ 0 → starts 64 bs ≡ false
      → starts 47 bs ≡ false → valid_prefix kind.path bs ≡ 0
  path-stops-with-userinfo z at s = ⊎_elim (λ n. n)
      (λ m. nothing-is-scanned-at-mark kind.path [] f.apart.path_lacks refl bs
      (begins-with-further-mark 47 [] bs (begins-with-further-mark 64 (codes "/") bs m at) s))
      (grind (arith, nat_tests, greater-set-goes-on-with-mark))

  -- a path goes on after a first segment with `:` or `/` alone
  pub path-stops-with-segment : valid_prefix (first_segment_set kind) bs ≡ 0
      → starts 58 bs ≡ false → starts 47 bs ≡ false → valid_prefix kind.path bs ≡ 0
  path-stops-with-segment z c s = ⊎_elim (λ n. n)
      (λ m. nothing-is-scanned-at-mark kind.path [] f.apart.path_lacks refl bs
      (begins-with-further-mark 47 [] bs (begins-with-further-mark 58 (codes "/") bs m c) s))
      (grind (arith, nat_tests, greater-set-goes-on-with-mark))
