-- The forms of a reference by what it leads to: with a scheme, with an authority, or a path. RFC
-- 3986, sections 4.2 and 5.2.2.
use Rattle.uri_relative.proofs.Common.{◌≡◌, ◌+◌, ◌≤◌, true, false, cond, [], length, arith, ⊎_elim, length-append, codes, is_some, cases_Bool, nat_tests, Components, marked, recompose, Kind, is_empty, dotless_if_absolute, guarded, query_or, target_of, after_path, joined_path, IsReferenceFrom}
use Rattle.uri_relative.proofs.Shrinking.{target-is-no-longer-with-final-path, length-of-recompose}

-- forms of references, for relativizing: one (o) with a scheme is no shorter than the target t
pub reference-with-scheme-is-no-shorter : (kind : Kind) (b t o : Components)
    → IsReferenceFrom kind b t o → is_some o.scheme ≡ true
    → length (recompose t) ≤ length (recompose o)
reference-with-scheme-is-no-shorter kind b t o l e =
    grind (arith, nat_tests, target-is-no-longer-with-final-path)

-- forms of references, for relativizing: what holds of one (o) with an authority and no scheme that
-- leads to t
pub record ByAuthority (b t o : Components) : Type 0 where
  pub scheme : b.scheme ≡ t.scheme
  pub authority : o.authority ≡ t.authority
  pub short : length (recompose t) ≤ length (marked [] t.scheme (codes ":")) + length (recompose o)

-- forms of references, for relativizing: one (o) with an authority and no scheme has the target's
-- authority, and is shorter by the scheme at most
reference-with-authority-lacks-only-scheme : (kind : Kind) (b t o : Components)
    → IsReferenceFrom kind b t o
    → is_some o.scheme ≡ false → is_some o.authority ≡ true → ByAuthority b t o
reference-with-authority-lacks-only-scheme kind b t o l none some =
    grind (arith, nat_tests, target-is-no-longer-with-final-path, length-of-recompose)

-- forms of references, for relativizing: what holds of one (o) without scheme and authority that
-- leads to t
pub record IsPathForm (b t o : Components) : Type 0 where
  pub scheme : b.scheme ≡ t.scheme
  pub authority : b.authority ≡ t.authority
  pub path : guarded b.authority (dotless_if_absolute (joined_path b.path o.path)) ≡ t.path
  pub query : cond (is_empty o.path) (query_or b.query o.query) o.query ≡ t.query
  pub fragment : o.fragment ≡ t.fragment

-- forms of references, for relativizing: one (o) without a scheme and an authority leads to t by
-- its path, query and fragment
pub reference-without-authority-is-path-form : (b t o : Components) → target_of b o ≡ t
    → is_some o.scheme ≡ false → is_some o.authority ≡ false → IsPathForm b t o
reference-without-authority-is-path-form b t o leads none none' = grind (arith, nat_tests)

-- forms of references, for relativizing: one (o) has a scheme, or an authority alone, or neither
pub reference-is-of-one-form : (kind : Kind) (b t o : Components) (P : Type 0)
    → IsReferenceFrom kind b t o → (is_some o.scheme ≡ true → P)
    → (is_some o.scheme ≡ false → is_some o.authority ≡ true → ByAuthority b t o → P)
    → (is_some o.scheme ≡ false → is_some o.authority ≡ false → IsPathForm b t o → P) → P
reference-is-of-one-form kind b t o P l scheme authority path = ⊎_elim scheme
    (λ e. ⊎_elim
    (λ f. authority e f (reference-with-authority-lacks-only-scheme kind b t o l e f))
    (λ f. path e f (reference-without-authority-is-path-form b t o l.leads e f))
    (cases_Bool (is_some o.authority)))
    (cases_Bool (is_some o.scheme))

pub length-of-query-and-fragment : (c : Components) → length (after_path c)
    ≡ length (marked (codes "?") c.query []) + length (marked (codes "#") c.fragment [])
length-of-query-and-fragment c = length-append (marked (codes "?") c.query [])
    (marked (codes "#") c.fragment [])

-- forms of references, for relativizing: one (o) has the query and the fragment of the target t
pub record HasEnd (t o : Components) : Type 0 where
  pub query : o.query ≡ t.query
  pub fragment : o.fragment ≡ t.fragment

-- forms of references, for relativizing: target and reference with the same query and fragment have
-- as long a text after the path
pub equal-ends-have-equal-length : (t o : Components) → HasEnd t o → length (after_path t)
    ≡ length (after_path o)
equal-ends-have-equal-length t o h = grind arith

-- forms of references, for relativizing: one (o) without a scheme and an authority has the target's
-- query and fragment, or takes the base's query
pub path-form-has-end-or-inherits-query : (b t o : Components) → IsPathForm b t o → (P : Type 0)
    → (is_empty o.path ≡ true → is_some o.query ≡ false → b.query ≡ t.query → P)
    → (is_empty o.path ≡ true → is_some o.query ≡ true → HasEnd t o → P)
    → (is_empty o.path ≡ false → HasEnd t o → P) → P
path-form-has-end-or-inherits-query b t o w P alone query path = grind (arith, nat_tests)
