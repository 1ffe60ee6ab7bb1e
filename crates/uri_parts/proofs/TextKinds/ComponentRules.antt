-- The components of a text of a kind meet their rules.
use Rattle.uri_parts.proofs.Common.{◌≡◌, ℕ, Bool, true, List, sym, ap, ◌∙◌, arith, Option, Some, nat_tests, TableSet, is_valid_for, IsValidFor, Components, components, is_authority_for, Kind, absent_or_passes, is_scheme, is_authority, IsOfKind, components_meet_rules}

present-part-passes-test : (part : Option (List ℕ)) (test : List ℕ → Bool) (x : List ℕ)
    → absent_or_passes part test ≡ true → part ≡ Some x → test x ≡ true
present-part-passes-test part test x h e = sym (ap (λ o. absent_or_passes o test) e) ∙ h

-- texts of a kind: the components meet the rules of the kind, one by one
record MeetsRules (kind : Kind) (p : Components) : Type 0 where
  scheme : absent_or_passes p.scheme is_scheme ≡ true
  authority : absent_or_passes p.authority (is_authority kind) ≡ true
  path : is_valid_for kind.path p.path ≡ true
  query : absent_or_passes p.query (is_valid_for kind.query) ≡ true
  fragment : absent_or_passes p.fragment (is_valid_for kind.fragment) ≡ true

tested-components-meet-rules : (kind : Kind) (p : Components) → components_meet_rules kind p ≡ true
    → MeetsRules kind p
tested-components-meet-rules kind p h = grind (arith, nat_tests)

-- texts of a kind: the scheme of one, if there is one, meets its rule
pub scheme-of-text-of-kind-is-valid : (kind : Kind) (text part : List ℕ) → IsOfKind kind text
    → (components text).scheme ≡ Some part → is_scheme part ≡ true
scheme-of-text-of-kind-is-valid kind text part h e = present-part-passes-test _ is_scheme part
    (tested-components-meet-rules kind (components text) h).scheme e

-- texts of a kind: the authority of one, if there is one, meets the rule for the kind's sets
pub authority-of-text-of-kind-is-valid : (kind : Kind) (users names : TableSet) (text part : List ℕ)
    → IsOfKind kind text → users ≡ kind.userinfo → names ≡ kind.reg_name
    → (components text).authority ≡ Some part → is_authority_for users names part ≡ true
authority-of-text-of-kind-is-valid kind users names text part h s t e =
    grind (arith, nat_tests, present-part-passes-test, tested-components-meet-rules)

pub path-of-text-of-kind-is-valid : (kind : Kind) (set : TableSet) (text : List ℕ)
    → IsOfKind kind text → set ≡ kind.path → IsValidFor set (components text).path
path-of-text-of-kind-is-valid kind set text h s = ap (λ t. is_valid_for t (components text).path) s
    ∙ (tested-components-meet-rules kind (components text) h).path

pub query-of-text-of-kind-is-valid : (kind : Kind) (set : TableSet) (text part : List ℕ)
    → IsOfKind kind text
    → set ≡ kind.query → (components text).query ≡ Some part → IsValidFor set part
query-of-text-of-kind-is-valid kind set text part h s e =
    grind (arith, nat_tests, present-part-passes-test, tested-components-meet-rules)

pub fragment-of-text-of-kind-is-valid : (kind : Kind) (set : TableSet) (text part : List ℕ)
    → IsOfKind kind text
    → set ≡ kind.fragment → (components text).fragment ≡ Some part → IsValidFor set part
fragment-of-text-of-kind-is-valid kind set text part h s e = ap (λ t. is_valid_for t part) s
    ∙ present-part-passes-test _ (is_valid_for kind.fragment) part
    (tested-components-meet-rules kind (components text) h).fragment e

-- each component of a text of a kind meets its rule
pub ruleset parts_valid = (
  scheme-of-text-of-kind-is-valid,
  authority-of-text-of-kind-is-valid,
  path-of-text-of-kind-is-valid,
  query-of-text-of-kind-is-valid,
  fragment-of-text-of-kind-is-valid,
)
