-- The sets of the four kinds.
use Rattle.uri_ops.proofs.Common.{◌≡◌, ℕ, Bool, true, false, List, sym, subst, list_any, or_left, TableSet, is_unreserved, is_reg_name_char, is_userinfo_char, is_pchar, is_path_char, is_query_char, Kind, kind_by_flags, uri, uri_ref, iri, iri_ref, IsComponentSet, HasComponentSets, arith, common_steps}

unreserved-is-reg_name-character : (c : ℕ) → is_unreserved c ≡ true → is_reg_name_char c ≡ true
unreserved-is-reg_name-character c e = or_left _ _ e

unreserved-is-userinfo-character : (c : ℕ) → is_unreserved c ≡ true → is_userinfo_char c ≡ true
unreserved-is-userinfo-character c e = or_left _ _ (unreserved-is-reg_name-character c e)

-- sets of the four kinds: an unreserved character may be in a segment of a path (`pchar`)
unreserved-is-pchar : (c : ℕ) → is_unreserved c ≡ true → is_pchar c ≡ true
unreserved-is-pchar c e = or_left _ _ (unreserved-is-reg_name-character c e)

unreserved-is-path-character : (c : ℕ) → is_unreserved c ≡ true → is_path_char c ≡ true
unreserved-is-path-character c e = or_left _ _ (unreserved-is-pchar c e)

unreserved-is-query-character : (c : ℕ) → is_unreserved c ≡ true → is_query_char c ≡ true
unreserved-is-query-character c e = or_left _ _ (unreserved-is-pchar c e)

-- sets of the four kinds: that of a component whose ASCII characters pass the test; past, private:
-- whether it has ucschar, iprivate
component_table : (test : ℕ → Bool) (past private : Bool) → TableSet
component_table test past private =
    record { ascii = test; pct_encoded = true; ucschar = past; iprivate = private }

-- sets of the four kinds: a set by a test is a component's if it has the unreserved characters, and
-- neither `%` (37) nor the delimiters
tested-characters-are-component-set : (marks : List ℕ) (test : ℕ → Bool) (past private : Bool)
    → ((c : ℕ) → is_unreserved c ≡ true → test c ≡ true) → test 37 ≡ false
    → list_any test marks ≡ false → IsComponentSet marks (component_table test past private)
unfolding component_table
tested-characters-are-component-set marks test past private within percent ends =
    grind (arith, common_steps)

-- sets of the four kinds: the kind by its flags for ucschar, iprivate and the need of a scheme
kind_with : (past private needs : Bool) → Kind
kind_with past private needs = record {
  userinfo = component_table is_userinfo_char past false;
  reg_name = component_table is_reg_name_char past false;
  path = component_table is_path_char past false;
  query = component_table is_query_char past private;
  fragment = component_table is_query_char past false;
  needs_scheme = needs;
}

-- sets of the four kinds: they have unreserved characters and octets, and lack what ends each
-- component; past, private: whether they have ucschar, iprivate
kind_with-has-component-sets : (past private needs : Bool)
    → HasComponentSets (kind_with past private needs)
unfolding kind_with component_table
kind_with-has-component-sets past private needs =
    grind (
      arith,
      common_steps,
      tested-characters-are-component-set,
      unreserved-is-userinfo-character,
      unreserved-is-reg_name-character,
      unreserved-is-path-character,
      unreserved-is-query-character,
    )

-- sets of the four kinds: those of a URI have unreserved characters and octets, and lack what ends
-- each component
pub uri-has-component-sets : HasComponentSets uri
unfolding kind_with component_table
uri-has-component-sets = kind_with-has-component-sets false false true

-- sets of the four kinds: those of a URI reference have unreserved characters and octets, and lack
-- what ends each component
pub uri_ref-has-component-sets : HasComponentSets uri_ref
unfolding kind_with component_table
uri_ref-has-component-sets = kind_with-has-component-sets false false false

-- sets of the four kinds: those of an IRI have unreserved characters and octets, and lack what ends
-- each component
pub iri-has-component-sets : HasComponentSets iri
unfolding kind_with component_table
iri-has-component-sets = kind_with-has-component-sets true true true

-- sets of the four kinds: those of an IRI reference have unreserved characters and octets, and lack
-- what ends each component
pub iri_ref-has-component-sets : HasComponentSets iri_ref
unfolding kind_with component_table
iri_ref-has-component-sets = kind_with-has-component-sets true true false

-- sets of the four kinds: by its flags, each has unreserved characters and octets, and lacks what
-- ends a component
kind_by_flags-has-component-sets : (international needs_scheme : Bool)
    → HasComponentSets (kind_by_flags international needs_scheme)
kind_by_flags-has-component-sets false false = uri_ref-has-component-sets
kind_by_flags-has-component-sets false true = uri-has-component-sets
kind_by_flags-has-component-sets true false = iri_ref-has-component-sets
kind_by_flags-has-component-sets true true = iri-has-component-sets

-- sets of the four kinds: a kind that is one of them has unreserved characters and octets, and
-- lacks what ends each component
pub one-of-four-kinds-has-sets : (kind : Kind)
    → kind ≡ kind_by_flags kind.path.ucschar kind.needs_scheme → HasComponentSets kind
one-of-four-kinds-has-sets kind known = subst HasComponentSets (sym known)
    (kind_by_flags-has-component-sets kind.path.ucschar kind.needs_scheme)
