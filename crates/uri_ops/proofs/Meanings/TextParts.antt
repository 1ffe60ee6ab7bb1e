-- The components of a text of a kind: each is in UTF-8 and meets its rule, and they are cut apart.
use Rattle.uri_ops.proofs.Common.{◌≡◌, ℕ, Bool, true, not, List, drop, refl, arith, ◌&&◌, ◌||◌, ⊎_elim, codes, IfSome, is_some, IsUtf8, cases_Bool, nat_tests, AreAscii, AreAscii-by-test, Components, starts, from_any, after_scheme, after_authority, after_query, components, when, Kind, is_scheme, has_colon_in_first_segment, is_authority, components_meet_rules, IfSome-combine, utf8_before_marks, common_steps}
use Rattle.uri_parts.proofs.Offered.{utf8_from_marks, utf8_after_mark, utf8_after_slashes, utf8_after_authority, utf8_after_scheme}
use Rattle.uri_ops.proofs.Meanings.AllowedParts.{is_set_text, set-text-from-utf8, set-text-is-valid}

-- meanings of components: each component is UTF-8 and meets its rule of the grammar of a kind
pub record ArePartsOfKind (kind : Kind) (p : Components) : Type 0 where
  pub scheme : IfSome p.scheme (λ s. IsUtf8 s × (is_scheme s ≡ true))
  pub authority : IfSome p.authority (λ a. IsUtf8 a × (is_authority kind a ≡ true))
  pub path : is_set_text kind.path p.path ≡ true
  pub query : IfSome p.query (λ q. is_set_text kind.query q ≡ true)
  pub fragment : IfSome p.fragment (λ f. is_set_text kind.fragment f ≡ true)
  pub needs : (is_some p.scheme
      || (not kind.needs_scheme
      && (is_some p.authority || not (has_colon_in_first_segment p.path))))
      ≡ true

-- meanings of components: those of a kind meet the rules of its grammar
pub components-of-kind-meet-grammar : (kind : Kind) (p : Components) → ArePartsOfKind kind p
    → components_meet_rules kind p ≡ true
components-of-kind-meet-grammar kind p w = grind (arith, nat_tests, set-text-is-valid, is_set_text)

-- meanings of components: each component is UTF-8
pub record AreUtf8 (p : Components) : Type 0 where
  pub scheme : IfSome p.scheme IsUtf8
  pub authority : IfSome p.authority IsUtf8
  pub path : IsUtf8 p.path
  pub query : IfSome p.query IsUtf8
  pub fragment : IfSome p.fragment IsUtf8

-- meanings of components: a component that is found if a test passes is UTF-8
optional-text-is-utf8 : (test : Bool) (text : List ℕ) → (test ≡ true → IsUtf8 text)
    → IfSome (when test text) IsUtf8
optional-text-is-utf8 test text u = grind (arith, common_steps, u)

pub scheme-ends-are-ascii : AreAscii (codes ":/?#")
scheme-ends-are-ascii = AreAscii-by-test (codes ":/?#") refl

authority-ends-are-ascii : AreAscii (codes "/?#")
authority-ends-are-ascii = AreAscii-by-test (codes "/?#") refl

path-ends-are-ascii : AreAscii (codes "?#")
path-ends-are-ascii = AreAscii-by-test (codes "?#") refl

query-ends-are-ascii : AreAscii (codes "#")
query-ends-are-ascii = AreAscii-by-test (codes "#") refl

text-after-query-is-utf8 : (end : List ℕ) → IsUtf8 end → IsUtf8 (after_query end)
text-after-query-is-utf8 end u = ⊎_elim (λ e. rw e (utf8_from_marks (codes "#")
    (drop 1 end) query-ends-are-ascii (utf8_after_mark 63 (omega arith) end e u)))
    (λ e. rw e u) (cases_Bool (starts 63 end))

-- meanings of components: those of a text in UTF-8 are UTF-8
pub components-of-utf8-are-utf8 : (text : List ℕ) → IsUtf8 text → AreUtf8 (components text)
components-of-utf8-are-utf8 text u =
    let rest = utf8_after_scheme _ u in
    let tail = utf8_after_authority _ rest in
    let end = utf8_from_marks (codes "?#") (after_authority (after_scheme text))
    path-ends-are-ascii tail in
    record {
      scheme = optional-text-is-utf8 _ _
          (λ e. utf8_before_marks (codes ":/?#") text scheme-ends-are-ascii u);
      authority = optional-text-is-utf8 _ _ (λ e. utf8_before_marks (codes "/?#")
          (drop 2 (after_scheme text)) authority-ends-are-ascii (utf8_after_slashes _ e rest));
      path = utf8_before_marks (codes "?#") (after_authority (after_scheme text))
          path-ends-are-ascii tail;
      query = optional-text-is-utf8
          (starts 63 (from_any (codes "?#") (after_authority (after_scheme text)))) _
          (λ e. utf8_before_marks (codes "#") (drop 1 (from_any (codes "?#")
          (after_authority (after_scheme text)))) query-ends-are-ascii (utf8_after_mark
          63 (omega arith) (from_any (codes "?#") (after_authority (after_scheme text))) e end));
      fragment = optional-text-is-utf8 _ _ (λ e. utf8_after_mark 35 (omega arith)
          (after_query (from_any (codes "?#") (after_authority (after_scheme text)))) e
          (text-after-query-is-utf8 _ end));
    }

-- meanings of components: those in UTF-8 that meet the rules of the grammar are of the kind
pub grammar-gives-components-of-kind : (kind : Kind) (p : Components)
    → AreUtf8 p → components_meet_rules kind p ≡ true → ArePartsOfKind kind p
grammar-gives-components-of-kind kind p u e =
    grind (arith, nat_tests, IfSome-combine, set-text-from-utf8, is_set_text)
