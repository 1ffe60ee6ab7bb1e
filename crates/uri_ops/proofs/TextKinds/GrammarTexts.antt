-- The texts that pass the tests of a kind are those of its grammar.
use Rattle.uri_ops.proofs.Common.{arith, ◌≡◌, ℕ, Bool, true, false, not, List, ◌&&◌, ◌||◌, ◌↔◌, ◌⊎◌, is_some, IsUtf8, TableSet, AuthorityParts, IsAuthorityFor, LackAuthorityDelimiters, authority_parts, Components, components, Kind, IsOfKind, is_scheme, is_authority, has_colon_in_first_segment, uri, uri_ref, iri, iri_ref, HostKind, IsHost, host_kind, is_authority_for-sound, is_authority_for-complete, authority_parts-are-unique, names_exclude_delimiters, is_host-complete, components-are-split-of-text, only-split-is-components, HasComponentSets, IfSome-weaken, common_steps}
use Rattle.uri_parts.specs.GrammarInWords.{HasAuthorityParts, FollowsRules, IsInGrammar}
use Rattle.uri_ops.proofs.Meanings.AuthorityMeanings.{kind-sets-lack-authority-delimiters}
use Rattle.uri_ops.proofs.TextKinds.FourKinds.{uri-has-component-sets, uri_ref-has-component-sets, iri-has-component-sets, iri_ref-has-component-sets}
use Rattle.uri_ops.proofs.Meanings.AllowedParts.{is_set_text, set-text-from-utf8, set-text-is-valid}
use Rattle.uri_ops.proofs.Meanings.TextParts.{ArePartsOfKind, AreUtf8, components-of-utf8-are-utf8, grammar-gives-components-of-kind}

-- general fact on booleans, for the grammar of the four kinds; s, n, a, c: a scheme is there, is
-- needed, an authority is there, `:` is in the first segment
scheme-rule-gives-its-cases : (s n a c : Bool) → (s || (not n && (a || not c))) ≡ true
    → (s ≡ true) ⊎ ((n ≡ false) × ((a ≡ true) ⊎ (c ≡ false)))
scheme-rule-gives-its-cases s n a c e = grind (arith, common_steps)

-- general fact on booleans, for the rule on schemes; s, n, a, c: a scheme is there, is needed, an
-- authority is there, `:` is in the first segment
cases-give-scheme-rule : (s n a c : Bool) → (s ≡ true) ⊎ ((n ≡ false) × ((a ≡ true) ⊎ (c ≡ false)))
    → (s || (not n && (a || not c))) ≡ true
cases-give-scheme-rule s n a c h = grind (arith, common_steps)

module _ (kind : Kind) (sets : HasComponentSets kind) where
  text-of-kind-follows-rules : (text : List ℕ) → IsUtf8 text → IsOfKind kind text
      → FollowsRules kind text (components text)
  text-of-kind-follows-rules text u h =
      let p = components text in
      let parts = grammar-gives-components-of-kind kind p (components-of-utf8-are-utf8 text u) h in
      record {
        split = components-are-split-of-text text;
        scheme = IfSome-weaken p.scheme (λ s. IsUtf8 s × (is_scheme s ≡ true))
            (λ s. is_scheme s ≡ true) (λ s w. w.1) parts.scheme;
        authority = IfSome-weaken p.authority (λ a. IsUtf8 a × (is_authority kind a ≡ true))
            (HasAuthorityParts kind) (λ a w. (
              authority_parts a,
              is_authority_for-sound kind.userinfo kind.reg_name a w.1,
            )) parts.authority;
        path = set-text-is-valid kind.path p.path parts.path;
        query = IfSome-weaken p.query (λ q. is_set_text kind.query q ≡ true) _
            (λ q w. set-text-is-valid kind.query q w) parts.query;
        fragment = IfSome-weaken p.fragment (λ q. is_set_text kind.fragment q ≡ true) _
            (λ q w. set-text-is-valid kind.fragment q w) parts.fragment;
        reference = scheme-rule-gives-its-cases (is_some p.scheme) kind.needs_scheme
            (is_some p.authority) (has_colon_in_first_segment p.path) parts.needs;
      }

  rules-give-components-of-kind : (text : List ℕ) (p : Components)
      → AreUtf8 p → FollowsRules kind text p → ArePartsOfKind kind p
  rules-give-components-of-kind text p u g =
      grind (
        arith,
        is_authority_for-complete,
        kind-sets-lack-authority-delimiters,
        set-text-from-utf8,
        cases-give-scheme-rule,
      )

  grammar-gives-text-of-kind : (text : List ℕ) → IsUtf8 text → IsInGrammar kind text
      → IsOfKind kind text
  grammar-gives-text-of-kind text u (p, g) =
      grind (
        arith,
        only-split-is-components,
        rules-give-components-of-kind,
        components-of-utf8-are-utf8,
      )

  text-is-of-kind-if-in-grammar : (text : List ℕ) → IsUtf8 text
      → (IsOfKind kind text ↔ IsInGrammar kind text)
  text-is-of-kind-if-in-grammar text u = (
    λ h. (components text, text-of-kind-follows-rules text u h),
    grammar-gives-text-of-kind text u,
  )

-- grammar of the four kinds: URIs are exactly the texts of the grammar of RFC 3986
pub uris-are-texts-of-grammar : (text : List ℕ) → IsUtf8 text
    → (IsOfKind uri text ↔ IsInGrammar uri text)
uris-are-texts-of-grammar text u = text-is-of-kind-if-in-grammar uri uri-has-component-sets text u

-- grammar of the four kinds: URI references are exactly the texts of the grammar of RFC 3986
pub uri_refs-are-texts-of-grammar : (text : List ℕ) → IsUtf8 text
    → (IsOfKind uri_ref text ↔ IsInGrammar uri_ref text)
uri_refs-are-texts-of-grammar text u = text-is-of-kind-if-in-grammar uri_ref
    uri_ref-has-component-sets text u

-- grammar of the four kinds: IRIs are exactly the texts of the grammar of RFC 3987
pub iris-are-texts-of-grammar : (text : List ℕ) → IsUtf8 text
    → (IsOfKind iri text ↔ IsInGrammar iri text)
iris-are-texts-of-grammar text u = text-is-of-kind-if-in-grammar iri iri-has-component-sets text u

-- grammar of the four kinds: IRI references are exactly the texts of the grammar of RFC 3987
pub iri_refs-are-texts-of-grammar : (text : List ℕ) → IsUtf8 text
    → (IsOfKind iri_ref text ↔ IsInGrammar iri_ref text)
iri_refs-are-texts-of-grammar text u = text-is-of-kind-if-in-grammar iri_ref
    iri_ref-has-component-sets text u

-- grammar of the four kinds: userinfo and host of a URI cannot contain what ends an authority
uri-sets-lack-authority-delimiters : LackAuthorityDelimiters uri.userinfo uri.reg_name
uri-sets-lack-authority-delimiters = kind-sets-lack-authority-delimiters uri uri-has-component-sets

-- grammar of the four kinds: userinfo and host of an IRI cannot contain what ends an authority
iri-sets-lack-authority-delimiters : LackAuthorityDelimiters iri.userinfo iri.reg_name
iri-sets-lack-authority-delimiters = kind-sets-lack-authority-delimiters iri iri-has-component-sets

-- grammar of the four kinds: the authority of a URI is cut in one way (RFC 3986, section 3.2)
pub uri-authority-splits-in-one-way : (text : List ℕ) (p : AuthorityParts) → IsUtf8 text
    → IsAuthorityFor uri.userinfo uri.reg_name text p → authority_parts text ≡ p
uri-authority-splits-in-one-way text p u h = authority_parts-are-unique uri.userinfo uri.reg_name
    uri-sets-lack-authority-delimiters text p u h

-- grammar of the four kinds: the authority of an IRI is cut in one way (RFC 3986, section 3.2)
pub iri-authority-splits-in-one-way : (text : List ℕ) (p : AuthorityParts) → IsUtf8 text
    → IsAuthorityFor iri.userinfo iri.reg_name text p → authority_parts text ≡ p
iri-authority-splits-in-one-way text p u h = authority_parts-are-unique iri.userinfo iri.reg_name
    iri-sets-lack-authority-delimiters text p u h

-- grammar of the four kinds: a text is a host of one kind: IP address, IPvFuture or name
host-is-of-one-kind : (users names : TableSet) → LackAuthorityDelimiters users names
    → (text : List ℕ) (host : HostKind)
    → IsUtf8 text → IsHost names text host → host_kind text ≡ host
host-is-of-one-kind users names apart text host u h = (is_host-complete names apart.names_percent
    (names_exclude_delimiters users names apart) text host u h).kind

-- grammar of the four kinds: a host of a URI is of one kind: IP address, IPvFuture or name
pub uri-host-is-of-one-kind : (text : List ℕ) (host : HostKind)
    → IsUtf8 text → IsHost uri.reg_name text host → host_kind text ≡ host
uri-host-is-of-one-kind text host u h = host-is-of-one-kind uri.userinfo uri.reg_name
    uri-sets-lack-authority-delimiters text host u h

-- grammar of the four kinds: a host of an IRI is of one kind: IP address, IPvFuture or name
pub iri-host-is-of-one-kind : (text : List ℕ) (host : HostKind)
    → IsUtf8 text → IsHost iri.reg_name text host → host_kind text ≡ host
iri-host-is-of-one-kind text host u h = host-is-of-one-kind iri.userinfo iri.reg_name
    iri-sets-lack-authority-delimiters text host u h
