-- The texts of the kinds are the languages of the start rules, and their components are derived.
use Rattle.uri_abnf.proofs.Common.{◌≡◌, ℕ, Bool, true, false, List, refl, sym, subst, ◌∙◌, inl, inr, ⊎_elim, arith, ◌↔◌, ◌⊎◌, IsSome, None, IsUtf8, and_parts, false≢true, Components, components, Kind, IsOfKind, IsTextOf, kind_by_flags, uri, uri_ref, iri, iri_ref, Has, IsOf, Rules, IsDerived, start_rule, uri_rules, iri_rules}
use Rattle.uri_parts.specs.GrammarInWords.{IsInGrammar}
use Rattle.uri_parts.proofs.Offered.{only-split-is-components}
use Rattle.uri_ops.proofs.Offered.{uris-are-texts-of-grammar, uri_refs-are-texts-of-grammar, iris-are-texts-of-grammar, iri_refs-are-texts-of-grammar}
use Rattle.uri_abnf.specs.Rfc3986 as R
use Rattle.uri_abnf.specs.Rfc3987 as I
use Rattle.uri_abnf.specs.Rfc5234 as Core
use Rattle.uri_abnf.proofs.AsciiTexts.{ascii_only, ascii-text-gives, ascii-text-is-had}
use Rattle.uri_abnf.proofs.BothRfcs.{uri-rules-fit, iri-rules-fit}
use Rattle.uri_abnf.proofs.Derivations.{with-scheme-derives, derived-is-with-scheme, reference-derives, derived-is-reference, absolute-derives, derived-is-absolute}
use Rattle.uri_abnf.proofs.KindRules.{derived-components-are-unique, derived-follows, follows-is-derived, follows-has-scheme}
use Rattle.uri_abnf.proofs.Rules.{Fit}

module _ (r : Rules) (kind : Kind) (w : Fit r kind)
    (grammar : (t : List ℕ) → IsUtf8 t → (IsOfKind kind t ↔ IsInGrammar kind t)) where
  text-is-derived : (t : List ℕ) → IsTextOf kind t
      → IsDerived r t (components t) × (IsSome (components t).scheme ⊎ (kind.needs_scheme ≡ false))
  text-is-derived t l =
      let k = (grammar t l.utf8).0 l.grammar in
      let same = sym (only-split-is-components t k.0 k.1.split) in (
        subst (IsDerived r t) same (follows-is-derived r kind w t k.0 l.utf8 k.1),
        subst (λ p. IsSome p.scheme ⊎ (kind.needs_scheme ≡ false)) same
            (follows-has-scheme r kind w t k.0 k.1),
      )

  derived-is-text : (t : List ℕ) (p : Components) → IsUtf8 t → IsDerived r t p
      → IsSome p.scheme ⊎ (kind.needs_scheme ≡ false) → IsTextOf kind t
  derived-is-text t p u d n = record {
    utf8 = u;
    grammar = (grammar t u).1 (p, derived-follows r kind w t p d n);
  }

  texts-with-scheme : kind.needs_scheme ≡ true → (t : List ℕ)
      → (IsTextOf kind t ↔ IsOf r.with_scheme t)
  texts-with-scheme needs t = (
    λ l.
        let k = text-is-derived t l in
        derived-is-with-scheme r w.made t (components t) k.0
        (⊎_elim (λ e. e) (λ e. absurd (false≢true (sym e ∙ needs))) k.1),
    λ l.
        let k = with-scheme-derives r w.made t l in
        derived-is-text t k.0 l.utf8 k.1 (inl k.2),
  )

  texts-of-references : kind.needs_scheme ≡ false → (t : List ℕ)
      → (IsTextOf kind t ↔ IsOf r.reference t)
  texts-of-references free t = (
    λ l. derived-is-reference r w.made t (components t) (text-is-derived t l).0,
    λ l.
        let k = reference-derives r w.made t l in
        derived-is-text t k.0 l.utf8 k.1 (inr free),
  )

  -- the absolute rule has those without a fragment
  pub absolute-texts : kind.needs_scheme ≡ true → (t : List ℕ)
      → (IsOf r.absolute t ↔ (IsTextOf kind t × ((components t).fragment ≡ None)))
  absolute-texts needs t = (
    λ l.
        let k = absolute-derives r w.made t l in
        let same = sym (derived-components-are-unique r kind w t k.0 k.1) in
        (derived-is-text t k.0 l.utf8 k.1 (inl k.2), subst (λ p. p.fragment ≡ None) same k.3),
    λ v.
        let k = text-is-derived t v.0 in
        derived-is-absolute r w.made t (components t) k.0
        (⊎_elim (λ e. e) (λ e. absurd (false≢true (sym e ∙ needs))) k.1) v.1,
  )

uris-are-language : (t : List ℕ) → (IsTextOf uri t ↔ IsOf R.URI t)
uris-are-language =
    texts-with-scheme uri_rules uri (uri-rules-fit true) uris-are-texts-of-grammar refl

uri-references-are-language : (t : List ℕ) → (IsTextOf uri_ref t ↔ IsOf R.URI-reference t)
uri-references-are-language =
    texts-of-references uri_rules uri_ref (uri-rules-fit false) uri_refs-are-texts-of-grammar refl

pub iris-are-language : (t : List ℕ) → (IsTextOf iri t ↔ IsOf I.IRI t)
iris-are-language =
    texts-with-scheme iri_rules iri (iri-rules-fit true) iris-are-texts-of-grammar refl

pub iri-references-are-language : (t : List ℕ) → (IsTextOf iri_ref t ↔ IsOf I.IRI-reference t)
iri-references-are-language =
    texts-of-references iri_rules iri_ref (iri-rules-fit false) iri_refs-are-texts-of-grammar refl

references-are-ascii : ascii_only R.URI-reference ≡ true
unfolding Core.ALPHA Core.DIGIT Core.HEXDIG R.pct-encoded R.unreserved R.sub-delims R.pchar R.query
    R.fragment R.segment R.segment-nz R.segment-nz-nc R.path-abempty R.path-absolute R.path-noscheme
    R.path-rootless R.path-empty R.dec-octet R.IPv4address R.h16 R.ls32 R.IPv6address R.IPvFuture
    R.IP-literal R.reg-name R.port R.host R.userinfo R.authority R.scheme R.relative-part
    R.relative-ref R.hier-part R.URI R.URI-reference
references-are-ascii = refl

uris-are-ascii : ascii_only R.URI ≡ true
unfolding R.URI-reference
uris-are-ascii = (and_parts (ascii_only R.URI) _ references-are-ascii).0

pub uri-characters-are-language : (t : List ℕ) → (IsTextOf uri t ↔ Has R.URI t)
uri-characters-are-language t =
    grind (arith, ascii-text-gives, uris-are-ascii, uris-are-language, ascii-text-is-had)

pub uri-reference-characters-are-language : (t : List ℕ)
    → (IsTextOf uri_ref t ↔ Has R.URI-reference t)
uri-reference-characters-are-language t = (
  λ l. ascii-text-gives R.URI-reference references-are-ascii t
      ((uri-references-are-language t).0 l),
  λ h. (uri-references-are-language t).1
      (ascii-text-is-had R.URI-reference references-are-ascii t h),
)

kind-is-language : (international needs : Bool) (t : List ℕ) → (IsTextOf
    (kind_by_flags international needs) t ↔ IsOf (start_rule (kind_by_flags international needs)) t)
kind-is-language false false = uri-references-are-language
kind-is-language false true = uris-are-language
kind-is-language true false = iri-references-are-language
kind-is-language true true = iris-are-language

pub texts-of-kind-are-of-rule : (international needs : Bool) (t : List ℕ) → IsUtf8 t → (IsOfKind
    (kind_by_flags international needs) t ↔ IsOf (start_rule (kind_by_flags international needs)) t)
texts-of-kind-are-of-rule international needs t u = grind (arith, kind-is-language)
