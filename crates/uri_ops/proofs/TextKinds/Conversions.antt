-- When a text of one kind is one of another.
use Rattle.uri_ops.proofs.Common.{◌≡◌, ℕ, ◌+◌, ◌≤◌, Bool, true, not, ltb, List, [], ◌∷◌, length, refl, sym, ap, ◌∙◌, ⊎_elim, arith, option_map, ◌↔◌, Option, Some, None, is_some, list_all, position, prefix_len, option_or, IsUtf8, cases_Bool, cases_lt, cond-true, cond-false, and_parts, and_from, lt-ltb, le-ltb, components, Kind, IsOfKind, components_meet_rules, iri, iri_ref, uri, uri_ref, uri_has_scheme, uri_is_uri_ref, iri_has_scheme, HasComponentSets, encode_past_ascii, ascii_kind, AreEquivalent, bare_meaning_of, Rules, meaning_under, no_defaults, common_steps}
use Rattle.uri_ops.specs.declared.convert.ConvertError.{ConvertError}
use Rattle.uri_ops.specs.declared.convert.ConvertError.TheVariants.{NotAscii}
use Rattle.uri_ops.specs.Conversions.{is_past_ascii, first_past_ascii, missing_scheme_error, not_ascii_error, uri_conversion_error}
use Rattle.uri_ops.proofs.AsciiForms.AsciiTexts.{texts-of-ascii-kinds-are-ascii}
use Rattle.uri_ops.proofs.AsciiForms.EncodedMeanings.{encoded-text-is-of-ascii_kind, encoding-keeps-meaning_of-text, encoding-keeps-meaning_under-text}
use Rattle.uri_ops.proofs.AsciiForms.EncodedPaths.{ascii-text-is-its-own-encoding}
use Rattle.uri_ops.proofs.TextKinds.FourKinds.{iri-has-component-sets, iri_ref-has-component-sets}
use Rattle.uri_ops.proofs.TextKinds.WiderKinds.{text-is-of-wider-kind, ascii_kind-is-within-kind}

some-error-is-not-none : (error : ConvertError) → Some error ≡ None → ⊥
some-error-is-not-none error e = absurd (cc e)

text-with-scheme-misses-no-scheme : (text : List ℕ) → is_some (components text).scheme ≡ true
    → missing_scheme_error text ≡ None
unfolding missing_scheme_error
text-with-scheme-misses-no-scheme text e = rw e refl

no-missing_scheme_error-means-scheme : (text : List ℕ)
    → missing_scheme_error text ≡ None → is_some (components text).scheme ≡ true
unfolding missing_scheme_error
no-missing_scheme_error-means-scheme text e = ⊎_elim
    (λ h. h) (λ h. absurd (some-error-is-not-none _ (sym (cond-false _ _ _ h) ∙ e))) (cases_Bool _)

-- conversions: a URI reference converts to a URI exactly if it is one
pub uri_ref_with_scheme_is_uri : (text : List ℕ) → IsOfKind uri_ref text
    → (missing_scheme_error text ≡ None ↔ IsOfKind uri text)
uri_ref_with_scheme_is_uri text h =
    grind (
      arith,
      no-missing_scheme_error-means-scheme,
      text-with-scheme-misses-no-scheme,
      uri_has_scheme,
    )

-- conversions: an IRI reference converts to an IRI exactly if it is one
pub iri_ref_with_scheme_is_iri : (text : List ℕ) → IsOfKind iri_ref text
    → (missing_scheme_error text ≡ None ↔ IsOfKind iri text)
iri_ref_with_scheme_is_iri text h =
    grind (
      arith,
      no-missing_scheme_error-means-scheme,
      text-with-scheme-misses-no-scheme,
      iri_has_scheme,
    )

abbrev is_ascii_code : ℕ → Bool
is_ascii_code b = not (is_past_ascii b)

ascii-prefix-of-ascii-text-is-whole : (text : List ℕ) → list_all (λ c. ltb c 128) text ≡ true
    → prefix_len is_ascii_code text ≡ length text
ascii-prefix-of-ascii-text-is-whole [] e = refl
ascii-prefix-of-ascii-text-is-whole (c ∷ text) e =
    grind (arith, common_steps, (ascii-prefix-of-ascii-text-is-whole text))

whole-ascii-prefix-means-ascii-text : (text : List ℕ) → length text ≤ prefix_len is_ascii_code text
    → list_all (λ c. ltb c 128) text ≡ true
whole-ascii-prefix-means-ascii-text [] h = refl
whole-ascii-prefix-means-ascii-text (c ∷ text) h =
    grind (arith, common_steps, (whole-ascii-prefix-means-ascii-text text))

some-index-is-not-none : (index : ℕ) → Some index ≡ None → ⊥
some-index-is-not-none index e = absurd (cc e)

-- general fact on options, for errors of conversions: without an error there is no index
absent-mapped-index-is-absent : (place : Option ℕ) → option_map (λ index. NotAscii index) place
    ≡ None → place ≡ None
absent-mapped-index-is-absent place e = grind (arith, common_steps, some-error-is-not-none)

-- conversions: a text without an error for a character past ASCII is ASCII
no-not_ascii_error-means-ascii : (text : List ℕ) → not_ascii_error text ≡ None
    → list_all (λ c. ltb c 128) text ≡ true
unfolding not_ascii_error first_past_ascii
no-not_ascii_error-means-ascii text e =
    grind (
      arith,
      absent-mapped-index-is-absent,
      position,
      some-index-is-not-none,
      whole-ascii-prefix-means-ascii-text,
    )

ascii-text-has-no-not_ascii_error : (text : List ℕ) → list_all (λ c. ltb c 128) text ≡ true
    → not_ascii_error text ≡ None
unfolding not_ascii_error first_past_ascii
ascii-text-has-no-not_ascii_error text e =
    let n = ascii-prefix-of-ascii-text-is-whole text e in
    ap (option_map (λ index. NotAscii index))
    (cond-false _ _ _ (le-ltb (prefix_len is_ascii_code text) (length text) (omega arith)))

module _ (kind : Kind) (sets : HasComponentSets kind) where
  text-of-kind-is-ascii-if-of-ascii_kind : (text : List ℕ) → IsUtf8 text → IsOfKind kind text
      → (not_ascii_error text ≡ None ↔ IsOfKind (ascii_kind kind) text)
  text-of-kind-is-ascii-if-of-ascii_kind text u h = (
    λ e.
        let all_are_ascii = no-not_ascii_error-means-ascii text e in
        ap (components_meet_rules (ascii_kind kind))
        (ap components (sym (ascii-text-is-its-own-encoding text all_are_ascii)))
        ∙ (encoded-text-is-of-ascii_kind kind sets text (record { utf8 = u; grammar = h })).grammar,
    λ w. ascii-text-has-no-not_ascii_error text (texts-of-ascii-kinds-are-ascii kind sets text
        (record { utf8 = u; grammar = w })),
  )

pub ascii_iri_is_uri : (text : List ℕ) → IsUtf8 text → IsOfKind iri text
    → (not_ascii_error text ≡ None ↔ IsOfKind uri text)
ascii_iri_is_uri text u h = text-of-kind-is-ascii-if-of-ascii_kind iri iri-has-component-sets text u
    h

-- conversions: an IRI reference converts to a URI reference exactly if it is one
pub ascii_iri_ref_is_uri_ref : (text : List ℕ) → IsUtf8 text → IsOfKind iri_ref text
    → (not_ascii_error text ≡ None ↔ IsOfKind uri_ref text)
ascii_iri_ref_is_uri_ref text u h = text-of-kind-is-ascii-if-of-ascii_kind iri_ref
    iri_ref-has-component-sets text u h

-- general fact on options, for the first of two errors of a conversion: if it is None, both are
option_or-is-none-if-both-are : {A : Type 0} (a b : Option A) → option_or a b ≡ None → (a ≡ None)
    × (b ≡ None)
option_or-is-none-if-both-are a b e = grind (arith, common_steps)

-- general fact on options, for the first of two errors of a conversion: if both are None, it is
both-none-give-option_or-none : {A : Type 0} (a b : Option A) → a ≡ None → b ≡ None
    → option_or a b ≡ None
both-none-give-option_or-none a b e f = ap (λ o. option_or o b) e ∙ f

-- conversions: an IRI reference converts to a URI exactly if it is one
pub ascii_iri_ref_with_scheme_is_uri : (text : List ℕ) → IsUtf8 text → IsOfKind iri_ref text
    → (uri_conversion_error text ≡ None ↔ IsOfKind uri text)
unfolding uri_conversion_error
ascii_iri_ref_with_scheme_is_uri text u h =
    grind (
      arith,
      option_or-is-none-if-both-are,
      uri_ref_with_scheme_is_uri,
      ascii_iri_ref_is_uri_ref,
      uri_is_uri_ref,
      both-none-give-option_or-none,
    )

pub uri_is_iri : (text : List ℕ) → IsUtf8 text → IsOfKind uri text → IsOfKind iri text
uri_is_iri text u h = (text-is-of-wider-kind uri iri iri-has-component-sets
    (ascii_kind-is-within-kind iri) text (record { utf8 = u; grammar = h })).grammar

-- conversions: each URI reference is an IRI reference
pub uri_ref_is_iri_ref : (text : List ℕ) → IsUtf8 text → IsOfKind uri_ref text
    → IsOfKind iri_ref text
uri_ref_is_iri_ref text u h = (text-is-of-wider-kind uri_ref iri_ref iri_ref-has-component-sets
    (ascii_kind-is-within-kind iri_ref) text (record { utf8 = u; grammar = h })).grammar

-- an IRI with its characters past ASCII as octets is a URI of the same meaning
module _ (kind : Kind) (sets : HasComponentSets kind) where
  encoded-text-is-of-ascii-kind : (text encoded : List ℕ) → encoded ≡ encode_past_ascii text
      → IsUtf8 text → IsOfKind kind text → IsOfKind (ascii_kind kind) encoded
  encoded-text-is-of-ascii-kind text encoded e u h =
      grind (arith, components, encoded-text-is-of-ascii_kind)

  encoded-text-is-equivalent : (text encoded : List ℕ) → encoded ≡ encode_past_ascii text
      → IsUtf8 text → IsOfKind kind text → AreEquivalent kind encoded text
  unfolding AreEquivalent
  encoded-text-is-equivalent text encoded e u h = ap (bare_meaning_of kind) e
      ∙ encoding-keeps-meaning_of-text kind sets no_defaults text (record { utf8 = u; grammar = h })

  encoded-text-has-same-meaning : (text encoded : List ℕ)
      → encoded ≡ encode_past_ascii text → IsUtf8 text → IsOfKind kind text
      → (rules : Rules) → meaning_under kind rules encoded ≡ meaning_under kind rules text
  encoded-text-has-same-meaning text encoded e u h rules = ap (meaning_under kind rules) e
      ∙ encoding-keeps-meaning_under-text kind sets rules text (record { utf8 = u; grammar = h })

-- conversions: an IRI whose characters past ASCII are percent-encoded
-- is a URI (RFC 3987, section 3.1)
pub encoded-iri-is-uri : (text encoded : List ℕ) → encoded ≡ encode_past_ascii text → IsUtf8 text
    → IsOfKind iri text → IsOfKind uri encoded
encoded-iri-is-uri text encoded e u h = encoded-text-is-of-ascii-kind iri iri-has-component-sets
    text encoded e u h

-- conversions: an IRI reference whose characters past ASCII are
-- percent-encoded is a URI reference (RFC 3987, section 3.1)
pub encoded-iri_ref-is-uri_ref : (text encoded : List ℕ) → encoded ≡ encode_past_ascii text
    → IsUtf8 text → IsOfKind iri_ref text → IsOfKind uri_ref encoded
encoded-iri_ref-is-uri_ref text encoded e u h =
    encoded-text-is-of-ascii-kind iri_ref iri_ref-has-component-sets text encoded e u h

pub encoded-iri-is-equivalent : (text encoded : List ℕ) → encoded ≡ encode_past_ascii text
    → IsUtf8 text → IsOfKind iri text → AreEquivalent iri encoded text
encoded-iri-is-equivalent text encoded e u h = encoded-text-is-equivalent iri iri-has-component-sets
    text encoded e u h

-- conversions: an IRI reference and its URI reference are equivalent
pub encoded-iri_ref-is-equivalent : (text encoded : List ℕ) → encoded ≡ encode_past_ascii text
    → IsUtf8 text → IsOfKind iri_ref text → AreEquivalent iri_ref encoded text
encoded-iri_ref-is-equivalent text encoded e u h =
    encoded-text-is-equivalent iri_ref iri_ref-has-component-sets text encoded e u h

pub encoded-iri-has-same-meaning : (text encoded : List ℕ)
    → encoded ≡ encode_past_ascii text → IsUtf8 text → IsOfKind iri text
    → (rules : Rules) → meaning_under iri rules encoded ≡ meaning_under iri rules text
encoded-iri-has-same-meaning text encoded e u h rules =
    encoded-text-has-same-meaning iri iri-has-component-sets text encoded e u h rules

-- conversions: an IRI reference and its URI reference have the same meaning under any rules
pub encoded-iri_ref-has-same-meaning : (text encoded : List ℕ)
    → encoded ≡ encode_past_ascii text → IsUtf8 text → IsOfKind iri_ref text
    → (rules : Rules) → meaning_under iri_ref rules encoded ≡ meaning_under iri_ref rules text
encoded-iri_ref-has-same-meaning text encoded e u h rules =
    encoded-text-has-same-meaning iri_ref iri_ref-has-component-sets text encoded e u h rules

pub ruleset uri_widening = (uri_is_uri_ref, uri_ref_is_iri_ref)

pub ruleset iri_encoding =
    (encoded-iri-is-uri, encoded-iri-is-equivalent, encoded-iri-has-same-meaning)

pub ruleset iri_ref_encoding =
    (encoded-iri_ref-is-uri_ref, encoded-iri_ref-is-equivalent, encoded-iri_ref-has-same-meaning)
