-- The kinds keep apart what must be apart, and their tables represent their sets.
use Rattle.uri_parts.proofs.Common.{◌≡◌, ℕ, Bool, true, false, refl, sym, ap, subst, arith, ◌||◌, [], ◌&&◌, not, List, codes, is_some, is_ascii_digit, chars, and_parts, nat_tests, TableSet, is_one_of, is_scheme_char, is_segment_nz_nc_char, path_set, is_path_char, is_reg_name_char, is_userinfo_char, segment_nz_nc_set, userinfo_set, reg_name_set, query_set, fragment_set, allows_past_ascii, is_valid_for, tokens_from_chars, Kind, uri, uri_ref, iri, iri_ref, IsOfKind, first_segment_set, kind_by_flags, components}
use Rattle.uri_parts.proofs.TextKinds.Separations.{SeparatesComponents, greater-set-has-all-but-marks}

scheme-char-is-segment-char : (c : ℕ) → is_scheme_char c ≡ true → is_segment_nz_nc_char c ≡ true
scheme-char-is-segment-char c e = grind (arith, nat_tests)

segment-char-is-path-char : (c : ℕ) → is_segment_nz_nc_char c ≡ true → is_path_char c ≡ true
segment-char-is-path-char c e = grind (arith, nat_tests)

-- sets of a kind: a path's characters but `:` and `/` may be in a first segment too
other-path-char-is-segment-char : (c : ℕ)
    → is_one_of (codes ":/") c ≡ false → is_segment_nz_nc_char c ≡ false → is_path_char c ≡ false
other-path-char-is-segment-char c m e = grind (arith, nat_tests)

name-char-is-userinfo-char : (c : ℕ) → is_reg_name_char c ≡ true → is_userinfo_char c ≡ true
name-char-is-userinfo-char c e = grind (arith, nat_tests)

digit-is-userinfo-char : (c : ℕ) → is_ascii_digit c ≡ true → is_userinfo_char c ≡ true
digit-is-userinfo-char c e = grind (arith, nat_tests)

-- sets of a kind: the set with the flag for characters past ASCII, or without it
abbrev international : Bool → TableSet → TableSet
international ucschar set = record set { ucschar = ucschar }

-- sets of a kind: that of a first segment, with or without characters past ASCII
abbrev segment_with : Bool → TableSet
segment_with ucschar = international ucschar segment_nz_nc_set

-- sets of a kind: the kind that allows so much past ASCII, and needs a scheme or not
abbrev kind_with : (ucschar iprivate needs_scheme : Bool) → Kind
kind_with ucschar iprivate needs_scheme = record {
  userinfo = international ucschar userinfo_set;
  reg_name = international ucschar reg_name_set;
  path = international ucschar path_set;
  query = record query_set { ucschar = ucschar; iprivate = iprivate };
  fragment = international ucschar fragment_set;
  needs_scheme = needs_scheme;
}

-- sets of a kind: each component ends where the next begins;
-- ucschar, iprivate: which characters past ASCII the kind has
sets-by-flags-separate-components : (ucschar iprivate needs_scheme : Bool)
    → SeparatesComponents (segment_with ucschar) (kind_with ucschar iprivate needs_scheme)
unfolding allows_past_ascii
sets-by-flags-separate-components ucschar iprivate needs_scheme = record {
  userinfo_lacks = refl;
  reg_name_lacks = refl;
  path_lacks = refl;
  query_lacks = refl;
  fragment_lacks = refl;
  segment_lacks = refl;
  userinfo_marks = refl;
  reg_name_marks = refl;
  reg_name_colon = refl;
  reg_name_starts = refl;
  path_marks = refl;
  query_marks = refl;
  segment_marks = refl;
  userinfo_starts = refl;
  name_within = record {
    ascii = name-char-is-userinfo-char;
    pct_encoded = λ e. e;
    ucschar = λ e. e;
    iprivate = λ e. e;
  };
  digits_within = record {
    ascii = digit-is-userinfo-char;
    pct_encoded = λ e. refl;
    ucschar = λ e. absurd (cc e);
    iprivate = λ e. e;
  };
  colon_within = refl;
  address_within = record {
    ascii = λ c e. e;
    pct_encoded = λ e. e;
    ucschar = λ e. absurd (cc e);
    iprivate = λ e. e;
  };
  scheme_within = record {
    ascii = scheme-char-is-segment-char;
    pct_encoded = λ e. refl;
    ucschar = λ e. absurd (cc e);
    iprivate = λ e. e;
  };
  within = record {
    ascii = segment-char-is-path-char;
    pct_encoded = λ e. e;
    ucschar = λ e. e;
    iprivate = λ e. e;
  };
  octets = refl;
  rest = greater-set-has-all-but-marks (codes ":/") (segment_with ucschar)
      (international ucschar path_set) other-path-char-is-segment-char (λ c. refl);
}

-- sets of a kind: in the four kinds each component ends where the next begins
kind-by-flags-separates-components : (international needs_scheme : Bool) (kind : Kind)
    → kind ≡ kind_by_flags international needs_scheme → kind.path.ucschar ≡ international
    → SeparatesComponents (first_segment_set kind) kind
kind-by-flags-separates-components false needs_scheme kind e u = subst (λ k. SeparatesComponents
    (first_segment_set k) k) (sym e) (sets-by-flags-separate-components false false needs_scheme)
kind-by-flags-separates-components true needs_scheme kind e u = subst (λ k. SeparatesComponents
    (first_segment_set k) k) (sym e) (sets-by-flags-separate-components true true needs_scheme)

-- sets of a kind: in each of the four kinds, each component ends where the next begins
pub each_kind_separates_components : (kind : Kind) → kind
    ≡ kind_by_flags kind.path.ucschar kind.needs_scheme
    → SeparatesComponents (first_segment_set kind) kind
each_kind_separates_components kind known =
    kind-by-flags-separates-components kind.path.ucschar kind.needs_scheme kind known refl

-- general fact on booleans, for kinds that need a scheme: where one is needed it is there
pub with_scheme : (needed present other : Bool) → needed ≡ true
    → (present || (not needed && other)) ≡ true → present ≡ true
with_scheme needed true other n h = refl
with_scheme needed false other n h = absurd (cc (ap not n))

-- general fact on booleans, for kinds that need a scheme;
-- needed, present: whether one is needed, is there
pub scheme-rule-holds-without-need : (needed present other : Bool)
    → (present || (not needed && other)) ≡ true → (present || other) ≡ true
scheme-rule-holds-without-need needed true other h = refl
scheme-rule-holds-without-need needed false other h = (and_parts (not needed) other h).1

-- texts of a kind: one of a kind that needs a scheme has one
pub kind-that-needs-scheme-has-one : (kind : Kind) (text : List ℕ)
    → kind.needs_scheme ≡ true → IsOfKind kind text → is_some (components text).scheme ≡ true
kind-that-needs-scheme-has-one kind text n h = grind (arith, nat_tests, with_scheme)

text-of-kind-is-reference : (kind : Kind) (text : List ℕ) → IsOfKind kind text
    → IsOfKind (record kind { needs_scheme = false }) text
text-of-kind-is-reference kind text h = grind (arith, nat_tests, scheme-rule-holds-without-need)

-- texts of a kind: a URI has a scheme
pub uri_has_scheme : (text : List ℕ) → IsOfKind uri text → is_some (components text).scheme ≡ true
uri_has_scheme text h = kind-that-needs-scheme-has-one uri text refl h

-- texts of a kind: a URI is a URI reference
pub uri_is_uri_ref : (text : List ℕ) → IsOfKind uri text → IsOfKind uri_ref text
uri_is_uri_ref text h = text-of-kind-is-reference uri text h

-- texts of a kind: an IRI has a scheme
pub iri_has_scheme : (text : List ℕ) → IsOfKind iri text → is_some (components text).scheme ≡ true
iri_has_scheme text h = kind-that-needs-scheme-has-one iri text refl h

-- texts of a kind: an IRI is an IRI reference
pub iri_is_iri_ref : (text : List ℕ) → IsOfKind iri text → IsOfKind iri_ref text
iri_is_iri_ref text h = text-of-kind-is-reference iri text h

-- texts of a kind: the empty text is one of a kind that needs no scheme
pub empty_is_reference : (kind : Kind) → kind.needs_scheme ≡ false → IsOfKind kind []
unfolding is_valid_for tokens_from_chars chars
empty_is_reference kind n = ap (λ needed. not needed && true) n

-- a URI is a URI reference with a scheme, and an IRI an IRI reference with one
pub ruleset uri_laws = (uri_is_uri_ref, uri_has_scheme)

pub ruleset iri_laws = (iri_is_iri_ref, iri_has_scheme)
