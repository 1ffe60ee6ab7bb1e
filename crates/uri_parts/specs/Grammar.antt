-- Which texts are of a kind: RFC 3986, sections 3 and 4.1, and RFC 3987, section 2.2.
use Rattle.std.specs.Prelude.{◌≡◌, ◌==◌, ℕ, Bool, true, false, not, ◌&&◌, ◌||◌, List, codes, slice_index, Option, Some, None, is_some, if◌then◌else◌}
use Rattle.std.specs.List.{list_any}
use Rattle.std.specs.Char.{is_ascii_alphabetic}
use Rattle.std.specs.Str.{IsUtf8}
use Rattle.uri_pct.specs.Prelude.{TableSet, colon, fragment_set, ifragment_set, ipath_set, iquery_set, ireg_name_set, is_valid_for, isegment_nz_nc_set, iuserinfo_set, path_set, query_set, reg_name_set, scheme_set, segment_nz_nc_set, userinfo_set}
use Rattle.uri_parts.specs.Authority.{is_authority_for}
use Rattle.uri_parts.specs.Components.{Components, components, before_any}

-- what distinguishes the four kinds of texts: the sets of their components, and whether a scheme is
-- needed (RFC 3986, section 3; RFC 3987, section 2.2)
pub record Kind : Type 0 where
  pub userinfo : TableSet
  pub reg_name : TableSet
  pub path : TableSet
  pub query : TableSet
  pub fragment : TableSet
  pub needs_scheme : Bool

-- the kind of URI references (RFC 3986, section 4.1)
abbrev pub uri_ref : Kind
uri_ref = record {
  userinfo = userinfo_set;
  reg_name = reg_name_set;
  path = path_set;
  query = query_set;
  fragment = fragment_set;
  needs_scheme = false;
}

-- the kind of URIs, which are URI references with a scheme (RFC 3986, section 3)
abbrev pub uri : Kind
uri = record uri_ref { needs_scheme = true }

-- the kind of IRI references (RFC 3987, section 2.2)
abbrev pub iri_ref : Kind
iri_ref = record {
  userinfo = iuserinfo_set;
  reg_name = ireg_name_set;
  path = ipath_set;
  query = iquery_set;
  fragment = ifragment_set;
  needs_scheme = false;
}

-- the kind of IRIs, which are IRI references with a scheme (RFC 3987, section 2.2)
abbrev pub iri : Kind
iri = record iri_ref { needs_scheme = true }

-- the one of the four kinds that allows characters past ASCII or does not (international), and that
-- needs a scheme or does not (needs_scheme)
abbrev pub kind_by_flags : Bool → Bool → Kind
kind_by_flags international needs_scheme =
    record (if international then iri_ref else uri_ref) { needs_scheme = needs_scheme }

-- the set of a kind for a first segment without `:` (RFC 3986, section 3.3, segment-nz-nc;
-- RFC 3987, section 2.2, isegment-nz-nc)
abbrev pub first_segment_set : Kind → TableSet
first_segment_set kind = if kind.path.ucschar then isegment_nz_nc_set else segment_nz_nc_set

-- the text is a scheme: a letter, and then letters, digits, `+`, `-` and `.` (RFC 3986,
-- section 3.1)
abbrev pub is_scheme : List ℕ → Bool
is_scheme text = is_ascii_alphabetic (slice_index text 0) && is_valid_for scheme_set text

-- the text is an authority of the kind: userinfo, host and port, each of which meets its rule
-- (RFC 3986, section 3.2)
abbrev pub is_authority : Kind → List ℕ → Bool
is_authority kind text = is_authority_for kind.userinfo kind.reg_name text

-- the first segment of the path has a `:`, as that of a relative reference must not (RFC 3986,
-- sections 3.3 and 4.2)
abbrev pub has_colon_in_first_segment : List ℕ → Bool
has_colon_in_first_segment path = list_any (λ c. c == colon) (before_any (codes "/") path)

-- the component is absent, or passes the test, as that of its rule in the grammar
abbrev pub absent_or_passes : Option (List ℕ) → (List ℕ → Bool) → Bool
absent_or_passes None test = true
absent_or_passes (Some part) test = test part

-- the components are those of a text of the kind: each meets its rule (RFC 3986, sections 3, 3.3
-- and 4.2).
-- Of section 3.3's rules on paths one is left to ask, since with an authority every cut has a path
-- that is empty or begins with `/`, and without one a path that does not begin with `//`.
abbrev pub components_meet_rules : Kind → Components → Bool
components_meet_rules kind p =
    absent_or_passes p.scheme is_scheme
    && absent_or_passes p.authority (is_authority kind)
    && is_valid_for kind.path p.path
    && absent_or_passes p.query (is_valid_for kind.query)
    && absent_or_passes p.fragment (is_valid_for kind.fragment)
    && (is_some p.scheme
    || (not kind.needs_scheme && (is_some p.authority || not (has_colon_in_first_segment p.path))))

-- the text is of the kind: its components meet the rules of the grammar (RFC 3986, sections 3 and
-- 4.1; RFC 3987, section 2.2)
abbrev pub is_of_kind : Kind → List ℕ → Bool
is_of_kind kind text = components_meet_rules kind (components text)

-- the text is of the kind, by the rules of RFC 3986, sections 3 and 4.1, and RFC 3987, section 2.2
abbrev pub IsOfKind : Kind → List ℕ → Type 0
IsOfKind kind text = is_of_kind kind text ≡ true

-- the bytes are UTF-8, and their text is of the kind
pub record IsTextOf (kind : Kind) (text : List ℕ) : Type 0 where
  pub utf8 : IsUtf8 text
  pub grammar : IsOfKind kind text
