-- The rules of both RFCs fit the sets of the kinds.
use Rattle.uri_abnf.proofs.Common.{◌≡◌, ℕ, Bool, true, refl, sym, arith, ◌∙◌, nat_tests, userinfo_set, reg_name_set, path_set, query_set, fragment_set, iuserinfo_set, ireg_name_set, ipath_set, iquery_set, ifragment_set, pchar_set, segment_nz_nc_set, isegment_nz_nc_set, international, Kind, uri, iri, lit, ◌∣◌, uri_rules, iri_rules, unreserved, sub-delims, pct-encoded, pchar}
use Rattle.uri_abnf.specs.Rfc3986 as R
use Rattle.uri_abnf.specs.Rfc3987.{iunreserved, ipchar}
use Rattle.uri_abnf.specs.Rfc3987 as I
use Rattle.uri_abnf.proofs.Elements.{has_char}
use Rattle.uri_abnf.proofs.InternationalSets as International
use Rattle.uri_abnf.proofs.PathRules.{PathSets, abempty-rule, rootless-rule, noscheme-rule, any-path-rule}
use Rattle.uri_abnf.proofs.Rules.{AreMade, Fit, set-rule, same-rule}
use Rattle.uri_abnf.proofs.Sets as Sets

segment-without-colon : (c : ℕ) → has_char pchar c ≡ true → (c ≡ 58 → ⊥)
    → has_char (unreserved ∣ pct-encoded ∣ sub-delims ∣ lit "@") c ≡ true
unfolding pchar
segment-without-colon c e n = grind (arith, nat_tests)

segment-has-first : (c : ℕ) → has_char (unreserved ∣ pct-encoded ∣ sub-delims ∣ lit "@") c ≡ true
    → has_char pchar c ≡ true
unfolding pchar
segment-has-first c e = grind (arith, nat_tests)

uri-paths : PathSets path_set
uri-paths = record {
  pc = pchar;
  nc = unreserved ∣ pct-encoded ∣ sub-delims ∣ lit "@";
  segment = pchar_set;
  first = segment_nz_nc_set;
  of_pc = Sets.pchar-set;
  of_nc = Sets.segment-nz-nc-set;
  of_path = Sets.path-set;
  segment_marks = refl;
  first_marks = refl;
  narrow = segment-without-colon;
  wide = segment-has-first;
  octets = Sets.segment-nz-nc-set.octets ∙ sym Sets.pchar-set.octets;
}

uri-rules-are-made : AreMade uri_rules
unfolding R.URI R.hier-part R.absolute-URI R.URI-reference R.relative-ref R.relative-part
    R.authority R.host
uri-rules-are-made = grind (arith, nat_tests)

-- the kind of URIs, or of references to them
abbrev pub uri-kind : Bool → Kind
uri-kind needs = record uri { needs_scheme = needs }

pub uri-rules-fit : (needs : Bool) → Fit uri_rules (uri-kind needs)
unfolding R.userinfo R.reg-name R.query R.fragment R.path R.path-abempty R.path-absolute
    R.path-noscheme R.path-rootless R.path-empty R.segment R.segment-nz R.segment-nz-nc uri-paths
uri-rules-fit needs = record {
  made = uri-rules-are-made;
  userinfo = set-rule _ _ userinfo_set Sets.userinfo-set (λ cs. (λ h. h, λ h. h));
  reg_name = set-rule _ _ reg_name_set Sets.reg-name-set (λ cs. (λ h. h, λ h. h));
  query = set-rule _ _ query_set Sets.query-set (λ cs. (λ h. h, λ h. h));
  fragment = set-rule _ _ fragment_set Sets.fragment-set (λ cs. (λ h. h, λ h. h));
  any_path = λ t. same-rule t (λ cs. (λ h. h, λ h. h)) (any-path-rule path_set uri-paths t);
  abempty = λ t. same-rule t (λ cs. (λ h. h, λ h. h)) (abempty-rule path_set uri-paths t);
  rootless = λ t. same-rule t (λ cs. (λ h. h, λ h. h)) (rootless-rule path_set uri-paths t);
  noscheme = λ t. same-rule t (λ cs. (λ h. h, λ h. h)) (noscheme-rule path_set uri-paths t);
  apart = grind (arith, nat_tests);
  path_percent = refl;
  query_percent = refl;
  userinfo_marks = refl;
  reg_name_marks = refl;
  path_marks = refl;
  query_marks = refl;
}

isegment-without-colon : (c : ℕ) → has_char ipchar c ≡ true → (c ≡ 58 → ⊥)
    → has_char (iunreserved ∣ pct-encoded ∣ sub-delims ∣ lit "@") c ≡ true
unfolding ipchar
isegment-without-colon c e n = grind (arith, nat_tests)

isegment-has-first : (c : ℕ) → has_char (iunreserved ∣ pct-encoded ∣ sub-delims ∣ lit "@") c ≡ true
    → has_char ipchar c ≡ true
unfolding ipchar
isegment-has-first c e = grind (arith, nat_tests)

iri-paths : PathSets ipath_set
iri-paths = record {
  pc = ipchar;
  nc = iunreserved ∣ pct-encoded ∣ sub-delims ∣ lit "@";
  segment = international pchar_set;
  first = isegment_nz_nc_set;
  of_pc = International.ipchar-set;
  of_nc = International.isegment-nz-nc-set;
  of_path = International.ipath-set;
  segment_marks = refl;
  first_marks = refl;
  narrow = isegment-without-colon;
  wide = isegment-has-first;
  octets = International.isegment-nz-nc-set.octets ∙ sym International.ipchar-set.octets;
}

iri-rules-are-made : AreMade iri_rules
unfolding I.IRI I.ihier-part I.absolute-IRI I.IRI-reference I.irelative-ref I.irelative-part
    I.iauthority I.ihost
iri-rules-are-made = grind (arith, nat_tests)

-- the kind of IRIs, or of references to them
abbrev pub iri-kind : Bool → Kind
iri-kind needs = record iri { needs_scheme = needs }

pub iri-rules-fit : (needs : Bool) → Fit iri_rules (iri-kind needs)
unfolding I.iuserinfo I.ireg-name I.iquery I.ifragment I.ipath I.ipath-abempty I.ipath-absolute
    I.ipath-noscheme I.ipath-rootless I.ipath-empty I.isegment I.isegment-nz I.isegment-nz-nc
    iri-paths
iri-rules-fit needs = record {
  made = iri-rules-are-made;
  userinfo = set-rule _ _ iuserinfo_set International.iuserinfo-set (λ cs. (λ h. h, λ h. h));
  reg_name = set-rule _ _ ireg_name_set International.ireg-name-set (λ cs. (λ h. h, λ h. h));
  query = set-rule _ _ iquery_set International.iquery-set (λ cs. (λ h. h, λ h. h));
  fragment = set-rule _ _ ifragment_set International.ifragment-set (λ cs. (λ h. h, λ h. h));
  any_path = λ t. same-rule t (λ cs. (λ h. h, λ h. h)) (any-path-rule ipath_set iri-paths t);
  abempty = λ t. same-rule t (λ cs. (λ h. h, λ h. h)) (abempty-rule ipath_set iri-paths t);
  rootless = λ t. same-rule t (λ cs. (λ h. h, λ h. h)) (rootless-rule ipath_set iri-paths t);
  noscheme = λ t. same-rule t (λ cs. (λ h. h, λ h. h)) (noscheme-rule ipath_set iri-paths t);
  apart = grind (arith, nat_tests);
  path_percent = refl;
  query_percent = refl;
  userinfo_marks = refl;
  reg_name_marks = refl;
  path_marks = refl;
  query_marks = refl;
}
