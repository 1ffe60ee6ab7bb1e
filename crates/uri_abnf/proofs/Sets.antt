-- The sets of the expressions of one character or octet in RFC 3986, appendix A.
use Rattle.uri_abnf.proofs.Common.{◌≡◌, ℕ, refl, rules, arith, nat_tests, allows, allows_past_ascii, userinfo_set, reg_name_set, pchar_set, path_set, query_set, fragment_set, segment_nz_nc_set, scheme_set, digit_set, hexdig_set, ipv_future_set, lit, ◌∣◌, unreserved, sub-delims, pct-encoded, pchar, ALPHA, DIGIT, HEXDIG}
use Rattle.uri_abnf.proofs.Elements.{has_char}
use Rattle.uri_abnf.proofs.Tokens.{IsSetOf}

reg-name-chars : (c : ℕ) → has_char (unreserved ∣ pct-encoded ∣ sub-delims) c
    ≡ allows reg_name_set c
unfolding ALPHA DIGIT HEXDIG unreserved sub-delims pct-encoded pchar allows_past_ascii
reg-name-chars c = grind (arith, nat_tests)

pub reg-name-set : IsSetOf (unreserved ∣ pct-encoded ∣ sub-delims) reg_name_set
unfolding ALPHA DIGIT HEXDIG unreserved sub-delims pct-encoded pchar
reg-name-set = record {
  element = search rules;
  chars = reg-name-chars;
  octets = refl;
  lacks = refl;
}

userinfo-chars : (c : ℕ) → has_char (unreserved ∣ pct-encoded ∣ sub-delims ∣ lit ":") c
    ≡ allows userinfo_set c
unfolding ALPHA DIGIT HEXDIG unreserved sub-delims pct-encoded pchar allows_past_ascii
userinfo-chars c = grind (arith, nat_tests)

pub userinfo-set : IsSetOf (unreserved ∣ pct-encoded ∣ sub-delims ∣ lit ":") userinfo_set
unfolding ALPHA DIGIT HEXDIG unreserved sub-delims pct-encoded pchar
userinfo-set = record {
  element = search rules;
  chars = userinfo-chars;
  octets = refl;
  lacks = refl;
}

pchar-chars : (c : ℕ) → has_char pchar c ≡ allows pchar_set c
unfolding ALPHA DIGIT HEXDIG unreserved sub-delims pct-encoded pchar allows_past_ascii
pchar-chars c = grind (arith, nat_tests)

pub pchar-set : IsSetOf pchar pchar_set
unfolding ALPHA DIGIT HEXDIG unreserved sub-delims pct-encoded pchar
pchar-set = record { element = search rules; chars = pchar-chars; octets = refl; lacks = refl }

segment-nz-nc-chars : (c : ℕ) → has_char (unreserved ∣ pct-encoded ∣ sub-delims ∣ lit "@") c
    ≡ allows segment_nz_nc_set c
unfolding ALPHA DIGIT HEXDIG unreserved sub-delims pct-encoded pchar allows_past_ascii
segment-nz-nc-chars c = grind (arith, nat_tests)

pub segment-nz-nc-set : IsSetOf (unreserved ∣ pct-encoded ∣ sub-delims ∣ lit "@") segment_nz_nc_set
unfolding ALPHA DIGIT HEXDIG unreserved sub-delims pct-encoded pchar
segment-nz-nc-set = record {
  element = search rules;
  chars = segment-nz-nc-chars;
  octets = refl;
  lacks = refl;
}

path-chars : (c : ℕ) → has_char (pchar ∣ lit "/") c ≡ allows path_set c
unfolding ALPHA DIGIT HEXDIG unreserved sub-delims pct-encoded pchar allows_past_ascii
path-chars c = grind (arith, nat_tests)

pub path-set : IsSetOf (pchar ∣ lit "/") path_set
unfolding ALPHA DIGIT HEXDIG unreserved sub-delims pct-encoded pchar
path-set = record { element = search rules; chars = path-chars; octets = refl; lacks = refl }

query-chars : (c : ℕ) → has_char (pchar ∣ lit "/" ∣ lit "?") c ≡ allows query_set c
unfolding ALPHA DIGIT HEXDIG unreserved sub-delims pct-encoded pchar allows_past_ascii
query-chars c = grind (arith, nat_tests)

pub query-set : IsSetOf (pchar ∣ lit "/" ∣ lit "?") query_set
unfolding ALPHA DIGIT HEXDIG unreserved sub-delims pct-encoded pchar
query-set = record { element = search rules; chars = query-chars; octets = refl; lacks = refl }

pub fragment-set : IsSetOf (pchar ∣ lit "/" ∣ lit "?") fragment_set
fragment-set = query-set

future-chars : (c : ℕ) → has_char (unreserved ∣ sub-delims ∣ lit ":") c ≡ allows ipv_future_set c
unfolding ALPHA DIGIT HEXDIG unreserved sub-delims pct-encoded pchar allows_past_ascii
future-chars c = grind (arith, nat_tests)

pub future-set : IsSetOf (unreserved ∣ sub-delims ∣ lit ":") ipv_future_set
unfolding ALPHA DIGIT HEXDIG unreserved sub-delims pct-encoded pchar
future-set = record { element = search rules; chars = future-chars; octets = refl; lacks = refl }

scheme-chars : (c : ℕ) → has_char (ALPHA ∣ DIGIT ∣ lit "+" ∣ lit "-" ∣ lit ".") c
    ≡ allows scheme_set c
unfolding ALPHA DIGIT HEXDIG unreserved sub-delims pct-encoded pchar allows_past_ascii
scheme-chars c = grind (arith, nat_tests)

pub scheme-set : IsSetOf (ALPHA ∣ DIGIT ∣ lit "+" ∣ lit "-" ∣ lit ".") scheme_set
unfolding ALPHA DIGIT HEXDIG unreserved sub-delims pct-encoded pchar
scheme-set = record { element = search rules; chars = scheme-chars; octets = refl; lacks = refl }

digit-chars : (c : ℕ) → has_char DIGIT c ≡ allows digit_set c
unfolding ALPHA DIGIT HEXDIG unreserved sub-delims pct-encoded pchar allows_past_ascii
digit-chars c = grind (arith, nat_tests)

pub digit-set : IsSetOf DIGIT digit_set
unfolding ALPHA DIGIT HEXDIG unreserved sub-delims pct-encoded pchar
digit-set = record { element = search rules; chars = digit-chars; octets = refl; lacks = refl }

hexdig-chars : (c : ℕ) → has_char HEXDIG c ≡ allows hexdig_set c
unfolding ALPHA DIGIT HEXDIG unreserved sub-delims pct-encoded pchar allows_past_ascii
hexdig-chars c = grind (arith, nat_tests)

pub hexdig-set : IsSetOf HEXDIG hexdig_set
unfolding ALPHA DIGIT HEXDIG unreserved sub-delims pct-encoded pchar
hexdig-set = record { element = search rules; chars = hexdig-chars; octets = refl; lacks = refl }
