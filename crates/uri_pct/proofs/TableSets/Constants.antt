-- The constants are the sets of their rules.
use Rattle.uri_pct.proofs.Common.{◌≡◌, ℕ, ◌%◌, ◌/◌, ◌^◌, ◌≤◌, Bool, true, false, refl, sym, ap, ◌∙◌, ⊎_elim, arith, is_ascii_alphabetic, is_ascii_digit, is_ascii_hexdigit, agree_below, cond-true, cond-false, lt-ltb, le-ltb, cases_lt, false≢true, nat_tests, TableSet, characters_only, allows, allows_past_ascii, is_unreserved, is_gen_delim, is_sub_delim, is_reserved, is_scheme_char, is_reg_name_char, is_userinfo_char, is_pchar, is_segment_nz_nc_char, is_path_char, is_query_char, alpha_set, digit_set, hexdig_set, scheme_set, userinfo_set, ipv_future_set, reg_name_set, path_set, segment_nz_nc_set, pchar_set, query_set, fragment_set, unreserved_set, reserved_set, gen_delims_set, sub_delims_set, iuserinfo_set, ireg_name_set, ipath_set, isegment_nz_nc_set, iquery_set, ifragment_set, has_bit, ALPHA, DIGIT, FRAGMENT, GEN_DELIMS, HEXDIG, IPV_FUTURE, PATH, PCHAR, QUERY, REG_NAME, RESERVED, SCHEME, SEGMENT_NZ_NC, SUB_DELIMS, UNRESERVED, USERINFO}
use Rattle.uri_pct.proofs.TableSets.Masks.{has_bit-by-agreement}
use Rattle.uri_pct.proofs.TableSets.Tables.{sets_equal_by_agreement, record_set, set_of_masks}

-- tables: the set of the characters whose bits are set in a number of 128 bits, with three flags
abbrev pub set_of_characters : ℕ → Bool → Bool → Bool → TableSet
set_of_characters characters = set_of_masks (characters % 2 ^ 64) (characters / 2 ^ 64)

-- tables: characters that agree with a test on ASCII are its set, if the test fails past ASCII
agreeing_masks_are_set_of_test : (characters : ℕ) (pct_encoded : Bool) (test : ℕ → Bool)
    → agree_below (has_bit (characters % 2 ^ 64) (characters / 2 ^ 64)) test 128 ≡ true
    → ((c : ℕ) → 128 ≤ c → test c ≡ false)
    → set_of_characters characters pct_encoded false false ≡ record_set test pct_encoded false false
agreeing_masks_are_set_of_test characters pct_encoded test same none =
    sets_equal_by_agreement _ test pct_encoded false false
    (has_bit-by-agreement (characters % 2 ^ 64) (characters / 2 ^ 64) test same none)

-- sets: a hexadecimal digit is below 128
pub past_ascii_is_no_hexdigit : (c : ℕ) → 128 ≤ c → is_ascii_hexdigit c ≡ false
past_ascii_is_no_hexdigit c h = grind (arith, nat_tests)

-- sets: an unreserved character is below 128
pub past_ascii_is_not_unreserved : (c : ℕ) → 128 ≤ c → is_unreserved c ≡ false
past_ascii_is_not_unreserved c h = grind (arith, nat_tests)

-- the table of ALPHA is its set (RFC 5234)
pub alpha_masks_are_alpha_set : set_of_characters ALPHA false false false ≡ alpha_set
unfolding has_bit
alpha_masks_are_alpha_set = agreeing_masks_are_set_of_test ALPHA false is_ascii_alphabetic refl
    (λ c h. grind (arith, nat_tests))

-- the table of DIGIT is its set (RFC 5234)
pub digit_masks_are_digit_set : set_of_characters DIGIT false false false ≡ digit_set
unfolding has_bit
digit_masks_are_digit_set = agreeing_masks_are_set_of_test DIGIT false is_ascii_digit refl
    (λ c h. grind (arith, nat_tests))

-- the table of HEXDIG is its set (RFC 5234)
pub hexdig_masks_are_hexdig_set : set_of_characters HEXDIG false false false ≡ hexdig_set
unfolding has_bit
hexdig_masks_are_hexdig_set = agreeing_masks_are_set_of_test HEXDIG false is_ascii_hexdigit refl
    past_ascii_is_no_hexdigit

-- the table of scheme characters is their set (RFC 3986, section 3.1)
pub scheme_masks_are_scheme_set : set_of_characters SCHEME false false false ≡ scheme_set
unfolding has_bit
scheme_masks_are_scheme_set = agreeing_masks_are_set_of_test SCHEME false is_scheme_char refl
    (λ c h. grind (arith, nat_tests))

-- the table of userinfo is its set (RFC 3986, section 3.2.1)
pub userinfo_masks_are_userinfo_set : set_of_characters USERINFO true false false ≡ userinfo_set
unfolding has_bit
userinfo_masks_are_userinfo_set = agreeing_masks_are_set_of_test USERINFO true is_userinfo_char refl
    (λ c h. grind (arith, nat_tests))

-- the table of an IPvFuture address is its set (RFC 3986, section 3.2.2)
pub ipv_future_masks_are_ipv_future_set : set_of_characters IPV_FUTURE false false false ≡ ipv_future_set
unfolding has_bit
ipv_future_masks_are_ipv_future_set = agreeing_masks_are_set_of_test IPV_FUTURE false is_userinfo_char refl
    (λ c h. grind (arith, nat_tests))

-- the table of a registered name is its set (RFC 3986, section 3.2.2)
pub reg_name_masks_are_reg_name_set : set_of_characters REG_NAME true false false ≡ reg_name_set
unfolding has_bit
reg_name_masks_are_reg_name_set = agreeing_masks_are_set_of_test REG_NAME true is_reg_name_char refl
    (λ c h. grind (arith, nat_tests))

-- the table of a path is its set (RFC 3986, section 3.3)
pub path_masks_are_path_set : set_of_characters PATH true false false ≡ path_set
unfolding has_bit
path_masks_are_path_set = agreeing_masks_are_set_of_test PATH true is_path_char refl
    (λ c h. grind (arith, nat_tests))

-- the table of a segment without `:` is its set (RFC 3986, section 3.3)
pub segment_nz_nc_masks_are_segment_nz_nc_set : set_of_characters SEGMENT_NZ_NC true false false
    ≡ segment_nz_nc_set
unfolding has_bit
segment_nz_nc_masks_are_segment_nz_nc_set = agreeing_masks_are_set_of_test SEGMENT_NZ_NC true
    is_segment_nz_nc_char refl (λ c h. grind (arith, nat_tests))

-- the table of a segment is its set (RFC 3986, section 3.3)
pub pchar_masks_are_pchar_set : set_of_characters PCHAR true false false ≡ pchar_set
unfolding has_bit
pchar_masks_are_pchar_set = agreeing_masks_are_set_of_test PCHAR true is_pchar refl
    (λ c h. grind (arith, nat_tests))

-- the table of a query is its set (RFC 3986, section 3.4)
pub query_masks_are_query_set : set_of_characters QUERY true false false ≡ query_set
unfolding has_bit
query_masks_are_query_set = agreeing_masks_are_set_of_test QUERY true is_query_char refl
    (λ c h. grind (arith, nat_tests))

-- the table of a fragment is its set (RFC 3986, section 3.5)
pub fragment_masks_are_fragment_set : set_of_characters FRAGMENT true false false ≡ fragment_set
unfolding has_bit
fragment_masks_are_fragment_set = agreeing_masks_are_set_of_test FRAGMENT true is_query_char refl
    (λ c h. grind (arith, nat_tests))

-- the table of unreserved characters is their set (RFC 3986, section 2.3)
pub unreserved_masks_are_unreserved_set : set_of_characters UNRESERVED false false false ≡ unreserved_set
unfolding has_bit
unreserved_masks_are_unreserved_set = agreeing_masks_are_set_of_test UNRESERVED false is_unreserved refl
    past_ascii_is_not_unreserved

-- the table of reserved characters is their set (RFC 3986, section 2.2)
pub reserved_masks_are_reserved_set : set_of_characters RESERVED false false false ≡ reserved_set
unfolding has_bit
reserved_masks_are_reserved_set = agreeing_masks_are_set_of_test RESERVED false is_reserved refl
    (λ c h. grind (arith, nat_tests))

-- the table of gen-delims is their set (RFC 3986, section 2.2)
pub gen_delims_masks_are_gen_delims_set : set_of_characters GEN_DELIMS false false false ≡ gen_delims_set
unfolding has_bit
gen_delims_masks_are_gen_delims_set = agreeing_masks_are_set_of_test GEN_DELIMS false is_gen_delim refl
    (λ c h. grind (arith, nat_tests))

-- the table of sub-delims is their set (RFC 3986, section 2.2)
pub sub_delims_masks_are_sub_delims_set : set_of_characters SUB_DELIMS false false false ≡ sub_delims_set
unfolding has_bit
sub_delims_masks_are_sub_delims_set = agreeing_masks_are_set_of_test SUB_DELIMS false is_sub_delim refl
    (λ c h. grind (arith, nat_tests))

-- tables: those of an IRI are those of a URI, with the flags ucschar and iprivate
masks_with_flags_are_set_with_flags : (characters : ℕ) (set : TableSet) (ucschar iprivate : Bool)
    → set_of_characters characters true false false ≡ set
    → set_of_characters characters true ucschar iprivate
    ≡ record set { ucschar = ucschar; iprivate = iprivate }
masks_with_flags_are_set_with_flags characters set ucschar iprivate e =
    ap (λ (s : TableSet). record s { ucschar = ucschar; iprivate = iprivate }) e

-- the table of an IRI's userinfo is its set (RFC 3987, section 2.2)
pub iuserinfo_masks_are_iuserinfo_set : set_of_characters USERINFO true true false ≡ iuserinfo_set
iuserinfo_masks_are_iuserinfo_set = masks_with_flags_are_set_with_flags USERINFO userinfo_set true false
    userinfo_masks_are_userinfo_set

-- the table of an IRI's registered name is its set (RFC 3987, section 2.2)
pub ireg_name_masks_are_ireg_name_set : set_of_characters REG_NAME true true false ≡ ireg_name_set
ireg_name_masks_are_ireg_name_set = masks_with_flags_are_set_with_flags REG_NAME reg_name_set true false
    reg_name_masks_are_reg_name_set

-- the table of an IRI's path is its set (RFC 3987, section 2.2)
pub ipath_masks_are_ipath_set : set_of_characters PATH true true false ≡ ipath_set
ipath_masks_are_ipath_set = masks_with_flags_are_set_with_flags PATH path_set true false
    path_masks_are_path_set

-- the table of an IRI's segment without `:` is its set (RFC 3987, section 2.2)
pub isegment_nz_nc_masks_are_isegment_nz_nc_set : set_of_characters SEGMENT_NZ_NC true true false
    ≡ isegment_nz_nc_set
isegment_nz_nc_masks_are_isegment_nz_nc_set = masks_with_flags_are_set_with_flags SEGMENT_NZ_NC
    segment_nz_nc_set true false segment_nz_nc_masks_are_segment_nz_nc_set

-- the table of an IRI's query is its set (RFC 3987, section 2.2)
pub iquery_masks_are_iquery_set : set_of_characters QUERY true true true ≡ iquery_set
iquery_masks_are_iquery_set = masks_with_flags_are_set_with_flags QUERY query_set true true
    query_masks_are_query_set

-- the table of an IRI's fragment is its set (RFC 3987, section 2.2)
pub ifragment_masks_are_ifragment_set : set_of_characters FRAGMENT true true false ≡ ifragment_set
ifragment_masks_are_ifragment_set = masks_with_flags_are_set_with_flags FRAGMENT fragment_set true false
    fragment_masks_are_fragment_set

allowed_character_passes_test : (test : ℕ → Bool) (c : ℕ)
    → allows (characters_only test) c ≡ true → test c ≡ true
unfolding allows_past_ascii
allowed_character_passes_test test c e =
    ⊎_elim (λ low. sym (cond-true _ _ _ (lt-ltb c 128 low)) ∙ e)
    (λ high. absurd (false≢true (sym (cond-false _ _ _ (le-ltb c 128 high)) ∙ e))) (cases_lt c 128)

-- tables: what the table of reserved characters allows is reserved
pub reserved_table_allows_reserved_only : (c : ℕ)
    → allows (set_of_characters RESERVED false false false) c ≡ true → is_reserved c ≡ true
reserved_table_allows_reserved_only c e = allowed_character_passes_test is_reserved c
    (sym (ap (λ set. allows set c) reserved_masks_are_reserved_set) ∙ e)

-- each constant is the set of its rule
pub ruleset constant_tables = (
  alpha_masks_are_alpha_set,
  digit_masks_are_digit_set,
  hexdig_masks_are_hexdig_set,
  scheme_masks_are_scheme_set,
  userinfo_masks_are_userinfo_set,
  ipv_future_masks_are_ipv_future_set,
  reg_name_masks_are_reg_name_set,
  path_masks_are_path_set,
  segment_nz_nc_masks_are_segment_nz_nc_set,
  pchar_masks_are_pchar_set,
  query_masks_are_query_set,
  fragment_masks_are_fragment_set,
  unreserved_masks_are_unreserved_set,
  reserved_masks_are_reserved_set,
  gen_delims_masks_are_gen_delims_set,
  sub_delims_masks_are_sub_delims_set,
  iuserinfo_masks_are_iuserinfo_set,
  ireg_name_masks_are_ireg_name_set,
  ipath_masks_are_ipath_set,
  isegment_nz_nc_masks_are_isegment_nz_nc_set,
  iquery_masks_are_iquery_set,
  ifragment_masks_are_ifragment_set,
)
