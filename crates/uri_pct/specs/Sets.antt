-- Sets of characters: RFC 3986, appendix A, and RFC 3987, section 2.2. A character is its code.
use Rattle.std.specs.Prelude.{◌≡◌, ℕ, Bool, true, false, not, ◌&&◌, ◌||◌, ◌==◌, nat_lt, List, codes, if◌then◌else◌}
use Rattle.std.specs.Int.{is_in_range}
use Rattle.std.specs.List.{list_any}
use Rattle.std.specs.Char.{is_ascii_alphabetic, is_ascii_digit, is_ascii_hexdigit}
use Rattle.uri_pct.specs.Delimiters.{at_sign, colon, percent_sign, slash}

-- the character c is in the set of the characters of the text, which is of ASCII and comes first
abbrev pub is_one_of : List ℕ → ℕ → Bool
is_one_of text c = list_any (λ x. x == c) text

-- the character is unreserved: a letter, a digit, `-`, `.`, `_` or `~` (RFC 3986, section 2.3)
abbrev pub is_unreserved : ℕ → Bool
is_unreserved c = is_ascii_alphabetic c || is_ascii_digit c || is_one_of (codes "-._~") c

-- the character is one of gen-delims, which are `:/?#[]@` (RFC 3986, section 2.2)
abbrev pub is_gen_delim : ℕ → Bool
is_gen_delim c = is_one_of (codes ":/?#[]@") c

-- the character is one of sub-delims, which are `!$&'()*+,;=` (RFC 3986, section 2.2)
abbrev pub is_sub_delim : ℕ → Bool
is_sub_delim c = is_one_of (codes "!$&'()*+,;=") c

-- the character is reserved: one of gen-delims or of sub-delims (RFC 3986, section 2.2)
abbrev pub is_reserved : ℕ → Bool
is_reserved c = is_gen_delim c || is_sub_delim c

-- the character may be in a scheme: a letter, a digit, `+`, `-` or `.` (RFC 3986, section 3.1)
abbrev pub is_scheme_char : ℕ → Bool
is_scheme_char c = is_ascii_alphabetic c || is_ascii_digit c || is_one_of (codes "+-.") c

-- the character may be in a registered name: unreserved, or one of sub-delims (RFC 3986,
-- section 3.2.2)
abbrev pub is_reg_name_char : ℕ → Bool
is_reg_name_char c = is_unreserved c || is_sub_delim c

-- the character may be in userinfo (RFC 3986, section 3.2.1), and in an IPvFuture address
-- (section 3.2.2): one of a registered name, or `:`
abbrev pub is_userinfo_char : ℕ → Bool
is_userinfo_char c = is_reg_name_char c || c == colon

-- the character may be in a segment of a path: it is of pchar (RFC 3986, section 3.3)
abbrev pub is_pchar : ℕ → Bool
is_pchar c = is_reg_name_char c || is_one_of (codes ":@") c

-- the character may be in a first segment without `:`, which is segment-nz-nc (RFC 3986,
-- section 3.3)
abbrev pub is_segment_nz_nc_char : ℕ → Bool
is_segment_nz_nc_char c = is_reg_name_char c || c == at_sign

-- the character may be in a path: it is of pchar, or `/` (RFC 3986, section 3.3)
abbrev pub is_path_char : ℕ → Bool
is_path_char c = is_pchar c || c == slash

-- the character may be in a query or a fragment: it is of pchar, `/` or `?` (RFC 3986, sections 3.4
-- and 3.5)
abbrev pub is_query_char : ℕ → Bool
is_query_char c = is_pchar c || is_one_of (codes "/?") c

-- the character is of ucschar: past ASCII, and allowed in userinfo, host, path, query and fragment
-- of an IRI (RFC 3987, section 2.2)
unfoldable pub is_ucschar : ℕ → Bool
is_ucschar c =
    is_in_range 0xA0 0xD7FF c || is_in_range 0xF900 0xFDCF c
    || is_in_range 0xFDF0 0xFFEF c || is_in_range 0x10000 0x1FFFD c
    || is_in_range 0x20000 0x2FFFD c || is_in_range 0x30000 0x3FFFD c
    || is_in_range 0x40000 0x4FFFD c || is_in_range 0x50000 0x5FFFD c
    || is_in_range 0x60000 0x6FFFD c || is_in_range 0x70000 0x7FFFD c
    || is_in_range 0x80000 0x8FFFD c || is_in_range 0x90000 0x9FFFD c
    || is_in_range 0xA0000 0xAFFFD c || is_in_range 0xB0000 0xBFFFD c
    || is_in_range 0xC0000 0xCFFFD c || is_in_range 0xD0000 0xDFFFD c
    || is_in_range 0xE1000 0xEFFFD c

-- the character is of iprivate: past ASCII, for private use, and allowed in the query of an IRI
-- alone (RFC 3987, section 2.2)
unfoldable pub is_iprivate : ℕ → Bool
is_iprivate c =
    is_in_range 0xE000 0xF8FF c || is_in_range 0xF0000 0xFFFFD c || is_in_range 0x100000 0x10FFFD c

-- the set that a table represents: which ASCII characters other than `%` are in it, and whether
-- percent-encoded octets, `ucschar` and `iprivate` are
pub record TableSet : Type 0 where
  pub ascii : ℕ → Bool
  pub pct_encoded : Bool
  pub ucschar : Bool
  pub iprivate : Bool

-- the set allows the character c, which is past ASCII: as one of `ucschar`, or of `iprivate`
unfoldable pub allows_past_ascii : TableSet → ℕ → Bool
allows_past_ascii set c = set.ucschar && is_ucschar c || set.iprivate && is_iprivate c

-- the set allows the character c literally: as one of ASCII, or as one past it
abbrev pub allows : TableSet → ℕ → Bool
allows set c = if nat_lt c 128 then set.ascii c else allows_past_ascii set c

-- `%` is not a literal character of the set
abbrev pub LacksPercent : TableSet → Type 0
LacksPercent set = set.ascii percent_sign ≡ false

-- the set of the ASCII characters that pass a test, without percent-encoded octets
abbrev pub characters_only : (ℕ → Bool) → TableSet
characters_only test = record {
  ascii = test;
  pct_encoded = false;
  ucschar = false;
  iprivate = false;
}

-- the set of the ASCII characters that pass a test, with percent-encoded octets
abbrev pub encoded : (ℕ → Bool) → TableSet
encoded test = record { ascii = test; pct_encoded = true; ucschar = false; iprivate = false }

-- the set of what is in s or in t: characters, and flags
abbrev pub union : TableSet → TableSet → TableSet
union s t = record {
  ascii = λ c. s.ascii c || t.ascii c;
  pct_encoded = s.pct_encoded || t.pct_encoded;
  ucschar = s.ucschar || t.ucschar;
  iprivate = s.iprivate || t.iprivate;
}

-- the set of what is in s and not in t: characters, and flags
abbrev pub difference : TableSet → TableSet → TableSet
difference s t = record {
  ascii = λ c. s.ascii c && not (t.ascii c);
  pct_encoded = s.pct_encoded && not t.pct_encoded;
  ucschar = s.ucschar && not t.ucschar;
  iprivate = s.iprivate && not t.iprivate;
}

-- every character and flag of the set s is in the set t
pub record IsSubset (s t : TableSet) : Type 0 where
  pub ascii : (c : ℕ) → s.ascii c ≡ true → t.ascii c ≡ true
  pub pct_encoded : s.pct_encoded ≡ true → t.pct_encoded ≡ true
  pub ucschar : s.ucschar ≡ true → t.ucschar ≡ true
  pub iprivate : s.iprivate ≡ true → t.iprivate ≡ true

-- the set of the ASCII letters, ALPHA (RFC 3986, appendix A)
abbrev pub alpha_set : TableSet
alpha_set = characters_only is_ascii_alphabetic

-- the set of the decimal digits, DIGIT (RFC 3986, appendix A)
abbrev pub digit_set : TableSet
digit_set = characters_only is_ascii_digit

-- the set of the hexadecimal digits in either case, HEXDIG (RFC 3986, appendix A)
abbrev pub hexdig_set : TableSet
hexdig_set = characters_only is_ascii_hexdigit

-- the set of a scheme, whose first character must also be a letter (RFC 3986, section 3.1)
abbrev pub scheme_set : TableSet
scheme_set = characters_only is_scheme_char

-- the set of the unreserved characters (RFC 3986, section 2.3)
abbrev pub unreserved_set : TableSet
unreserved_set = characters_only is_unreserved

-- the set of gen-delims (RFC 3986, section 2.2)
abbrev pub gen_delims_set : TableSet
gen_delims_set = characters_only is_gen_delim

-- the set of sub-delims (RFC 3986, section 2.2)
abbrev pub sub_delims_set : TableSet
sub_delims_set = characters_only is_sub_delim

-- the set of the reserved characters (RFC 3986, section 2.2)
abbrev pub reserved_set : TableSet
reserved_set = characters_only is_reserved

-- the set of what is after the `.` of an IPvFuture address (RFC 3986, section 3.2.2)
abbrev pub ipv_future_set : TableSet
ipv_future_set = characters_only is_userinfo_char

-- the set of userinfo in a URI, with percent-encoded octets (RFC 3986, section 3.2.1)
abbrev pub userinfo_set : TableSet
userinfo_set = encoded is_userinfo_char

-- the set of a registered name in a URI, with percent-encoded octets (RFC 3986, section 3.2.2)
abbrev pub reg_name_set : TableSet
reg_name_set = encoded is_reg_name_char

-- the set of a first segment without `:` in a URI reference, segment-nz-nc, with percent-encoded
-- octets (RFC 3986, section 3.3)
abbrev pub segment_nz_nc_set : TableSet
segment_nz_nc_set = encoded is_segment_nz_nc_char

-- the set of a segment in a URI, pchar, with percent-encoded octets (RFC 3986, section 3.3)
abbrev pub pchar_set : TableSet
pchar_set = encoded is_pchar

-- the set of a path in a URI, with percent-encoded octets (RFC 3986, section 3.3)
abbrev pub path_set : TableSet
path_set = encoded is_path_char

-- the set of a query in a URI, with percent-encoded octets (RFC 3986, section 3.4)
abbrev pub query_set : TableSet
query_set = encoded is_query_char

-- the set of a fragment in a URI, with percent-encoded octets (RFC 3986, section 3.5)
abbrev pub fragment_set : TableSet
fragment_set = encoded is_query_char

-- the set of data, in which each reserved character is percent-encoded (RFC 3986, section 2.4)
abbrev pub data_set : TableSet
data_set = encoded is_unreserved

-- the set with the characters of `ucschar` too, as a component of an IRI has it (RFC 3987,
-- section 2.2)
abbrev pub international : TableSet → TableSet
international set = record set { ucschar = true }

-- the set of userinfo in an IRI, with percent-encoded octets (RFC 3987, section 2.2)
abbrev pub iuserinfo_set : TableSet
iuserinfo_set = international userinfo_set

-- the set of a registered name in an IRI, with percent-encoded octets (RFC 3987, section 2.2)
abbrev pub ireg_name_set : TableSet
ireg_name_set = international reg_name_set

-- the set of a first segment without `:` in an IRI reference, isegment-nz-nc, with percent-encoded
-- octets (RFC 3987, section 2.2)
abbrev pub isegment_nz_nc_set : TableSet
isegment_nz_nc_set = international segment_nz_nc_set

-- the set of a path in an IRI, with percent-encoded octets (RFC 3987, section 2.2)
abbrev pub ipath_set : TableSet
ipath_set = international path_set

-- the set of a query in an IRI, with the characters of `iprivate` and percent-encoded octets
-- (RFC 3987, section 2.2)
abbrev pub iquery_set : TableSet
iquery_set = record (international query_set) { iprivate = true }

-- the set of a fragment in an IRI, with percent-encoded octets (RFC 3987, section 2.2)
abbrev pub ifragment_set : TableSet
ifragment_set = international fragment_set

-- the set of data in an IRI: unreserved characters and `ucschar`, all else percent-encoded
-- (RFC 3986, section 2.4; RFC 3987, section 2.2)
abbrev pub idata_set : TableSet
idata_set = international data_set
