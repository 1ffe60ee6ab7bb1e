-- What the sets of a kind have to keep apart for its texts to be parsed from left to right.
use Rattle.uri_parts.proofs.Common.{◌≡◌, ℕ, true, false, List, arith, codes, nat_tests, TableSet, LacksPercent, IsSubset, is_one_of, scheme_set, digit_set, reg_name_set, allows_past_ascii, allows_first, excludes, Kind}

-- sets of a kind: a set has what another has, but for characters that are one of these
abbrev pub HasAllBut : List ℕ → TableSet → TableSet → Type 0
HasAllBut marks small great = (b : ℕ) (bs : List ℕ) → is_one_of marks b ≡ false
    → allows_first small b bs ≡ false → allows_first great b bs ≡ false

-- sets of a kind: a set has all characters of a greater one but some delimiters, if it does for
-- ASCII and has the same past ASCII
pub greater-set-has-all-but-marks : (marks : List ℕ) (small great : TableSet)
    → ((c : ℕ) → is_one_of marks c ≡ false → small.ascii c ≡ false → great.ascii c ≡ false)
    → ((c : ℕ) → allows_past_ascii great c ≡ allows_past_ascii small c)
    → HasAllBut marks small great
unfolding allows_first
greater-set-has-all-but-marks marks small great ascii past b bs m e = grind (arith, nat_tests)

-- sets of a kind: what they must lack for its texts to be parsed from left to right
pub record SeparatesComponents (segment : TableSet) (kind : Kind) : Type 0 where
  pub userinfo_lacks : LacksPercent kind.userinfo
  pub reg_name_lacks : LacksPercent kind.reg_name
  pub path_lacks : LacksPercent kind.path
  pub query_lacks : LacksPercent kind.query
  pub fragment_lacks : LacksPercent kind.fragment
  pub segment_lacks : LacksPercent segment
  -- no set holds a character that ends its component
  pub userinfo_marks : excludes kind.userinfo (codes "@/?#") ≡ true
  pub reg_name_marks : excludes kind.reg_name (codes "/?#") ≡ true
  pub reg_name_colon : excludes kind.reg_name (codes ":/?#") ≡ true
  pub reg_name_starts : excludes kind.reg_name (codes "@:[") ≡ true
  pub path_marks : excludes kind.path (codes "?#") ≡ true
  pub query_marks : excludes kind.query (codes "#") ≡ true
  pub segment_marks : excludes segment (codes ":/?#") ≡ true
  pub userinfo_starts : excludes kind.userinfo (codes "[") ≡ true
  -- a name, `:` and digits are a prefix of userinfo, and an IPv4 address is a name
  pub name_within : IsSubset kind.reg_name kind.userinfo
  pub digits_within : IsSubset digit_set kind.userinfo
  pub colon_within : kind.userinfo.ascii 58 ≡ true
  pub address_within : IsSubset reg_name_set kind.reg_name
  -- the set of a first segment is that of a path without `:` and `/`, and holds that of a scheme
  pub scheme_within : IsSubset scheme_set segment
  pub within : IsSubset segment kind.path
  pub octets : kind.path.pct_encoded ≡ segment.pct_encoded
  pub rest : HasAllBut (codes ":/") segment kind.path
