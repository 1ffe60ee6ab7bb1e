-- The sets of the expressions of one character or octet in RFC 3987, section 2.2: those of
-- RFC 3986, with more characters past ASCII.
use Rattle.uri_abnf.proofs.Common.{◌≡◌, ℕ, Bool, true, false, refl, rules, arith, ap, ◌∙◌, ◌||◌, if◌then◌else◌, nat_lt, nat_tests, TableSet, allows_past_ascii, is_ucschar, is_iprivate, international, pchar_set, iuserinfo_set, ireg_name_set, ipath_set, iquery_set, ifragment_set, isegment_nz_nc_set, Abnf, lit, ◌∣◌, unreserved, sub-delims, pct-encoded, pchar, ALPHA, DIGIT}
use Rattle.uri_abnf.specs.Rfc3987.{ucschar, iprivate, iunreserved, ipchar}
use Rattle.uri_abnf.proofs.Elements.{has_char}
use Rattle.uri_abnf.proofs.Sets as Sets
use Rattle.uri_abnf.proofs.Tokens.{IsSetOf}

-- general facts on booleans
or_false : (a : Bool) → a ≡ (a || false)
or_false a = grind arith

or_swap : (a b c : Bool) → ((a || b) || c) ≡ ((a || c) || b)
or_swap a b c = grind arith

or_past : (low ascii more : Bool) → (more ≡ true → low ≡ false)
    → ((if low then ascii else false) || more) ≡ (if low then ascii else more)
or_past low ascii more h = grind arith

-- the wider expression has the characters of the other, and more
record Widens (more : ℕ → Bool) (g wide : Abnf) : Type 0 where
  chars : (c : ℕ) → has_char wide c ≡ (has_char g c || more c)

-- the same alternative may follow both
either-widens : (more : ℕ → Bool) (g wide a : Abnf) → Widens more g wide
    → Widens more (g ∣ a) (wide ∣ a)
either-widens more g wide a w = grind (arith, nat_tests, or_swap)

ucschar_is_past_ascii : (c : ℕ) → is_ucschar c ≡ true → nat_lt c 128 ≡ false
unfolding is_ucschar
ucschar_is_past_ascii c e = grind (arith, nat_tests)

iprivate_is_past_ascii : (c : ℕ) → is_iprivate c ≡ true → nat_lt c 128 ≡ false
unfolding is_iprivate
iprivate_is_past_ascii c e = grind (arith, nat_tests)

pub allowed_past_ascii_is_past_ascii : (set : TableSet) (c : ℕ) → allows_past_ascii set c ≡ true
    → nat_lt c 128 ≡ false
unfolding allows_past_ascii
allowed_past_ascii_is_past_ascii set c e =
    grind (arith, nat_tests, ucschar_is_past_ascii, iprivate_is_past_ascii)

widened-chars : (set : TableSet) (g wide : Abnf) → Widens (allows_past_ascii set) g wide
    → ((c : ℕ) → has_char g c ≡ (if nat_lt c 128 then set.ascii c else false))
    → (c : ℕ) → has_char wide c ≡ (if nat_lt c 128 then set.ascii c else allows_past_ascii set c)
widened-chars set g wide w ascii c =
    grind (arith, nat_tests, or_past, allowed_past_ascii_is_past_ascii)

module _ (set : TableSet) (ucs : set.ucschar ≡ true) (private : set.iprivate ≡ false) where
  only-ucschar : (c : ℕ) → is_ucschar c ≡ allows_past_ascii set c
  unfolding allows_past_ascii
  only-ucschar c = grind (arith, nat_tests, or_false)

  iunreserved-widens : Widens (allows_past_ascii set) unreserved iunreserved
  unfolding iunreserved unreserved ucschar is_ucschar
  iunreserved-widens = record { chars = λ c. ap (λ b. has_char unreserved c || b) (only-ucschar c) }

  ireg-name-widens : Widens (allows_past_ascii set) (unreserved ∣ pct-encoded ∣ sub-delims)
      (iunreserved ∣ pct-encoded ∣ sub-delims)
  ireg-name-widens = either-widens _ _ _ sub-delims
      (either-widens _ _ _ pct-encoded iunreserved-widens)

  ipchar-widens : Widens (allows_past_ascii set) pchar ipchar
  unfolding pchar ipchar
  ipchar-widens = record {
    chars = (either-widens _ _ _ (lit "@") (either-widens _ _ _ (lit ":") ireg-name-widens)).chars;
  }

private_joins : (a b c : Bool) → ((a || (b || false)) || c) ≡ (a || (b || c))
private_joins a b c = grind arith

iquery-widens : Widens (allows_past_ascii iquery_set) (pchar ∣ lit "/" ∣ lit "?")
    (ipchar ∣ iprivate ∣ lit "/" ∣ lit "?")
unfolding iprivate is_iprivate allows_past_ascii
iquery-widens = either-widens _ _ _ (lit "?") (either-widens _ _ _ (lit "/") (record {
  chars = λ c. ap (λ b. b || is_iprivate c) ((ipchar-widens ifragment_set refl refl).chars c)
      ∙ private_joins (has_char pchar c) (is_ucschar c) (is_iprivate c);
}))

pub ireg-name-set : IsSetOf (iunreserved ∣ pct-encoded ∣ sub-delims) ireg_name_set
unfolding ALPHA DIGIT unreserved sub-delims pct-encoded pchar iunreserved ipchar ucschar iprivate
    allows_past_ascii
ireg-name-set = record {
  element = search rules;
  chars = widened-chars ireg_name_set _ _
      (ireg-name-widens ireg_name_set refl refl) Sets.reg-name-set.chars;
  octets = refl;
  lacks = refl;
}

pub iuserinfo-set : IsSetOf (iunreserved ∣ pct-encoded ∣ sub-delims ∣ lit ":") iuserinfo_set
unfolding ALPHA DIGIT unreserved sub-delims pct-encoded pchar iunreserved ipchar ucschar iprivate
    allows_past_ascii
iuserinfo-set = record {
  element = search rules;
  chars = widened-chars iuserinfo_set _ _
      (either-widens _ _ _ (lit ":") (ireg-name-widens iuserinfo_set refl refl))
      Sets.userinfo-set.chars;
  octets = refl;
  lacks = refl;
}

pub ipchar-set : IsSetOf ipchar (international pchar_set)
unfolding ALPHA DIGIT unreserved sub-delims pct-encoded pchar iunreserved ipchar ucschar iprivate
    allows_past_ascii
ipchar-set = record {
  element = search rules;
  chars = widened-chars (international pchar_set) _ _
      (ipchar-widens (international pchar_set) refl refl) Sets.pchar-set.chars;
  octets = refl;
  lacks = refl;
}

pub isegment-nz-nc-set : IsSetOf (iunreserved ∣ pct-encoded ∣ sub-delims ∣ lit "@")
    isegment_nz_nc_set
unfolding ALPHA DIGIT unreserved sub-delims pct-encoded pchar iunreserved ipchar ucschar iprivate
    allows_past_ascii
isegment-nz-nc-set = record {
  element = search rules;
  chars = widened-chars isegment_nz_nc_set _ _
      (either-widens _ _ _ (lit "@") (ireg-name-widens isegment_nz_nc_set refl refl))
      Sets.segment-nz-nc-set.chars;
  octets = refl;
  lacks = refl;
}

pub ipath-set : IsSetOf (ipchar ∣ lit "/") ipath_set
unfolding ALPHA DIGIT unreserved sub-delims pct-encoded pchar iunreserved ipchar ucschar iprivate
    allows_past_ascii
ipath-set = record {
  element = search rules;
  chars = widened-chars ipath_set _ _ (either-widens _ _ _ (lit "/")
      (ipchar-widens ipath_set refl refl)) Sets.path-set.chars;
  octets = refl;
  lacks = refl;
}

pub ifragment-set : IsSetOf (ipchar ∣ lit "/" ∣ lit "?") ifragment_set
unfolding ALPHA DIGIT unreserved sub-delims pct-encoded pchar iunreserved ipchar ucschar iprivate
    allows_past_ascii
ifragment-set = record {
  element = search rules;
  chars = widened-chars ifragment_set _ _ (either-widens _ _ _ (lit "?")
      (either-widens _ _ _ (lit "/") (ipchar-widens ifragment_set refl refl)))
      Sets.fragment-set.chars;
  octets = refl;
  lacks = refl;
}

pub iquery-set : IsSetOf (ipchar ∣ iprivate ∣ lit "/" ∣ lit "?") iquery_set
unfolding ALPHA DIGIT unreserved sub-delims pct-encoded pchar iunreserved ipchar ucschar iprivate
    allows_past_ascii
iquery-set = record {
  element = search rules;
  chars = widened-chars iquery_set _ _ iquery-widens Sets.query-set.chars;
  octets = refl;
  lacks = refl;
}
