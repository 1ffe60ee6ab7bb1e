-- The test of an IPvFuture address is its grammar; and what no address in brackets holds.
use Rattle.uri_parts.proofs.Common.{◌≡◌, ℕ, zero, suc, ◌<◌, ◌^◌, Bool, true, false, not, eqb, ltb, List, [], ◌∷◌, ◌++◌, length, get_or, All, refl, sym, ap, subst, ◌∙◌, arith, ◌&&◌, inl, inr, codes, IsUtf8, is_ascii_hexdigit, IsDotted, IsColonHex, All-nil, All-cons, All-append, IsDigitOrDot, All-ipv4_text, and_from, and_parts, lt-ltb, false≢true, nat_tests, TableSet, LacksPercent, is_one_of, hexdig_set, reg_name_set, ipv_future_set, is_userinfo_char, is_reg_name_char, is_valid_for, excludes, excluded_mark_is_not_in_set, Lacks, IsIpvFuture, is_ipv_future, is_future_address}
use Rattle.uri_parts.proofs.Splitting.Cuts.{cut-at-end-of-text-without-marks, text-is-cut-at-first-mark}
use Rattle.uri_parts.proofs.Parsing.ScanStops.{utf8_after_ascii_byte}
use Rattle.uri_parts.proofs.TextKinds.GrammarTexts.{utf8_around_ascii_byte, valid_text_lacks_excluded_marks}
use Rattle.uri_parts.proofs.HostForms.Addresses.{is_address_char, ipv6-text-is-address-text, address-text-lacks-other-marks}
use Rattle.uri_parts.proofs.Splitting.Recompose.{text-with-mark-is-mark-and-rest}

-- hosts: the `v` of an IPvFuture address is ASCII
pub version-letter-is-ascii : (c : ℕ) → is_one_of (codes "vV") c ≡ true → c < 128
version-letter-is-ascii c e = grind (arith, nat_tests)

-- parsing hosts: an IPvFuture address of the grammar passes the test
pub is_ipv_future-complete : (text : List ℕ) → IsUtf8 text → IsIpvFuture text
    → is_ipv_future text ≡ true
unfolding is_ipv_future
is_ipv_future-complete text u h =
    let tail : List ℕ = h.version ++ 46 ∷ h.address in
    let apart = utf8_around_ascii_byte h.version 46 h.address (omega arith)
    (utf8_after_ascii_byte h.letter tail (version-letter-is-ascii h.letter h.is_v)
    (subst IsUtf8 h.whole u)) in
    let cut = cut-at-end-of-text-without-marks (codes ".") h.version (46 ∷ h.address)
    (valid_text_lacks_excluded_marks hexdig_set (codes ".") refl refl h.version apart.0
    h.version_digits.1) refl in
    ap is_ipv_future h.whole ∙ and_from _ _ h.is_v (and_from _ _
    (ap (λ t. ltb 0 (length t) && is_valid_for hexdig_set t) cut.0
    ∙ and_from _ _ (lt-ltb 0 _ h.version_digits.0) h.version_digits.1)
    (ap is_future_address cut.1 ∙ and_from _ _ (lt-ltb 0 _ h.address_chars.0) h.address_chars.1))

-- parsing hosts: what passes the test of an IPvFuture address is of the grammar
pub is_ipv_future-sound : (text : List ℕ) → is_ipv_future text ≡ true → IsIpvFuture text
unfolding is_ipv_future
is_ipv_future-sound [] e = absurd (false≢true e)
is_ipv_future-sound (letter ∷ rest) e =
    grind (arith, nat_tests, text-is-cut-at-first-mark, text-with-mark-is-mark-and-rest)

address-char-is-userinfo-char : (c : ℕ) → is_address_char c ≡ true → is_userinfo_char c ≡ true
unfolding is_address_char
address-char-is-userinfo-char c e = grind (arith, nat_tests)

-- hosts: a hexadecimal digit may be in userinfo
pub hexdigit_is_userinfo_char : (c : ℕ) → is_ascii_hexdigit c ≡ true → is_userinfo_char c ≡ true
hexdigit_is_userinfo_char c e = grind (arith, nat_tests)

-- hosts: the `v` of an IPvFuture address may be in userinfo
version-letter-is-userinfo-char : (c : ℕ) → is_one_of (codes "vV") c ≡ true
    → is_userinfo_char c ≡ true
version-letter-is-userinfo-char c e = grind (arith, nat_tests)

-- hosts: the characters of an IPv4 address may be in a registered name
pub digit_or_dot_is_reg_name_char : (c : ℕ) → IsDigitOrDot c → is_reg_name_char c ≡ true
digit_or_dot_is_reg_name_char c (inl range) = grind (arith, nat_tests)
digit_or_dot_is_reg_name_char c (inr dot) = grind (arith, nat_tests)

-- hosts, delimiters: another byte is a text without these delimiters
other-byte-lacks-marks : (marks : List ℕ) (c : ℕ) → is_one_of marks c ≡ false → Lacks marks (c ∷ [])
other-byte-lacks-marks marks c e = All-cons (λ c. is_one_of marks c ≡ false) c [] e
    (All-nil (λ c. is_one_of marks c ≡ false))

-- hosts, delimiters: if two texts lack some delimiters, one after the other lacks them
pub joined-texts-lack-marks : (marks xs ys : List ℕ) → Lacks marks xs → Lacks marks ys
    → Lacks marks (xs ++ ys)
joined-texts-lack-marks marks xs ys h k = All-append (λ c. is_one_of marks c ≡ false) xs ys h k

-- hosts, delimiters: a text of bytes that are no delimiters (by a property P) lacks them
text-of-unmarked-bytes-lacks-marks : (marks : List ℕ) (P : ℕ → Type 0)
    → ((c : ℕ) → P c → is_one_of marks c ≡ false) → (text : List ℕ) → All P text → Lacks marks text
text-of-unmarked-bytes-lacks-marks marks P unmarked text h k d l = unmarked _ (h k d l)

four-octets-fit-eight-bits : (a b c d : ℕ) → a < 256 → b < 256 → c < 256 → d < 256 → (k : ℕ)
    → get_or (a ∷ b ∷ c ∷ d ∷ []) k 0 < 2 ^ 8
four-octets-fit-eight-bits a b c d p q r s zero = p
four-octets-fit-eight-bits a b c d p q r s (suc zero) = q
four-octets-fit-eight-bits a b c d p q r s (suc (suc zero)) = r
four-octets-fit-eight-bits a b c d p q r s (suc (suc (suc zero))) = s
four-octets-fit-eight-bits a b c d p q r s (suc (suc (suc (suc k)))) = omega arith

-- hosts, delimiters: a character that a set has is none of the delimiters that it excludes
unmarked : (set : TableSet) (marks : List ℕ)
    → excludes set marks ≡ true → (c : ℕ) → set.ascii c ≡ true → is_one_of marks c ≡ false
unmarked set marks outside c e = grind (arith, nat_tests, excluded_mark_is_not_in_set)

-- hosts: an IPv4 address is digits and dots
pub ipv4-text-is-digits-and-dots : (text octets : List ℕ) → IsDotted text octets
    → All IsDigitOrDot text
ipv4-text-is-digits-and-dots text octets h =
    let fits = four-octets-fit-eight-bits h.a h.b h.c h.d h.fit.0 h.fit.1 h.fit.2 h.fit.3 in
    subst (All IsDigitOrDot) (sym h.spelled) (All-ipv4_text (h.a ∷ h.b ∷ h.c ∷ h.d ∷ []) fits)

-- hosts: an IPv4 address has no delimiter that a registered name cannot have
pub ipv4-text-lacks-name-marks : (marks : List ℕ) → excludes reg_name_set marks ≡ true
    → (text octets : List ℕ) → IsDotted text octets → Lacks marks text
ipv4-text-lacks-name-marks marks outside text octets h =
    text-of-unmarked-bytes-lacks-marks marks IsDigitOrDot
    (λ c d. unmarked reg_name_set marks outside c (digit_or_dot_is_reg_name_char c d)) text
    (ipv4-text-is-digits-and-dots text octets h)

-- hosts: `%` is no character of an IPvFuture address
ipv_future_set-lacks-percent : LacksPercent ipv_future_set
ipv_future_set-lacks-percent = refl

-- general fact on booleans, for tests of an IPvFuture address
and-of-four-without-second : (a b c d : Bool) → (a && (b && (c && d))) ≡ true
    → (a && (c && (c && d))) ≡ true
and-of-four-without-second true true true true e = refl
and-of-four-without-second true true true false e = e
and-of-four-without-second true true false d e = e
and-of-four-without-second true false c d e = absurd (false≢true e)
and-of-four-without-second false b c d e = e

-- hosts: hexadecimal digits are none of the delimiters that an IPvFuture address cannot have
hexdig_set-excludes-marks-of-ipv_future_set : (marks : List ℕ)
    → excludes ipv_future_set marks ≡ true → excludes hexdig_set marks ≡ true
hexdig_set-excludes-marks-of-ipv_future_set [] e = refl
hexdig_set-excludes-marks-of-ipv_future_set (mark ∷ marks) e =
    let p = and_parts _ _ e in
    and_from _ _ (and-of-four-without-second (ltb mark 128) (not (is_userinfo_char mark))
    (not (is_ascii_hexdigit mark)) (not (eqb mark 37)) p.0)
    (hexdig_set-excludes-marks-of-ipv_future_set marks p.1)

module _ (marks : List ℕ) (outside : excludes ipv_future_set marks ≡ true) where
  userinfo-char-is-no-excluded-mark : (c : ℕ) → is_userinfo_char c ≡ true
      → is_one_of marks c ≡ false
  userinfo-char-is-no-excluded-mark c e = unmarked ipv_future_set marks outside c e

  pub ipv6-text-lacks-excluded-marks : (text segments : List ℕ) → IsColonHex text segments
      → Lacks marks text
  ipv6-text-lacks-excluded-marks text segments h = address-text-lacks-other-marks marks
      (λ c e. userinfo-char-is-no-excluded-mark c (address-char-is-userinfo-char c e)) text
      (ipv6-text-is-address-text text segments h)

  dot-is-userinfo-char : is_userinfo_char 46 ≡ true
  dot-is-userinfo-char = refl

  hex-digits-lack-excluded-marks : (text : List ℕ) → IsUtf8 text → is_valid_for hexdig_set text
      ≡ true → Lacks marks text
  hex-digits-lack-excluded-marks text u valid = valid_text_lacks_excluded_marks
      hexdig_set marks refl (hexdig_set-excludes-marks-of-ipv_future_set marks outside) text u valid

  pub ipvfuture-text-lacks-excluded-marks : (text : List ℕ) → IsUtf8 text → IsIpvFuture text
      → Lacks marks text
  ipvfuture-text-lacks-excluded-marks text u h =
      let tail : List ℕ = h.version ++ 46 ∷ h.address in
      let apart = utf8_around_ascii_byte h.version 46 h.address (omega arith) (utf8_after_ascii_byte
      h.letter tail (version-letter-is-ascii h.letter h.is_v) (subst IsUtf8 h.whole u)) in
      let letter = other-byte-lacks-marks marks h.letter (userinfo-char-is-no-excluded-mark h.letter
      (version-letter-is-userinfo-char h.letter h.is_v)) in
      let dot = other-byte-lacks-marks marks 46
      (userinfo-char-is-no-excluded-mark 46 dot-is-userinfo-char) in
      let version = hex-digits-lack-excluded-marks h.version apart.0 h.version_digits.1 in
      let address = valid_text_lacks_excluded_marks ipv_future_set
      marks ipv_future_set-lacks-percent outside h.address apart.1 h.address_chars.1 in
      subst (Lacks marks) (sym h.whole) (joined-texts-lack-marks marks (h.letter ∷ h.version)
      (46 ∷ h.address) (joined-texts-lack-marks marks (h.letter ∷ []) h.version letter version)
      (joined-texts-lack-marks marks (46 ∷ []) h.address dot address))
