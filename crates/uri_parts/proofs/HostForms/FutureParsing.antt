-- An IPvFuture address in brackets is what is parsed after its `v`.
use Rattle.uri_parts.proofs.Common.{◌≡◌, ℕ, ◌+◌, ◌<◌, true, false, List, [], ◌∷◌, ◌++◌, length, drop, refl, sym, ap, subst, ◌∙◌, arith, ◌||◌, eqb, ⊎_elim, append_assoc, length-append, lit<, codes, is_some, IsUtf8, drop-append_seam, and_from, and_parts, lt-ltb, ltb-true, eq-eqb, eqb-true, both_ways, false≢true, false_from_ne_true, cases_Bool, nat_tests, TableSet, LacksPercent, is_one_of, hexdig_set, ipv_future_set, is_valid_for, valid_prefix, excludes, cut, length_before_marks, starts, before_any, from_any, Lacks, IsIpvFuture, ipv6_value, is_ipv_future, literal_length}
use Rattle.uri_parts.proofs.Parsing.Acceptance.{is_literal, parses_literal, parses_marked, length_to_mark, after_version, parses_future, future_length}
use Rattle.uri_parts.proofs.Authorities.AuthorityCuts.{length-of-text-before-marks, suffix}
use Rattle.uri_parts.proofs.HostForms.Addresses.{is_address_char, ipv6-text-is-address-text, address-text-begins-with-address-char, ipv6_value-sound}
use Rattle.uri_parts.proofs.HostForms.Futures.{is_ipv_future-complete, is_ipv_future-sound, ipvfuture-text-lacks-excluded-marks}
use Rattle.uri_parts.proofs.HostForms.Hosts.{option-is-none-or-some}
use Rattle.uri_parts.proofs.HostForms.LiteralTexts.{byte-118-or-86-is-version-letter, version-letter-byte-is-ascii}
use Rattle.uri_parts.proofs.Parsing.ScanStops.{scan-stops-at-first-mark-or-within, utf8_after_ascii_byte}
use Rattle.uri_parts.proofs.Splitting.Cuts.{text-is-cut-at-first-mark, cut-at-end-of-text-without-marks, before_any-past-other}
use Rattle.uri_parts.proofs.Splitting.Recompose.{text-with-mark-is-mark-and-rest}
use Rattle.uri_parts.proofs.TextKinds.GrammarTexts.{utf8_around_ascii_byte, valid_text_lacks_excluded_marks}

-- parsing IP literals: the text begins with some characters of the set, and then the mark
record IsMarked (set : TableSet) (mark : ℕ) (rest : List ℕ) : Type 0 where
  joined : List ℕ
  suffix : List ℕ
  whole : rest ≡ joined ++ (mark ∷ suffix)
  some : 0 < length joined
  valid : is_valid_for set joined ≡ true
  long : length_to_mark set rest ≡ length joined + 1
  left : drop (length_to_mark set rest) rest ≡ suffix

module _ (set : TableSet) (lacks : LacksPercent set) (mark : ℕ) (ascii : mark < 128)
    (outside : excludes set (mark ∷ []) ≡ true) where
  mark-is-one-of-itself : is_one_of (mark ∷ []) mark ≡ true
  mark-is-one-of-itself = ap (λ t. t || false) (eq-eqb mark mark refl)

  other-byte-is-not-mark : (b : ℕ) → is_one_of (mark ∷ []) b ≡ false → eqb b mark ≡ false
  other-byte-is-not-mark b e = grind (arith, nat_tests)

  suffix-is-left-after-mark : (joined suffix : List ℕ)
      → drop (length joined + 1) (joined ++ (mark ∷ suffix)) ≡ suffix
  suffix-is-left-after-mark joined suffix =
      ap (λ t. drop (length joined + 1) t) (sym (append_assoc joined (mark ∷ []) suffix))
      ∙ ap (λ n. drop n ((joined ++ (mark ∷ [])) ++ suffix))
      (sym (length-append joined (mark ∷ []))) ∙ drop-append_seam (joined ++ (mark ∷ [])) suffix

  -- the scan ends at the mark
  valid_prefix-ends-at-mark : (joined suffix : List ℕ) → IsUtf8 (joined ++ (mark ∷ suffix))
      → is_valid_for set joined ≡ true → valid_prefix set (joined ++ (mark ∷ suffix))
      ≡ length joined
  valid_prefix-ends-at-mark joined suffix u valid =
      let rest : List ℕ = joined ++ (mark ∷ suffix) in
      let spelt_lacks = valid_text_lacks_excluded_marks set (mark ∷ []) lacks outside joined
      (utf8_around_ascii_byte joined mark suffix ascii u).0 valid in
      let c = cut-at-end-of-text-without-marks (mark ∷ []) joined (mark ∷ suffix) spelt_lacks
      mark-is-one-of-itself in
      let m : valid_prefix set rest ≡ length_before_marks (mark ∷ []) rest = eqb-true _ _
      (sym (cut (mark ∷ []) set lacks outside rest u) ∙ ap (is_valid_for set) c.0 ∙ valid) in
      m ∙ sym (length-of-text-before-marks (mark ∷ []) rest) ∙ ap length c.0

  valid-text-and-mark-are-parsed : (joined suffix : List ℕ)
      → IsUtf8 (joined ++ (mark ∷ suffix)) → 0 < length joined
      → is_valid_for set joined ≡ true → (parses_marked set mark (joined ++ (mark ∷ suffix)) ≡ true)
      × (drop (length_to_mark set (joined ++ (mark ∷ suffix))) (joined ++ (mark ∷ suffix)) ≡ suffix)
  unfolding parses_marked length_to_mark
  valid-text-and-mark-are-parsed joined suffix u some valid =
      let n = valid_prefix-ends-at-mark joined suffix u valid in
      rw n (
        and_from _ _ (lt-ltb 0 _ some)
            (ap (starts mark) (drop-append_seam joined (mark ∷ suffix)) ∙ eq-eqb mark mark refl),
        suffix-is-left-after-mark joined suffix,
      )

  parsed-text-is-valid-up-to-mark : (rest : List ℕ)
      → IsUtf8 rest → parses_marked set mark rest ≡ true → IsMarked set mark rest
  unfolding parses_marked length_to_mark
  parsed-text-is-valid-up-to-mark rest u e =
      let p = and_parts _ _ e in
      ⊎_elim (λ m.
      let joined : List ℕ = before_any (mark ∷ []) rest in
      let from : List ℕ = from_any (mark ∷ []) rest in
      let n : valid_prefix set rest ≡ length joined = m
      ∙ sym (length-of-text-before-marks (mark ∷ []) rest) in
      let seen : starts mark from ≡ true = sym (ap (λ n. starts mark (drop n rest)) m) ∙ p.1 in
      let whole : rest ≡ joined ++ (mark ∷ drop 1 from) = sym
      (text-is-cut-at-first-mark (mark ∷ []) rest).whole
      ∙ ap (λ t. joined ++ t) (text-with-mark-is-mark-and-rest mark from seen) in
      record {
        joined = joined;
        suffix = drop 1 from;
        whole = whole;
        some = subst (λ n. 0 < n) n (ltb-true 0 _ p.0);
        valid = cut (mark ∷ []) set lacks outside rest u ∙ eq-eqb _ _ m;
        long = ap (λ n. n + 1) n;
        left = ap (λ n. drop (n + 1) rest) n ∙ ap (drop (length joined + 1)) whole
            ∙ suffix-is-left-after-mark joined (drop 1 from);
      }) (λ w. absurd
      (both_ways _ (ap (starts mark) w.left ∙ other-byte-is-not-mark w.byte w.other) p.1))
      (scan-stops-at-first-mark-or-within (mark ∷ []) set lacks outside rest u)

closed-ipvfuture-is-parsed-literal : (text tail : List ℕ) → Lacks (codes "]") text
    → is_ipv_future text ≡ true → (parses_literal (text ++ (93 ∷ tail)) ≡ true)
    × (literal_length (text ++ (93 ∷ tail)) ≡ length text + 1)
unfolding is_literal parses_literal literal_length
closed-ipvfuture-is-parsed-literal text tail lacks future =
    grind (arith, nat_tests, cut-at-end-of-text-without-marks)

module _ (letter : ℕ) (v : (eqb letter 118 || eqb letter 86) ≡ true) where
  version-letter-is-no-bracket : is_one_of (codes "]") letter ≡ false
  version-letter-is-no-bracket = grind (arith, nat_tests)

  version-letter-is-no-address-char : is_address_char letter ≡ true → ⊥
  unfolding is_address_char
  version-letter-is-no-address-char e = grind (arith, nat_tests)

  -- no IPv6 address begins so
  literal-with-version-letter-is-ipvfuture : (text : List ℕ) → is_literal (letter ∷ text) ≡ true
      → is_ipv_future (letter ∷ text) ≡ true
  unfolding is_literal
  literal-with-version-letter-is-ipvfuture text e =
      ⊎_elim (λ n. subst (λ o. (is_some o || is_ipv_future (letter ∷ text)) ≡ true) n e)
      (λ (segments, s). absurd (version-letter-is-no-address-char
      (address-text-begins-with-address-char letter text (ipv6-text-is-address-text
      (letter ∷ text) segments (ipv6_value-sound (letter ∷ text) segments s)))))
      (option-is-none-or-some (ipv6_value (letter ∷ text)))

  module _ (rest : List ℕ) (u : IsUtf8 (letter ∷ rest)) where
    text-after-version-letter-is-utf8 : IsUtf8 rest
    text-after-version-letter-is-utf8 = utf8_after_ascii_byte letter rest
        (version-letter-byte-is-ascii letter v) u

    -- what is parsed is an address with a `]` after it
    parsed-ipvfuture-is-parsed-literal : parses_future rest ≡ true → (parses_literal (letter ∷ rest)
        ≡ true) × (literal_length (letter ∷ rest) ≡ 1 + future_length rest)
    unfolding parses_future future_length
    parsed-ipvfuture-is-parsed-literal e =
        let p = and_parts _ _ e in
        let version = parsed-text-is-valid-up-to-mark hexdig_set refl 46
        (lit< tt) refl rest text-after-version-letter-is-utf8 p.0 in
        let after_u = (utf8_around_ascii_byte version.joined 46 version.suffix
        (lit< tt) (subst IsUtf8 version.whole text-after-version-letter-is-utf8)).1 in
        let left_u = subst IsUtf8 (sym version.left) after_u in
        let address = parsed-text-is-valid-up-to-mark ipv_future_set refl 93
        (lit< tt) refl (after_version rest) left_u p.1 in
        let text : List ℕ = letter ∷ version.joined ++ (46 ∷ address.joined) in
        let whole : letter ∷ rest ≡ text ++ (93 ∷ address.suffix) = ap (λ t. letter ∷ t)
        (version.whole ∙ ap (λ t. version.joined ++ (46 ∷ t)) (sym version.left ∙ address.whole)
        ∙ sym (append_assoc version.joined (46 ∷ address.joined) (93 ∷ address.suffix))) in
        let text_u = (utf8_around_ascii_byte text 93 address.suffix (lit< tt)
        (subst IsUtf8 whole u)).0 in
        let future : IsIpvFuture text = record {
          letter = letter;
          version = version.joined;
          address = address.joined;
          whole = refl;
          is_v = byte-118-or-86-is-version-letter letter v;
          version_digits = (version.some, version.valid);
          address_chars = (address.some, address.valid);
        } in
        let c = closed-ipvfuture-is-parsed-literal text address.suffix
        (ipvfuture-text-lacks-excluded-marks (codes "]") refl text text_u future)
        (is_ipv_future-complete text text_u future) in
        let size : length text ≡ 1 + length version.joined + 1 + length address.joined =
        omega (arith, length-append version.joined (46 ∷ address.joined)) in (
          ap parses_literal whole ∙ c.0,
          ap literal_length whole ∙ c.1 ∙ omega (arith, size, version.long, address.long),
        )

    -- an address with a `]` after it is parsed
    literal-with-version-letter-parses-as-ipvfuture : parses_literal (letter ∷ rest) ≡ true
        → parses_future rest ≡ true
    unfolding parses_future parses_literal
    literal-with-version-letter-parses-as-ipvfuture e =
        let p = and_parts _ _ e in
        let before : List ℕ = before_any (codes "]") rest in
        let from : List ℕ = from_any (codes "]") (letter ∷ rest) in
        let apart = before_any-past-other (codes "]") letter rest version-letter-is-no-bracket in
        let literal = subst (λ t. is_literal t ≡ true) apart p.1 in
        let future = is_ipv_future-sound (letter ∷ before)
        (literal-with-version-letter-is-ipvfuture before literal) in
        let version : List ℕ = future.version in
        let address : List ℕ = future.address in
        let tail : List ℕ = drop 1 from in
        let whole : rest ≡ version ++ (46 ∷ address ++ (93 ∷ tail)) =
        ap (drop 1) (sym (text-is-cut-at-first-mark (codes "]") (letter ∷ rest)).whole
        ∙ ap (λ t. t ++ from) (apart ∙ future.whole) ∙ ap (λ t. (future.letter
        ∷ version ++ (46 ∷ address)) ++ t) (text-with-mark-is-mark-and-rest 93 from p.0))
        ∙ append_assoc version (46 ∷ address) (93 ∷ tail) in
        let rest_u = subst IsUtf8 whole text-after-version-letter-is-utf8 in
        let after_u = (utf8_around_ascii_byte version 46 (address ++ (93 ∷ tail))
        (lit< tt) rest_u).1 in
        let first = valid-text-and-mark-are-parsed hexdig_set refl 46 (lit< tt) refl version
        (address ++ (93 ∷ tail)) rest_u future.version_digits.0 future.version_digits.1 in
        let second = valid-text-and-mark-are-parsed ipv_future_set refl 93
        (lit< tt) refl address tail after_u future.address_chars.0 future.address_chars.1 in
        rw (whole, first.1) (and_from _ _ first.0 second.0)

-- parsing IP literals: one that begins with `v` (118) or `V` (86) is parsed as an IPvFuture address
version-letter-makes-literal-ipvfuture : (text : List ℕ) → IsUtf8 text → (starts 118 text
    || starts 86 text) ≡ true → (parses_literal text ≡ parses_future (drop 1 text))
    × (parses_future (drop 1 text) ≡ true → literal_length text ≡ 1 + future_length (drop 1 text))
version-letter-makes-literal-ipvfuture [] u v = absurd (false≢true v)
version-letter-makes-literal-ipvfuture (letter ∷ rest) u v = (
  ⊎_elim (λ e. (parsed-ipvfuture-is-parsed-literal letter v rest u e).0 ∙ sym e)
      (λ e. false_from_ne_true _ (λ h. both_ways _ e
      (literal-with-version-letter-parses-as-ipvfuture letter v rest u h)) ∙ sym e)
      (cases_Bool (parses_future rest)),
  λ e. (parsed-ipvfuture-is-parsed-literal letter v rest u e).1,
)

module _ (text : List ℕ) (start : ℕ) (u : IsUtf8 (drop start text))
    (v : (starts 118 (drop start text) || starts 86 (drop start text)) ≡ true) where
  text-after-letter-at-position : drop 1 (drop start text) ≡ drop (start + 1) text
  text-after-letter-at-position = suffix start 1 text

  pub literal-at-position-parses-as-ipvfuture : parses_literal (drop start text)
      ≡ parses_future (drop (start + 1) text)
  literal-at-position-parses-as-ipvfuture =
      grind (arith, version-letter-makes-literal-ipvfuture, start, text-after-letter-at-position)

  pub length-of-ipvfuture-at-position : parses_future (drop (start + 1) text) ≡ true
      → literal_length (drop start text) ≡ 1 + future_length (drop (start + 1) text)
  length-of-ipvfuture-at-position e = (version-letter-makes-literal-ipvfuture
      (drop start text) u v).1 (ap parses_future text-after-letter-at-position ∙ e)
      ∙ ap (λ t. 1 + future_length t) text-after-letter-at-position
