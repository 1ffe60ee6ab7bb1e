-- A name and a port are parsed to a mark exactly where what is cut out there is one.
use Rattle.uri_parts.proofs.Common.{◌≡◌, ℕ, suc, ◌+◌, ◌<◌, Bool, true, false, eqb, List, [], ◌∷◌, length, drop, All, refl, sym, ap, ◌∙◌, arith, ◌||◌, ◌&&◌, ⊎_elim, inl, inr, codes, is_some, IsUtf8, IsDigitOrDot, IsUtf8-take, cases_Bool, cond-true, cond-false, and_left, and_parts, or_right, eq-eqb, ne_eqb, eqb-true, false≢true, false_from_ne_true, nat_tests, TableSet, LacksPercent, IsSubset, digit_set, reg_name_set, is_one_of, is_valid_for, valid_prefix, after, excludes, cut, is_valid_for_is_scanned_to_end, empty_text_has_empty_valid_prefix, length_before_marks, AreAscii, first_mark_is_at_boundary, valid_prefix_passes_ascii_char_of_set, before_any, from_any, starts, Lacks, ipv4_value, is_empty_or_begins_with_any, port_length}
use Rattle.uri_parts.proofs.HostForms.Addresses.{ipv4_value-sound}
use Rattle.uri_parts.proofs.Authorities.Authority.{empty-text-lacks-marks}
use Rattle.uri_parts.proofs.Authorities.AuthorityCuts.{length-of-text-before-marks, drop-after-drop-of-one}
use Rattle.uri_parts.proofs.Splitting.Cuts.{IsEmptyOrMarked, text-is-cut-at-first-mark, before_any-at-mark, from_any-at-mark, before_any-past-other, from_any-past-other, text-after-other-byte-lacks-marks}
use Rattle.uri_parts.proofs.HostForms.Futures.{ipv4-text-is-digits-and-dots, digit_or_dot_is_reg_name_char}
use Rattle.uri_parts.proofs.HostForms.Hosts.{option-is-none-or-some}
use Rattle.uri_parts.proofs.TextKinds.GrammarTexts.{valid_text_lacks_excluded_marks}
use Rattle.uri_parts.proofs.Parsing.ScanStops.{scan-stops-at-first-mark-or-within, utf8_after_ascii_byte}
use Rattle.uri_parts.proofs.Authorities.WholeAuthorities.{is_unbracketed_host, is_empty_or_port}

-- general fact on booleans, for the tests of an authority
pub or-of-two-false-is-false : (x y : Bool) → (x || false) ≡ false → y ≡ false → (x || y) ≡ false
or-of-two-false-is-false true y a b = a
or-of-two-false-is-false false y a b = b

-- general fact on booleans, for tests of an authority
or-holds-if-first-does : (x y : Bool) → (x || false) ≡ true → (x || y) ≡ true
or-holds-if-first-does true y a = refl
or-holds-if-first-does false y a = absurd (false≢true a)

-- cutting authorities: cutting at some delimiters,
-- and at one more in what is before them, is cutting at all in either order
pub cut_at_further_mark : (mark : ℕ) (marks bs : List ℕ) →
    (before_any (mark ∷ []) (before_any marks bs) ≡ before_any (mark ∷ marks) bs)
    × (from_any (mark ∷ []) (before_any marks bs) ≡ before_any marks (from_any (mark ∷ marks) bs))
cut_at_further_mark mark marks [] = (refl, refl)
cut_at_further_mark mark marks (b ∷ bs) = ⊎_elim (λ o.
    let a : is_one_of (mark ∷ marks) b ≡ true = or_right (eqb mark b) (is_one_of marks b) o in
    let p = before_any-at-mark marks b bs o in (
      ap (before_any (mark ∷ [])) p ∙ sym (before_any-at-mark (mark ∷ marks) b bs a),
      ap (from_any (mark ∷ [])) p
          ∙ sym (ap (before_any marks) (from_any-at-mark (mark ∷ marks) b bs a) ∙ p),
    )) (λ o.
    let p = before_any-past-other marks b bs o in
    let rest : List ℕ = before_any marks bs in
    ⊎_elim (λ m.
    let a : is_one_of (mark ∷ marks) b ≡ true = or-holds-if-first-does (eqb mark b)
    (is_one_of marks b) m in (
      ap (before_any (mark ∷ [])) p ∙ before_any-at-mark (mark ∷ []) b rest m
          ∙ sym (before_any-at-mark (mark ∷ marks) b bs a),
      ap (from_any (mark ∷ [])) p ∙ from_any-at-mark (mark ∷ []) b rest m
          ∙ sym (ap (before_any marks) (from_any-at-mark (mark ∷ marks) b bs a) ∙ p),
    )) (λ m.
    let a : is_one_of (mark ∷ marks) b ≡ false = or-of-two-false-is-false (eqb mark b)
    (is_one_of marks b) m o in
    let more = cut_at_further_mark mark marks bs in (
      ap (before_any (mark ∷ [])) p ∙ before_any-past-other (mark ∷ []) b rest m
          ∙ ap (λ t. b ∷ t) more.0 ∙ sym (before_any-past-other (mark ∷ marks) b bs a),
      ap (from_any (mark ∷ [])) p ∙ from_any-past-other (mark ∷ []) b rest m ∙ more.1
          ∙ sym (ap (before_any marks) (from_any-past-other (mark ∷ marks) b bs a)),
    )) (cases_Bool (is_one_of (mark ∷ []) b))) (cases_Bool (is_one_of marks b))

-- cutting authorities: a text cut at delimiters begins
-- with another byte (mark) exactly if the text does
pub cut-text-begins-with-same-other-byte : (mark : ℕ) (marks : List ℕ) → is_one_of marks mark
    ≡ false → (bs : List ℕ) → starts mark (before_any marks bs) ≡ starts mark bs
cut-text-begins-with-same-other-byte mark marks none [] = refl
cut-text-begins-with-same-other-byte mark marks none (b ∷ bs) =
    grind (arith, nat_tests, before_any-at-mark, false_from_ne_true, before_any-past-other)

-- cutting authorities: what is before the first ASCII delimiter of a text in UTF-8 is UTF-8
pub utf8_before_marks : (marks bs : List ℕ) → AreAscii marks → IsUtf8 bs
    → IsUtf8 (before_any marks bs)
utf8_before_marks marks bs ascii u = IsUtf8-take bs _ u (first_mark_is_at_boundary marks ascii bs)

marked-text-is-empty-or-begins-with-any : (marks rest : List ℕ) → IsEmptyOrMarked marks rest
    → is_empty_or_begins_with_any marks rest ≡ true
unfolding is_empty_or_begins_with_any
marked-text-is-empty-or-begins-with-any marks [] b = refl
marked-text-is-empty-or-begins-with-any marks (c ∷ rest) b = b

scan-ends-at-mark-iff-cut-is-valid : (marks : List ℕ) (set : TableSet)
    → LacksPercent set → excludes set marks ≡ true → (bs : List ℕ) → IsUtf8 bs
    → is_empty_or_begins_with_any marks (after set bs) ≡ is_valid_for set (before_any marks bs)
unfolding is_empty_or_begins_with_any
scan-ends-at-mark-iff-cut-is-valid marks set lacks outside bs u =
    ⊎_elim (λ m. ap (λ n. is_empty_or_begins_with_any marks (drop n bs)) m
    ∙ marked-text-is-empty-or-begins-with-any marks (from_any marks bs)
    (text-is-cut-at-first-mark marks bs).begins ∙ sym (cut marks set lacks outside bs u
    ∙ eq-eqb _ _ m)) (λ w. ap (is_empty_or_begins_with_any marks) w.left
    ∙ w.other ∙ sym (cut marks set lacks outside bs u ∙ ne_eqb _ _ w.apart))
    (scan-stops-at-first-mark-or-within marks set lacks outside bs u)

-- authorities, parsed: `:` (58) does not end an authority
colon-ends-no-authority : (b : ℕ) → eqb b 58 ≡ true → is_one_of (codes "/?#") b ≡ false
colon-ends-no-authority b e = ap (is_one_of (codes "/?#")) (eqb-true b 58 e)

-- authorities, parsed: `:` (58) is ASCII
colon-is-ascii : (b : ℕ) → eqb b 58 ≡ true → b < 128
colon-is-ascii b e = let d = eqb-true b 58 e in omega arith

pub port-ends-at-mark-iff-cut-is-port : (bs : List ℕ) → IsUtf8 bs → is_empty_or_begins_with_any
    (codes "/?#") (drop (port_length bs) bs) ≡ is_empty_or_port (before_any (codes "/?#") bs)
unfolding is_empty_or_begins_with_any port_length is_empty_or_port
port-ends-at-mark-iff-cut-is-port [] u = refl
port-ends-at-mark-iff-cut-is-port (b ∷ bs) u = ⊎_elim
    (λ e. ap (λ n. is_empty_or_begins_with_any (codes "/?#") (drop n (b ∷ bs))) (cond-true _ _ _ e)
    ∙ ap (is_empty_or_begins_with_any (codes "/?#")) (sym (drop-after-drop-of-one
    (valid_prefix digit_set bs) (b ∷ bs))) ∙ scan-ends-at-mark-iff-cut-is-valid
    (codes "/?#") digit_set refl refl bs (utf8_after_ascii_byte b bs (colon-is-ascii b e) u) ∙ sym
    (ap is_empty_or_port (before_any-past-other (codes "/?#") b bs (colon-ends-no-authority b e))
    ∙ ap (λ t. t && is_valid_for digit_set (before_any (codes "/?#") bs)) e))
    (λ e. ap (λ n. is_empty_or_begins_with_any (codes "/?#") (drop n (b ∷ bs))) (cond-false _ _ _ e)
    ∙ ⊎_elim (λ o. o ∙ sym (ap is_empty_or_port (before_any-at-mark (codes "/?#") b bs o))) (λ o. o
    ∙ sym (ap is_empty_or_port (before_any-past-other (codes "/?#") b bs o) ∙ and_left _ _ e))
    (cases_Bool (is_one_of (codes "/?#") b))) (cases_Bool (eqb b 58))

-- authorities, parsed: where a port ends the authority, the parsed port is all that is cut out
pub port_length-of-whole-port : (bs : List ℕ) → IsUtf8 bs
    → is_empty_or_begins_with_any (codes "/?#") (drop (port_length bs) bs) ≡ true
    → port_length bs ≡ length (before_any (codes "/?#") bs)
unfolding is_empty_or_begins_with_any port_length
port_length-of-whole-port [] u h = refl
port_length-of-whole-port (b ∷ bs) u h = ⊎_elim (λ e.
    let past = cond-true (eqb b 58) (1 + valid_prefix digit_set bs) 0 e in
    let left : is_empty_or_begins_with_any (codes "/?#") (after digit_set bs) ≡ true =
    ap (is_empty_or_begins_with_any (codes "/?#"))
    (drop-after-drop-of-one (valid_prefix digit_set bs) (b ∷ bs))
    ∙ sym (ap (λ n. is_empty_or_begins_with_any (codes "/?#") (drop n (b ∷ bs))) past) ∙ h in
    let valid = sym (scan-ends-at-mark-iff-cut-is-valid (codes "/?#") digit_set refl refl bs
    (utf8_after_ascii_byte b bs (colon-is-ascii b e) u)) ∙ left in
    let m : valid_prefix digit_set bs ≡ length_before_marks (codes "/?#") bs =
    eqb-true _ _ (sym (cut (codes "/?#") digit_set refl refl bs
    (utf8_after_ascii_byte b bs (colon-is-ascii b e) u)) ∙ valid) in
    let l = length-of-text-before-marks (codes "/?#") bs in
    let n = ap length (before_any-past-other (codes "/?#") b bs (colon-ends-no-authority b e)) in
    past ∙ omega (arith, m, l, n)) (λ e.
    let none = cond-false (eqb b 58) (1 + valid_prefix digit_set bs) 0 e in
    let o : is_one_of (codes "/?#") b ≡ true =
    sym (ap (λ n. is_empty_or_begins_with_any (codes "/?#") (drop n (b ∷ bs))) none) ∙ h in
    none ∙ sym (ap length (before_any-at-mark (codes "/?#") b bs o))) (cases_Bool (eqb b 58))

-- authorities, parsed: a byte that is neither `:` nor a delimiter is not passed as a port
pub other_byte_begins_no_port : (b : ℕ) (bs : List ℕ) → is_one_of (codes ":/?#") b ≡ false
    → is_empty_or_begins_with_any (codes "/?#") (drop (port_length (b ∷ bs)) (b ∷ bs)) ≡ false
unfolding is_empty_or_begins_with_any port_length
other_byte_begins_no_port b bs o = grind (arith, nat_tests)

pub port-is-empty-or-begins-with-colon : (bs : List ℕ) → is_empty_or_port bs ≡ true
    → IsEmptyOrMarked (codes ":") bs
unfolding is_empty_or_port
port-is-empty-or-begins-with-colon [] h = tt
port-is-empty-or-begins-with-colon (b ∷ bs) h = ap (is_one_of (codes ":"))
    (eqb-true b 58 (and_parts _ _ h).0)

pub port-lacks-at-sign : (bs : List ℕ) → IsUtf8 bs → is_empty_or_port bs ≡ true
    → Lacks (codes "@") bs
unfolding is_empty_or_port
port-lacks-at-sign [] u h = empty-text-lacks-marks (codes "@")
port-lacks-at-sign (b ∷ bs) u h =
    let p = and_parts (eqb b 58) _ h in
    text-after-other-byte-lacks-marks (codes "@") b bs
    (ap (is_one_of (codes "@")) (eqb-true b 58 p.0)) (valid_text_lacks_excluded_marks digit_set
    (codes "@") refl refl bs (utf8_after_ascii_byte b bs (colon-is-ascii b p.0) u) p.1)

-- authorities, parsed: the characters of an IPv4 address are ASCII
digit-or-dot-is-ascii : (c : ℕ) → IsDigitOrDot c → c < 128
digit-or-dot-is-ascii c (inl range) = grind (arith, nat_tests)
digit-or-dot-is-ascii c (inr dot) = grind (arith, nat_tests)

module _ (names : TableSet) (lacks : LacksPercent names) (wide : IsSubset reg_name_set names) where
  digits-and-dots-are-scanned-as-name : (text : List ℕ) → All IsDigitOrDot text
      → valid_prefix names text ≡ length text
  digits-and-dots-are-scanned-as-name [] h = empty_text_has_empty_valid_prefix names
  digits-and-dots-are-scanned-as-name (c ∷ text) h =
      let d = h 0 0 (omega arith) in
      let one : valid_prefix names (c ∷ text) ≡ valid_prefix names text + 1 =
      valid_prefix_passes_ascii_char_of_set names lacks (c ∷ text) 0 (omega arith)
      (digit-or-dot-is-ascii c d) (wide.ascii c (digit_or_dot_is_reg_name_char c d)) in
      one ∙ omega (
        arith,
        digits-and-dots-are-scanned-as-name text (λ k d l. h (suc k) d (omega arith)),
      )

  pub unbracketed-host-iff-valid-name : (text : List ℕ)
      → IsUtf8 text → is_unbracketed_host names text ≡ is_valid_for names text
  unfolding is_unbracketed_host
  unbracketed-host-iff-valid-name text u =
      ⊎_elim (λ n. ap (λ o. is_some o || is_valid_for names text) n) (λ (octets, s). ap
      (λ o. is_some o || is_valid_for names text) s ∙ sym (is_valid_for_is_scanned_to_end names text
      lacks u ∙ eq-eqb _ _ (digits-and-dots-are-scanned-as-name text (ipv4-text-is-digits-and-dots
      text octets (ipv4_value-sound text octets s))))) (option-is-none-or-some (ipv4_value text))
