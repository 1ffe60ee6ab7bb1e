-- The errors of an address in brackets.
use Rattle.uri_parts.proofs.Common.{◌≡◌, ℕ, ◌+◌, ◌-◌, ◌<◌, true, false, List, [], ◌∷◌, ◌++◌, length, drop, get_or, Some, None, refl, sym, ap, ◌∙◌, arith, ◌||◌, ⊎_elim, get_or-drop, add-zero, length-append, length-drop, Ok, Err, is_ok, option_map, codes, IsColonHex, read_ipv6, digit_count, cond-true, cond-false, cases_Bool, not_from_true, not_from_false, false≢true, nat_tests, full_stop, right_bracket, is_one_of, hexdig_set, ipv_future_set, starts, unexpected, malformed_ipv6, closed, literal, ipv6_end, cannot_begin_ipv6, scan_to_mark, map_some, read_ipv6_sound, none-some}
use Rattle.uri_parts.proofs.Parsing.Acceptance.{parses_literal, is_literal}
use Rattle.uri_parts.proofs.HostForms.Addresses.{ipv6_value-complete}
use Rattle.uri_parts.proofs.HostForms.Futures.{ipv6-text-lacks-excluded-marks}
use Rattle.uri_parts.proofs.HostForms.Ipv6Literals.{text-with-bracket-is-empty-or-marked, text-after-ipv6-at-position}
use Rattle.uri_parts.proofs.Splitting.Cuts.{cut-at-end-of-text-without-marks}
use Rattle.uri_parts.proofs.Refusals.Complete.{ipv6_end-finds-ipv6-before-bracket, cannot_begin_ipv6-has-no-end}
use Rattle.uri_parts.proofs.Refusals.Sound.{ipv6_end-before-bracket-ends-ipv6}

-- parse errors: what begins with `v` (118) or `V` (86) begins
-- neither with `:` nor with a hexadecimal digit
text-with-version-letter-begins-no-group : (text : List ℕ)
    → (starts 118 text || starts 86 text) ≡ true → (is_one_of (codes "vV") (get_or text 0 0) ≡ true)
    × (starts 58 text ≡ false) × (digit_count 16 text ≡ 0)
text-with-version-letter-begins-no-group [] e = absurd (false≢true e)
text-with-version-letter-begins-no-group (b ∷ text) e = grind (arith, nat_tests, cond-false)

-- parse errors: the first byte of a text that begins neither with 118 nor 86 is no `v`
text-begins-with-no-version-letter : (text : List ℕ) → (starts 118 text || starts 86 text) ≡ false
    → is_one_of (codes "vV") (get_or text 0 0) ≡ false
text-begins-with-no-version-letter [] e = refl
text-begins-with-no-version-letter (b ∷ text) e = grind (arith, nat_tests)

-- parse errors: a text that begins with `]` (93) is not empty
pub text-with-bracket-is-nonempty : (xs : List ℕ) → starts 93 xs ≡ true → 0 < length xs
text-with-bracket-is-nonempty [] e = absurd (false≢true e)
text-with-bracket-is-nonempty (x ∷ xs) e = omega arith

-- parse errors: an IPv6 address and `]` (93) after it are parsed as a literal
ipv6-text-and-bracket-are-parsed : (rest prefix suffix segments : List ℕ) → rest ≡ prefix ++ suffix
    → IsColonHex prefix segments → starts 93 suffix ≡ true → parses_literal rest ≡ true
unfolding is_literal parses_literal
ipv6-text-and-bracket-are-parsed rest prefix suffix segments whole groups closed =
    let cut = cut-at-end-of-text-without-marks (codes "]") prefix suffix
    (ipv6-text-lacks-excluded-marks (codes "]") refl prefix segments groups)
    (text-with-bracket-is-empty-or-marked suffix closed) in
    rw (whole, cut.0, cut.1, closed, ipv6_value-complete prefix segments groups) refl

module _ (text : List ℕ) (i : ℕ) where
  first-byte-of-suffix-at-position : get_or (drop i text) 0 0 ≡ get_or text i 0
  first-byte-of-suffix-at-position = rw (get_or-drop i text 0 0, add-zero) refl

  pub version-letter-begins-no-ipv6 : (starts 118 (drop i text) || starts 86 (drop i text)) ≡ true
      → cannot_begin_ipv6 text i ≡ true
  unfolding cannot_begin_ipv6
  version-letter-begins-no-ipv6 e =
      grind (arith, nat_tests, text-with-version-letter-begins-no-group, not_from_false)

  pub literal-with-version-letter-scans-ipvfuture : (starts 118 (drop i text)
      || starts 86 (drop i text)) ≡ true → literal text i ≡ scan_to_mark text hexdig_set full_stop
      (scan_to_mark text ipv_future_set right_bracket (λ end. Ok end)) (i + 1)
  unfolding literal
  literal-with-version-letter-scans-ipvfuture e =
      cond-false _ _ _ (not_from_true _ (version-letter-begins-no-ipv6 e))
      ∙ cond-true _ _ _ (ap (is_one_of (codes "vV")) (sym first-byte-of-suffix-at-position)
      ∙ (text-with-version-letter-begins-no-group (drop i text) e).0)

  pub literal-without-address-is-unexpected : (starts 118 (drop i text) || starts 86 (drop i text))
      ≡ false → cannot_begin_ipv6 text i ≡ true → literal text i ≡ Err (unexpected i)
  unfolding literal
  literal-without-address-is-unexpected e none = cond-false _ _ _ (not_from_true _ none)
      ∙ cond-false _ _ _ (ap (is_one_of (codes "vV")) (sym first-byte-of-suffix-at-position)
      ∙ text-begins-with-no-version-letter (drop i text) e)

  literal-is-closed-at-ipv6_end : cannot_begin_ipv6 text i ≡ false → literal text i
      ≡ closed text i (ipv6_end text i)
  unfolding literal
  literal-is-closed-at-ipv6_end some = cond-true _ _ _ (not_from_false _ some)

  pub literal-malformed-ipv6 : cannot_begin_ipv6 text i ≡ false → ipv6_end text i ≡ None
      → literal text i ≡ Err (malformed_ipv6 i)
  literal-malformed-ipv6 some e = literal-is-closed-at-ipv6_end some ∙ ap (closed text i) e

  -- what is read so with a `]` after it is parsed
  read-ipv6-with-bracket-is-parsed : (end : ℕ) → ipv6_end text i ≡ Some end
      → starts 93 (drop end text) ≡ true → parses_literal (drop i text) ≡ true
  read-ipv6-with-bracket-is-parsed end e c =
      let w = ipv6_end-before-bracket-ends-ipv6 text i end e c in
      ipv6-text-and-bracket-are-parsed (drop i text) w.address (drop end text) w.segments
      w.split w.is c

  pub literal-unclosed-ipv6 : (end : ℕ) → cannot_begin_ipv6 text i ≡ false → ipv6_end text i
      ≡ Some end → is_ok (literal text i) ≡ false → literal text i ≡ Err (unexpected end)
  literal-unclosed-ipv6 end some e none = grind (arith, nat_tests, literal-is-closed-at-ipv6_end)

  pub literal-rejects-unparsed : (starts 118 (drop i text) || starts 86 (drop i text)) ≡ false
      → parses_literal (drop i text) ≡ false → is_ok (literal text i) ≡ false
  literal-rejects-unparsed no_ipv6 none =
      grind (
        arith,
        literal-without-address-is-unexpected,
        literal-is-closed-at-ipv6_end,
        read-ipv6-with-bracket-is-parsed,
      )

-- parse errors: an IPv6 address with `]` (93) after it is a literal that ends after this
pub literal-ends-after-read-ipv6 : (text suffix : List ℕ) (i : ℕ)
    → Some suffix ≡ option_map (λ p. p.1) (read_ipv6 (drop i text)) → starts 93 suffix ≡ true
    → literal text i ≡ Ok (length text - length suffix + 1)
literal-ends-after-read-ipv6 text suffix i e c =
    map_some (λ p. p.1) (read_ipv6 (drop i text)) suffix (sym e) λ p found same.
    let (prefix, split, groups) = read_ipv6_sound (drop i text) p.0 p.1 found in
    let whole : drop i text ≡ prefix ++ suffix = split ∙ ap (λ t. prefix ++ t) same in
    let end : ℕ = length text - length suffix in
    let some : 0 < length suffix = text-with-bracket-is-nonempty suffix c in
    let size = ap length whole ∙ length-append prefix suffix in
    let long = length-drop i text in
    let at_end : suffix ≡ drop end text = text-after-ipv6-at-position text suffix i
    (omega (arith, size, long)) e in
    let closed_at = ap (starts 93) (sym at_end) ∙ c in
    let found_end = ipv6_end-finds-ipv6-before-bracket text i end prefix p.0 groups
    (omega (arith, size, long)) (whole ∙ ap (λ t. prefix ++ t) at_end) closed_at in
    let some_read : cannot_begin_ipv6 text i ≡ false = ⊎_elim
    (λ n. absurd (none-some end (sym (cannot_begin_ipv6-has-no-end text i n) ∙ found_end)))
    (λ n. n) (cases_Bool (cannot_begin_ipv6 text i)) in
    literal-is-closed-at-ipv6_end text i some_read ∙ ap (closed text i) found_end
    ∙ cond-true _ _ _ closed_at
