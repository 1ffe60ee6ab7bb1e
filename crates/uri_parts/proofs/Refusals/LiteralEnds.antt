-- An address in brackets ends where it is cut, and has an error exactly where it is none.
use Rattle.uri_parts.proofs.Common.{◌≡◌, ℕ, ◌+◌, ◌-◌, Bool, true, false, cond, List, drop, refl, sym, ap, ◌∙◌, arith, ◌&&◌, ◌||◌, ⊎_elim, length-drop, add_assoc, Ok, Err, is_ok, codes, nat_lt, length, IsUtf8, IsCharBoundary, drop-drop, cond-true, cond-false, cases_Bool, false≢true, same_Some, result_ok, IsUtf8-drop, nat_tests, full_stop, right_bracket, hexdig_set, ipv_future_set, ParseError, starts, from_any, unexpected, literal, ScanResult, scan_end, scan_to_mark, literal_length}
use Rattle.uri_parts.proofs.Parsing.Acceptance.{parses_literal, parses_marked, length_to_mark, parses_future, future_length}
use Rattle.uri_parts.proofs.HostForms.FutureParsing.{literal-at-position-parses-as-ipvfuture, length-of-ipvfuture-at-position}
use Rattle.uri_parts.proofs.HostForms.LiteralFaults.{literal_error_is_in_text}
use Rattle.uri_parts.proofs.HostForms.Ipv6Literals.{ipv6-and-bracket-are-parsed-literal, literal_is_ipv6_and_bracket, text-after-ipv6-is-suffix}
use Rattle.uri_parts.proofs.Refusals.Literals.{literal-with-version-letter-scans-ipvfuture, literal-rejects-unparsed, literal-ends-after-read-ipv6, text-with-bracket-is-nonempty}

-- parse errors: an IP literal ends there, or the result is some error
abbrev pub Ends : Bool → ℕ → ScanResult → Type 0
Ends parses end r = (e : ParseError) × (r ≡ cond parses (Ok end) (Err e))

failed-result-has-no-end : (r : ScanResult) (end : ℕ) → is_ok r ≡ false → Ends false end r
failed-result-has-no-end (Ok n) end e = absurd (false≢true (sym e))
failed-result-has-no-end (Err x) end e = (x, refl)

nested-tests-are-one-and : (p q : Bool) (end : ℕ) (d e : ParseError)
    → cond p (cond q (Ok end) (Err d)) (Err e) ≡ cond (p && q) (Ok end) (Err (cond p d e))
nested-tests-are-one-and true q end d e = refl
nested-tests-are-one-and false q end d e = refl

same-test-and-end-give-same-result : (p q : Bool) (m n : ℕ) (e : ParseError)
    → q ≡ p → (p ≡ true → n ≡ m) → cond p (Ok m) (Err e) ≡ cond q (Ok n) (Err e)
same-test-and-end-give-same-result p q m n e s h = grind (arith, nat_tests)

later-position-iff-some-passed : (i n : ℕ) → nat_lt i (i + n) ≡ nat_lt 0 n
later-position-iff-some-passed i n = grind (arith, nat_tests)

module _ (text : List ℕ) where
  ipvfuture-scan-ends-as-parsed : (i : ℕ)
      → Ends (parses_future (drop i text)) (i + future_length (drop i text)) (scan_to_mark text
      hexdig_set full_stop (scan_to_mark text ipv_future_set right_bracket (λ end. Ok end)) i)
  unfolding parses_future future_length parses_marked length_to_mark
  ipvfuture-scan-ends-as-parsed i =
      let n : ℕ = scan_end text hexdig_set i in
      let m : ℕ = scan_end text ipv_future_set (n + 1) in
      let p : Bool = nat_lt i n && starts 46 (drop n text) in (
        cond p (unexpected m) (unexpected n),
        nested-tests-are-one-and p (nat_lt (n + 1) m && starts 93 (drop m text)) (m + 1)
            (unexpected m) (unexpected n)
            ∙ simp (later-position-iff-some-passed, drop-drop) (simp add_assoc refl),
      )

  pub literal-ends-as-parsed : (i : ℕ) → IsUtf8 (drop i text)
      → Ends (parses_literal (drop i text)) (i + literal_length (drop i text)) (literal text i)
  literal-ends-as-parsed i u =
      let rest : List ℕ = drop i text in
      let end : ℕ = i + literal_length rest in ⊎_elim (λ v.
      let (e, f) = ipvfuture-scan-ends-as-parsed (i + 1) in (
        e,
        literal-with-version-letter-scans-ipvfuture text i v
            ∙ f ∙ same-test-and-end-give-same-result (parses_future (drop (i + 1) text))
            (parses_literal rest) _ end e (literal-at-position-parses-as-ipvfuture text i u v)
            (λ p. omega (arith, length-of-ipvfuture-at-position text i u v p)),
      )) (λ v. ⊎_elim (λ p.
      let c = literal_is_ipv6_and_bracket rest v p in
      let suffix : List ℕ = from_any (codes "]") rest in
      let n : length text - length suffix + 1 ≡ end = omega (
        arith,
        (ipv6-and-bracket-are-parsed-literal rest suffix (sym c.0) c.1).1,
        (text-after-ipv6-is-suffix rest suffix (sym c.0)).0,
        length-drop i text,
        text-with-bracket-is-nonempty suffix c.1,
      ) in (
        unexpected i,
        literal-ends-after-read-ipv6 text suffix i (sym c.0) c.1 ∙ ap (λ k. Ok k) n
            ∙ sym (cond-true _ _ _ p),
      )) (λ p.
      let (e, f) = failed-result-has-no-end (literal text i) end
      (literal-rejects-unparsed text i v p) in
      (e, f ∙ sym (cond-false _ _ _ p)))
      (cases_Bool (parses_literal rest))) (cases_Bool (starts 118 rest || starts 86 rest))

-- parse errors: the end of an IP literal that is returned is
-- the one that is parsed; p: whether it is parsed
literal-end-is-the-parsed-one : (p : Bool) (n end : ℕ) (r : ScanResult) → Ends p n r → Ok end
    ≡ r → end ≡ n
literal-end-is-the-parsed-one true n end r (e, f) s = same_Some end n (ap result_ok (s ∙ f))
literal-end-is-the-parsed-one false n end r (e, f) s = absurd (false≢true (sym (ap is_ok (s ∙ f))))

-- parse errors: an IP literal after the `[` at place ends where it is cut;
-- end: the position after its `]`
pub literal-end-by-length : (text : List ℕ) (place end : ℕ)
    → IsUtf8 text → IsCharBoundary text (place + 1) → Ok end ≡ literal text (place + 1)
    → end ≡ place + (1 + literal_length (drop 1 (drop place text)))
literal-end-by-length text place end u b s =
    let n = literal-end-is-the-parsed-one _ _ end _
    (literal-ends-as-parsed text (place + 1) (IsUtf8-drop text (place + 1) u b)) s in
    let d = ap literal_length (drop-drop 1 place text) in
    omega (arith, n, d)

-- parse errors: what is after an IP literal at its end is what is after it where it is cut
pub text_after_literal : (text : List ℕ) (place end : ℕ)
    → IsUtf8 text → IsCharBoundary text (place + 1) → Ok end ≡ literal text (place + 1)
    → drop end text ≡ drop (1 + literal_length (drop 1 (drop place text))) (drop place text)
text_after_literal text place end u b s = ap (λ n. drop n text)
    (literal-end-by-length text place end u b s)
    ∙ sym (drop-drop (1 + literal_length (drop 1 (drop place text))) place text)

-- where an address that is passed ends, or which error it has
pub ruleset literal_ends = (literal_error_is_in_text, literal-end-by-length, text_after_literal)
