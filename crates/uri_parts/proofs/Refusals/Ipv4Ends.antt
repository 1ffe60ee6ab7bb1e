-- Where digits, an octet and an IPv4 address end, in a text at a position.
use Rattle.uri_parts.proofs.Common.{◌≡◌, ◌≢◌, ℕ, suc, ◌+◌, ◌-◌, ◌<◌, ◌≤◌, false, List, [], ◌∷◌, ◌++◌, sym, length, get_or, take, drop, decimal, Some, refl, ap, ◌∙◌, arith, lit≤, ⊎_elim, append-nil, length-append, take_at, drop_at, lit<, slice_range, nat_le, option_and_then, drop-drop, AllDigits, digits_value, IsDotted, dotted_text, cond-true, cond-false, cases_lt, and_from, ne_eqb, lt-ltb, le-leb, decimal_is_IsNumeral, decimal_digit, first_decimal, length-decimal-le, NoDigit, digit_count-append, digit_count_none, nat_tests, starts, digits_end, octet_end, octets_end, ipv4_end}
use Rattle.uri_parts.proofs.HostForms.AddressParsing.{dotted as dotted_with}

-- parse errors: a text that begins with another byte,
-- as the first of the digits ds, does not begin with mark
prefix-begins-with-other-byte : (mark : ℕ) (ds tail : List ℕ) → 0 < length ds → get_or ds 0 0 ≢ mark
    → starts mark (ds ++ tail) ≡ false
prefix-begins-with-other-byte mark [] tail l n = absurd (omega arith)
prefix-begins-with-other-byte mark (d ∷ ds) tail l n = ne_eqb d mark n

module _ (text : List ℕ) where
  pub suffix-after-prefix-at-position : (p : ℕ) (ds tail : List ℕ) → drop p text ≡ ds ++ tail
      → drop (p + length ds) text ≡ tail
  suffix-after-prefix-at-position p ds tail s = sym (drop-drop (length ds) p text)
      ∙ ap (drop (length ds)) s ∙ drop_at ds tail (length ds) refl

  pub suffix-after-mark-at-position : (mark p : ℕ) (tail : List ℕ) → drop p text ≡ mark ∷ tail
      → drop (p + 1) text ≡ tail
  suffix-after-mark-at-position mark p tail s = sym (drop-drop 1 p text) ∙ ap (drop 1) s

  pub digits_end-is-after-digits : (radix most p : ℕ) (ds tail : List ℕ) → drop p text ≡ ds ++ tail
      → AllDigits radix ds → NoDigit radix tail → length ds ≤ most
      → digits_end text radix most p ≡ p + length ds
  digits_end-is-after-digits radix most p ds tail s all stop l =
      grind (arith, nat_tests, digit_count-append, digit_count_none)

  octet_end-finds-decimal-octet : (a p : ℕ) (tail : List ℕ) → a < 256 → drop p text
      ≡ decimal a ++ tail → NoDigit 10 tail → octet_end text p ≡ Some (p + length (decimal a))
  unfolding octet_end
  octet_end-finds-decimal-octet a p tail fits s stop = ⊎_elim (λ l.
      let n = decimal_is_IsNumeral a (omega arith) in
      let first = first_decimal a l (omega arith) in
      let short : length (decimal a) ≤ 3 =
      length-decimal-le 3 a (lit≤ tt) (omega arith) (omega arith) in
      let e = digits_end-is-after-digits 10 3 p (decimal a) tail s n.0.1 stop short in
      let end : ℕ = digits_end text 10 3 p in
      let ds : slice_range text p end ≡ decimal a =
      ap (take (end - p)) s ∙ take_at (decimal a) tail (end - p) (omega (arith, e)) in
      cond-false _ _ _ (ap (starts 48) s
      ∙ prefix-begins-with-other-byte 48 (decimal a) tail n.0.0 (λ z. omega (arith, z, first)))
      ∙ cond-true _ _ _ (and_from _ _ (lt-ltb p end (omega (arith, e, n.0.0)))
      (ap (λ t. nat_le (digits_value 10 t) 255) ds ∙ le-leb _ 255 (omega (arith, n.1))))
      ∙ ap (λ k. Some k) e) (λ l.
      let z : a ≡ 0 = omega arith in
      let d : decimal a ≡ 48 ∷ [] = ap decimal z ∙ decimal_digit 0 (lit< tt) in
      let n : p + 1 ≡ p + length (decimal a) = omega (arith, ap length d) in
      cond-true _ _ _ (ap (starts 48) (s ∙ ap (λ t. t ++ tail) d)) ∙ ap (λ k. Some k) n)
      (cases_lt 0 a)

  octets_end-passes-dot-and-octet : (n a p : ℕ) (tail : List ℕ)
      → a < 256 → drop p text ≡ 46 ∷ (decimal a ++ tail)
      → NoDigit 10 tail → octets_end text (suc n) p ≡ octets_end text n (p + 1 + length (decimal a))
  unfolding octets_end
  octets_end-passes-dot-and-octet n a p tail fits s stop =
      grind (arith, nat_tests, octet_end-finds-decimal-octet, suffix-after-mark-at-position)

  pub ipv4_end-finds-ipv4-text : (p end : ℕ) (address octets suffix : List ℕ)
      → IsDotted address octets → drop p text ≡ address ++ suffix
      → NoDigit 10 suffix → end ≡ p + length address → ipv4_end text p ≡ Some end
  unfolding octets_end
  ipv4_end-finds-ipv4-text p end address octets suffix w s stop e =
      let all = s ∙ ap (λ t. t ++ suffix) w.spelled ∙ dotted_with w.a w.b w.c w.d suffix in
      let la : ℕ = length (decimal w.a) in
      let lb : ℕ = length (decimal w.b) in
      let lc : ℕ = length (decimal w.c) in
      let s_b = suffix-after-prefix-at-position p (decimal w.a) _ all in
      let s_c = suffix-after-prefix-at-position (p + la + 1) (decimal w.b) _
      (suffix-after-mark-at-position 46 (p + la) _ s_b) in
      let s_d = suffix-after-prefix-at-position (p + la + 1 + lb + 1) (decimal w.c) _
      (suffix-after-mark-at-position 46 (p + la + 1 + lb) _ s_c) in
      let long = ap length (dotted_with w.a w.b w.c w.d []) in
      let size : length address ≡ length (decimal w.a) + (1 + (length (decimal w.b)
      + (1 + (length (decimal w.c) + (1 + length (decimal w.d)))))) = omega (
        arith,
        ap length w.spelled,
        ap length (append-nil (dotted_text w.a w.b w.c w.d)),
        long,
        length-append (decimal w.a)
            (46 ∷ (decimal w.b ++ 46 ∷ (decimal w.c ++ 46 ∷ (decimal w.d ++ [])))),
        length-append (decimal w.b) (46 ∷ (decimal w.c ++ 46 ∷ (decimal w.d ++ []))),
        length-append (decimal w.c) (46 ∷ (decimal w.d ++ [])),
        length-append (decimal w.d) [],
      ) in
      ap (option_and_then (octets_end text 3)) (octet_end-finds-decimal-octet w.a p _ w.fit.0 all
      (lit≤ tt)) ∙ octets_end-passes-dot-and-octet 2 w.b (p + la) _ w.fit.1 s_b (lit≤ tt)
      ∙ octets_end-passes-dot-and-octet 1 w.c (p + la + 1 + lb) _ w.fit.2 s_c (lit≤ tt)
      ∙ octets_end-passes-dot-and-octet 0 w.d (p + la + 1 + lb + 1 + lc) suffix w.fit.3 s_d stop
      ∙ ap (λ k. Some k) (omega (arith, e, size))
