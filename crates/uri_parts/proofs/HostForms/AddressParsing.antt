-- What is parsed of an address, from how many hexadecimal digits come first.
use Rattle.uri_parts.proofs.Common.{◌≡◌, ◌≢◌, ℕ, zero, suc, ◌^◌, ◌<◌, ◌≤◌, List, [], ◌∷◌, ◌++◌, length, get_or, take, drop, Option, Some, None, decimal, refl, sym, ap, ◌∙◌, arith, inl, inr, lit≤, length-take-le, take-append-drop, get_or-take, get_or-drop, add-zero, le-ltb, lt-ltb, append_assoc, ◌-◌, length-append, length-drop, drop_at, drop-drop, cases_lt, get_or-append_seam, length-decimal-le, digits_value-lt, digit_value, AllDigits, digits_value, dotted_text, read_number, read_ipv4, read_segment, NoDigit, read_number_some_at, read_number_sound, read_number_empty, read_ipv4_sound, read_ipv4_none, nat_tests, AreLeadingHexDigits}
use Rattle.std.proofs.Math.Nat.{pow-le-pow_right}

-- IP addresses: the text of an IPv4 address is four decimal numbers with `.` between them
pub dotted : (a b c d : ℕ) (rest : List ℕ) → dotted_text a b c d ++ rest
    ≡ decimal a ++ 46 ∷ (decimal b ++ 46 ∷ (decimal c ++ 46 ∷ (decimal d ++ rest)))
dotted a b c d rest = simp append_assoc

-- IP addresses: what is left of a text is a suffix of it
abbrev pub IsSuffix : List ℕ → List ℕ → Type 0
IsSuffix suffix text =
    (length suffix ≤ length text) × (suffix ≡ drop (length text - length suffix) text)

pub text-after-prefix-is-suffix : (prefix : List ℕ) {text suffix : List ℕ} → text ≡ prefix ++ suffix
    → IsSuffix suffix text
text-after-prefix-is-suffix prefix {text} {suffix} whole = grind (arith, length-append, drop_at)

pub suffix-at-position : (text suffix : List ℕ) (start : ℕ) → start ≤ length text
    → IsSuffix suffix (drop start text) → IsSuffix suffix text
suffix-at-position text suffix start within s = grind (arith, nat_tests, length-drop, drop-drop)

digit-of-hex-text-is-below-16 : (text : List ℕ) (i : ℕ) → AllDigits 16 text → i < length text
    → digit_value (get_or text i 0) < 16
digit-of-hex-text-is-below-16 [] i h l = absurd (omega arith)
digit-of-hex-text-is-below-16 (d ∷ text) zero h l = h.0
digit-of-hex-text-is-below-16 (d ∷ text) (suc i) h l = digit-of-hex-text-is-below-16 text i h.1
    (omega arith)

module _ (text : List ℕ) (count : ℕ) (h : AreLeadingHexDigits text count) where
  -- a byte that is no hexadecimal digit comes after them
  leading-byte-is-a-digit : (i : ℕ) → i < count → ¬ (16 ≤ digit_value (get_or text i 0))
  leading-byte-is-a-digit i l big =
      let inside : i < length (take count text) =
      omega (arith, length-take-le count text h.within) in
      let small = digit-of-hex-text-is-below-16 (take count text) i h.digits inside in
      let same : get_or (take count text) i 0 ≡ get_or text i 0 = get_or-take count text i 0 l in
      omega (arith, ap digit_value same)

  no-digit-after-leading-digits : count < 5 → NoDigit 16 (drop count text)
  no-digit-after-leading-digits few = rw (get_or-drop count text 0 0, add-zero) (h.stop few)

  pub hex_digits_are_read_as_segment : 0 < count → count < 5
      → read_segment text ≡ Some (digits_value 16 (take count text), drop count text)
  unfolding read_segment
  hex_digits_are_read_as_segment some few =
      let below = digits_value-lt 16 (take count text) h.digits in
      let size = length-take-le count text h.within in
      let short : length (take count text) ≤ 4 = omega arith in
      let most : 16 ^ length (take count text) ≤ 16 ^ 4 = pow-le-pow_right (lit≤ tt) short in
      let found = read_number_some_at 16 0xffff text count some h.within h.digits (omega arith)
      (h.stop few) in
      rw (found, le-ltb 4 count (omega arith))

  pub no_digits_are_no_segment : count ≡ 0 → read_segment text ≡ None
  unfolding read_segment
  no_digits_are_no_segment none = rw
      (read_number_empty 16 0xffff text (rw none at (h.stop (omega arith))))

  pub too-long-number-is-no-segment : count ≡ 5 → (o : Option (ℕ × ℕ)) → read_number 16 0xffff text ≡ o
      → read_segment text ≡ None
  unfolding read_segment
  too-long-number-is-no-segment five None e = rw e
  too-long-number-is-no-segment five (Some n) e =
      let (number, fits, len, stop) = read_number_sound 16 0xffff text n.0 n.1 (lit≤ tt) e in
      elim (cases_lt n.1 5) [
        | inl short ↦ absurd (leading-byte-is-a-digit n.1
            (omega arith) (rw (get_or-drop n.1 text 0 0, add-zero) at stop))
        | inr more ↦ rw (e, lt-ltb 4 n.1 (omega arith))
      ]

  pub no_dot_means_no_ipv4 : count < 5 → get_or text count 0 ≢ 46 → read_ipv4 text ≡ None
  no_dot_means_no_ipv4 few other =
      let next : get_or (drop count text) 0 0 ≡ get_or text count 0 =
      rw (get_or-drop count text 0 0, add-zero) refl in
      rw (take-append-drop count text) at (read_ipv4_none (take count text)
      (drop count text) h.digits (no-digit-after-leading-digits few) (λ e. other (sym next ∙ e)))

  late-dot-is-no-ipv4 : count ≡ 5 → (o : Option (List ℕ × List ℕ)) → read_ipv4 text ≡ o
      → read_ipv4 text ≡ None
  late-dot-is-no-ipv4 five None e = e
  late-dot-is-no-ipv4 five (Some p) e =
      let (prefix, split, w) = read_ipv4_sound text p.0 p.1 e in
      let size : length (decimal w.a) ≤ 3 =
      length-decimal-le 3 w.a (lit≤ tt) (omega (arith, w.fit.0)) (omega (arith, w.fit.0)) in
      let dot : get_or text (length (decimal w.a)) 0 ≡ 46 =
      ap (λ t. get_or t (length (decimal w.a)) 0) (split ∙ ap (λ t. t ++ p.1) w.spelled
      ∙ dotted w.a w.b w.c w.d p.1) ∙ get_or-append_seam (decimal w.a) 46 _ 0 in
      absurd (leading-byte-is-a-digit (length (decimal w.a)) (omega arith) (rw dot (lit≤ tt)))

  pub five_digits_begin_no_ipv4 : count ≡ 5 → read_ipv4 text ≡ None
  five_digits_begin_no_ipv4 five = late-dot-is-no-ipv4 five _ refl
