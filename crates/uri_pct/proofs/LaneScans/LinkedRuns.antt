-- Bytes that are linked from one to the next are bytes of a set and whole octets.
use Rattle.uri_pct.proofs.Common.{◌≡◌, ℕ, ◌+◌, ◌-◌, ◌<◌, ◌≤◌, Bool, true, false, eqb, ltb, List, get_or, refl, sym, ap, ◌∙◌, arith, ◌&&◌, is_ascii_hexdigit, and_parts, both_ways, lt-ltb, ltb-true, eqb-true, has_hex_digits_after, AreCharactersOrOctets, IsByteOfEncodedText}

-- sixteen bytes at a time: a hexadecimal digit is no `%` (37)
hexdigit_is_not_percent : (c : ℕ) → is_ascii_hexdigit c ≡ true → c ≡ 37 → ⊥
hexdigit_is_not_percent c h e =
    both_ways _ (refl {a = is_ascii_hexdigit 37}) (ap is_ascii_hexdigit (sym e) ∙ h)

module _ (test : ℕ → Bool) (bs : List ℕ) (start i : ℕ)
    (linked : (k : ℕ) → start ≤ k → k < i → IsByteOfEncodedText test bs k) where
  -- a `%` before a place that is linked has a digit after it, or two
  byte_after_percent_is_hexdigit : (p q : ℕ) → p + 1 ≡ q → start ≤ q → q < i → get_or bs p 0 ≡ 37
      → is_ascii_hexdigit (get_or bs q 0) ≡ true
  byte_after_percent_is_hexdigit p q e from to h = let f : p ≡ q - 1 = omega arith in
      (linked q from to).first (ap (λ k. get_or bs k 0) (sym f) ∙ h)

  second_byte_after_percent_is_hexdigit : (p q : ℕ) → p + 2 ≡ q → start ≤ q → q < i
      → get_or bs p 0 ≡ 37 → is_ascii_hexdigit (get_or bs q 0) ≡ true
  second_byte_after_percent_is_hexdigit p q e from to h = let f : p ≡ q - 2 = omega arith in
      (linked q from to).second (ap (λ k. get_or bs k 0) (sym f) ∙ h)

  module _ (n : ℕ) (near : start + n ≤ i)
      (whole : (p : ℕ) → start ≤ p → p < start + n → get_or bs p 0 ≡ 37 → p + 3 ≤ start + n) where
    abbrev begins : ℕ → Bool
    begins k = ltb k n && eqb (get_or bs (start + k) 0) 37

    octet_begins_with_percent : (k : ℕ) → begins k ≡ true → (k < n) × (get_or bs (start + k) 0 ≡ 37)
    octet_begins_with_percent k e = let p = and_parts _ _ e in (ltb-true k n p.0, eqb-true _ _ p.1)

    byte_outside_octets_passes_test : (k : ℕ) → k < n → begins k ≡ false
        → test (get_or bs (start + k) 0) ≡ true
    byte_outside_octets_passes_test k h e =
        (linked (start + k) (omega arith) (omega arith)).no_octet
        (sym (ap (λ b. b && eqb (get_or bs (start + k) 0) 37) (lt-ltb k n h)) ∙ e)

    octet_begins_before_hex_digits : (k : ℕ) → begins k ≡ true → has_hex_digits_after bs (start + k)
        ≡ true
    unfolding has_hex_digits_after
    octet_begins_before_hex_digits k e =
        let p = octet_begins_with_percent k e in
        let w = whole (start + k) (omega arith) (omega (arith, p.0)) p.1 in
        grind (arith, byte_after_percent_is_hexdigit, second_byte_after_percent_is_hexdigit)

    linked_bytes_are_characters_or_octets : AreCharactersOrOctets test bs start n
    linked_bytes_are_characters_or_octets = record {
      octet = begins;
      pass = λ k h none fresh. byte_outside_octets_passes_test k h none;
      percent = λ k e. (octet_begins_with_percent k e).1;
      digits = octet_begins_before_hex_digits;
      whole = grind (arith, octet_begins_with_percent);
    }

  -- the bytes before a `%` are characters and octets
  pub characters_or_octets_up_to_percent : (b : ℕ) → start ≤ b → b < i → get_or bs b 0 ≡ 37
      → AreCharactersOrOctets test bs start (b - start)
  characters_or_octets_up_to_percent b from to h =
      linked_bytes_are_characters_or_octets (b - start) (omega arith) (λ p first last e.
      let one : p + 1 ≡ b → ⊥ = λ (f : p + 1 ≡ b).
      hexdigit_is_not_percent _ (byte_after_percent_is_hexdigit p b f from to e) h in
      let two : p + 2 ≡ b → ⊥ = λ (f : p + 2 ≡ b).
      hexdigit_is_not_percent _ (second_byte_after_percent_is_hexdigit p b f from to e) h in
      omega (arith, one, two))

  -- all bytes are characters and octets, if none of the last two is a `%`
  pub characters_or_octets_up_to_end : start ≤ i → (get_or bs (i - 1) 0 ≡ 37 → ⊥)
      → (get_or bs (i - 2) 0 ≡ 37 → ⊥) → AreCharactersOrOctets test bs start (i - start)
  characters_or_octets_up_to_end from none nor =
      linked_bytes_are_characters_or_octets (i - start) (omega arith) (grind arith)

pub no_bytes_are_characters_or_octets : (test : ℕ → Bool) (bs : List ℕ) (start n : ℕ) → n ≡ 0
    → AreCharactersOrOctets test bs start n
no_bytes_are_characters_or_octets test bs start n e = record {
  octet = λ _. false;
  pass = λ k h. absurd (omega arith);
  percent = λ k f. absurd (both_ways _ refl f);
  digits = λ k f. absurd (both_ways _ refl f);
  whole = λ k h. absurd (omega arith);
}
