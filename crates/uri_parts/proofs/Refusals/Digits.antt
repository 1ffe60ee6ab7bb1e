-- Where digits end.
use Rattle.uri_parts.proofs.Common.{◌≡◌, ℕ, ◌+◌, ◌-◌, ◌<◌, ◌≤◌, true, false, List, [], ◌∷◌, length, take, get_or, drop, ap, arith, refl, ⊎_elim, ltb-true, zero, suc, ◌&&◌, length-drop, length-take-le, Some, None, cond, slice_range, Result, Ok, Err, is_ok, nat_lt, nat_le, option_and_then, is_digit, AllDigits, ParsesUnsigned, digits_value, digit_count, cond-true, cond-false, cases_Bool, nat_tests, drop_more, drop_all, starts, digits_end, octet_end, octets_end}
use Rattle.uri_parts.proofs.Authorities.Ports.{digits-have-no-leading-plus}

-- parse errors: digits end after a further one, if more are left to allow
pub digits_end-passes-digit : (text : List ℕ) (radix i left more : ℕ) → i < length text
    → is_digit (get_or text i 0) radix ≡ true → left ≡ more + 1
    → digits_end text radix more (i + 1) ≡ digits_end text radix left i
digits_end-passes-digit text radix i left more l d e = grind (arith, nat_tests, drop_more)

pub digits_end-stays-at-other-byte : (text : List ℕ) (radix most i : ℕ) → i < length text
    → is_digit (get_or text i 0) radix ≡ false → digits_end text radix most i ≡ i
digits_end-stays-at-other-byte text radix most i l d = grind (arith, nat_tests, drop_more)

-- parse errors: digits end where no more are allowed
pub digits_end-stays-where-none-may-follow : (text : List ℕ) (radix most i : ℕ) → most ≡ 0
    → digits_end text radix most i ≡ i
digits_end-stays-where-none-may-follow text radix most i e = omega arith

pub digits_end-stays-past-text : (text : List ℕ) (radix most i : ℕ) → length text ≤ i
    → digits_end text radix most i ≡ i
digits_end-stays-past-text text radix most i l =
    let n = ap (digit_count radix) (drop_all i text l) in omega arith

counted-prefix-is-digits : (radix k : ℕ) (xs : List ℕ) → k ≤ digit_count radix xs
    → AllDigits radix (take k xs)
counted-prefix-is-digits radix zero xs h = tt
counted-prefix-is-digits radix (suc k) [] h = absurd (omega arith)
counted-prefix-is-digits radix (suc k) (x ∷ xs) h = ⊎_elim (λ d. (
  ltb-true _ _ d,
  counted-prefix-is-digits radix k xs
      (let e = cond-true (is_digit x radix) (1 + digit_count radix xs) 0 d in omega arith),
)) (λ d. absurd (let e = cond-false (is_digit x radix) (1 + digit_count radix xs) 0 d in
    omega arith)) (cases_Bool (is_digit x radix))

pub text-to-digits_end-is-digits : (text : List ℕ) (radix most i : ℕ)
    → AllDigits radix (slice_range text i (digits_end text radix most i))
text-to-digits_end-is-digits text radix most i = counted-prefix-is-digits radix _ (drop i text)
    (omega arith)

-- parse errors: the digits have as many bytes as are between their positions
pub length-of-text-to-digits_end : (text : List ℕ) (radix most i : ℕ)
    → digits_end text radix most i ≤ length text
    → length (slice_range text i (digits_end text radix most i)) ≡ digits_end text radix most i - i
length-of-text-to-digits_end text radix most i l =
    length-take-le _ (drop i text) (omega (arith, length-drop i text))

-- parse errors: decimal digits are parsed as eight bits exactly if there are some,
-- and their value is at most 255
octet-is-parsed-iff-at-most-255 : {E : Type 0} (bs : List ℕ) (r : Result ℕ E) → AllDigits 10 bs
    → ParsesUnsigned 8 10 bs r → is_ok r ≡ (nat_lt 0 (length bs) && nat_le (digits_value 10 bs) 255)
octet-is-parsed-iff-at-most-255 bs (Ok n) h p =
    grind (arith, nat_tests, digits-have-no-leading-plus)
octet-is-parsed-iff-at-most-255 bs (Err e) h p =
    grind (arith, nat_tests, digits-have-no-leading-plus)

digits-are-some-iff-end-is-later : (i end : ℕ) → nat_lt 0 (end - i) ≡ nat_lt i end
digits-are-some-iff-end-is-later i end = grind (arith, nat_tests)

-- parse errors: three decimal digits at most that are parsed as a number up to 255 end where an
-- octet of an IPv4 address does
pub parsed-octet-ends-at-octet_end : {E : Type 0}
    (text : List ℕ) (i end : ℕ) (bs : List ℕ) (r : Result ℕ E) → end ≡ digits_end text 10 3 i
    → end ≤ length text → bs ≡ slice_range text i end → ParsesUnsigned 8 10 bs r
    → starts 48 (drop i text) ≡ false → cond (is_ok r) (Some end) None ≡ octet_end text i
unfolding octet_end
parsed-octet-ends-at-octet_end text i end bs r e l b p z = grind (
  arith,
  nat_tests,
  octet-is-parsed-iff-at-most-255,
  text-to-digits_end-is-digits,
  length-of-text-to-digits_end,
  digits-are-some-iff-end-is-later,
)

-- parse errors: no number of an IPv4 address is left to read, so its end is here
pub octets_end-of-no-octets-stays : (text : List ℕ) (n i : ℕ) → n ≡ 0 → octets_end text n i ≡ Some i
unfolding octets_end
octets_end-of-no-octets-stays text zero i e = refl
octets_end-of-no-octets-stays text (suc n) i e = absurd (omega arith)

-- parse errors: after a `.` (46), one more octet of an IPv4 address is found, of n that are left
pub octets_end-goes-on-after-dot : (text : List ℕ) (n m i : ℕ) → n ≡ m + 1 → starts 46 (drop i text)
    ≡ true → octets_end text n i ≡ option_and_then (octets_end text m) (octet_end text (i + 1))
unfolding octets_end
octets_end-goes-on-after-dot text zero m i e d = absurd (omega arith)
octets_end-goes-on-after-dot text (suc n) m i e d = grind (arith, nat_tests)

-- parse errors: without a `.` (46), no further octet of an IPv4 address is found
pub octets_end-fails-without-dot : (text : List ℕ) (n m i : ℕ)
    → n ≡ m + 1 → starts 46 (drop i text) ≡ false → octets_end text n i ≡ None
unfolding octets_end
octets_end-fails-without-dot text zero m i e d = absurd (omega arith)
octets_end-fails-without-dot text (suc n) m i e d = cond-false _ _ _ d
