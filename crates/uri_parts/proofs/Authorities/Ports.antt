-- What std parses of a port's digits.
use Rattle.uri_parts.proofs.Common.{◌≡◌, ℕ, ◌<◌, true, false, eqb, List, [], ◌∷◌, length, Option, Some, Result, Ok, Err, refl, sym, ap, subst, ◌∙◌, arith, IsUtf8, digit_value, is_ascii_digit, list_all, AllDigits, IsNumeral, ParsesUnsigned, ExplainsUnsignedError, error_kind, without_leading_plus, and_parts, digit_value_digit, nat_tests, digit_set, IsValidFor}
use Rattle.std.specs.declared.num.IntErrorKind.TheVariants.{PosOverflow}
use Rattle.std.specs.declared.num.ParseIntError.{ParseIntError}
use Rattle.std.proofs.lemmas.Str.Parse.{digit_from_value, without_leading_plus_none}
use Rattle.uri_parts.specs.Ports.{port_number, FitsPort}
use Rattle.uri_parts.proofs.TextKinds.AsciiSets.{is_ascii_in, valid_ascii_text}

ascii-digit-has-value-below-ten : (d : ℕ) → is_ascii_in is_ascii_digit d ≡ true → digit_value d < 10
ascii-digit-has-value-below-ten d e = grind (arith, nat_tests, digit_value_digit)

ascii-digits-are-decimal-digits : (digits : List ℕ)
    → list_all (is_ascii_in is_ascii_digit) digits ≡ true → AllDigits 10 digits
ascii-digits-are-decimal-digits [] e = tt
ascii-digits-are-decimal-digits (d ∷ digits) e =
    let p = and_parts (is_ascii_in is_ascii_digit d)
    (list_all (is_ascii_in is_ascii_digit) digits) e in
    (ascii-digit-has-value-below-ten d p.0, ascii-digits-are-decimal-digits digits p.1)

valid-digit-text-is-decimal-digits : (digits : List ℕ) → IsUtf8 digits → IsValidFor digit_set digits
    → AllDigits 10 digits
valid-digit-text-is-decimal-digits digits u v =
    grind (arith, nat_tests, ascii-digits-are-decimal-digits, valid_ascii_text)

-- ports: digits have no `+` before them, which std would allow
pub digits-have-no-leading-plus : (digits : List ℕ) → AllDigits 10 digits
    → without_leading_plus digits ≡ digits
digits-have-no-leading-plus [] d = refl
digits-have-no-leading-plus (c ∷ digits) d = without_leading_plus_none (c ∷ digits)
    (λ e. omega (arith, digit_from_value c d.0))

-- ports: digits, one at least, are a number as std reads them
nonempty-digits-are-numeral : (digits : List ℕ) → AllDigits 10 digits → 0 < length digits
    → IsNumeral 10 (without_leading_plus digits)
nonempty-digits-are-numeral digits d some = subst (IsNumeral 10)
    (sym (digits-have-no-leading-plus digits d)) (some, d)

-- ports: one that is not empty is parsed as its number, or rejected because that is too great
pub record IsPortParsed (port : Option (List ℕ)) (r : Result ℕ ParseIntError) : Type 0 where
  pub ok : (n : ℕ) → r ≡ Ok n → FitsPort (port_number port) × (Some n ≡ port_number port)
  pub err : (e : ParseIntError) → r ≡ Err e
      → ¬ (FitsPort (port_number port)) × (error_kind e ≡ PosOverflow)

-- ports: a number below 65536 is the port's as 16 bits
fits : (port : Option (List ℕ)) (n m : ℕ) → port_number port ≡ Some m → n ≡ m → m < 65536
    → FitsPort (port_number port) × (Some n ≡ port_number port)
fits port n m is e h = (subst FitsPort (sym is) h, ap Some e ∙ sym is)

-- ports: one that is not empty is parsed as its number, or rejected as too great
pub port-is-parsed-as-its-number :
    (port : Option (List ℕ)) (digits : List ℕ) (r : Result ℕ ParseIntError) → Some digits ≡ port
    → IsUtf8 digits → IsValidFor digit_set digits → eqb (length digits) 0 ≡ false
    → ParsesUnsigned 16 10 digits r → ExplainsUnsignedError 10 digits r → IsPortParsed port r
port-is-parsed-as-its-number port digits r is u v long parses explains =
    grind (arith, valid-digit-text-is-decimal-digits, nat_tests, nonempty-digits-are-numeral)
