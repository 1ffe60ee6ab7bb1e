-- Whether a `\r` is before the end of a line that is read in parts.
use Rattle.uri_streams.proofs.Common.{common_steps, ◌≡◌, ◌≢◌, ◌<◌, ◌-◌, ◌++◌, ℕ, Bool, true, false, cond, List, [], All, refl, ap, sym, ◌∙◌, length, length-append, take, arith, get_or, append-nil, ltb-true, ltb-false, eqb-true, eq-eqb, ◌==◌, ends_with_byte, strip_last, ◌&&◌, nat_lt, take-append-add, nil_from_length, All-get_or, false_from_ne_true, ends_with_return, return_after, not, end_byte, has_return, line_ending}
use Rattle.std.specs.Io.{IsEmptyOrEndsWith}

-- lines: the last byte of two lists is that of the second, where that has one
ends_with_byte-append : (byte : ℕ) (xs ys : List ℕ) → 0 < length ys
    → ends_with_byte byte (xs ++ ys) ≡ ends_with_byte byte ys
ends_with_byte-append byte xs ys some = grind (arith, common_steps)

-- lines: the last byte of two texts is that of the second, if it has one
strip_last-append : (byte : ℕ) (xs ys : List ℕ) → 0 < length ys
    → strip_last byte (xs ++ ys) ≡ xs ++ strip_last byte ys
strip_last-append byte xs ys some =
    grind (arith, common_steps, ends_with_byte-append, length-append, take-append-add)

ends_with_byte-of-lacking : (byte : ℕ) (xs : List ℕ) → All (λ x. x ≢ byte) xs
    → ends_with_byte byte xs ≡ false
ends_with_byte-of-lacking byte xs none = at (nat_lt 0 (length xs)) refl
  where
    at : (b : Bool) → nat_lt 0 (length xs) ≡ b
        → (nat_lt 0 (length xs) && (get_or xs (length xs - 1) 0 == byte)) ≡ false
    at true is =
        let some : 0 < length xs = ltb-true 0 (length xs) is in
        ap (λ c. c && (get_or xs (length xs - 1) 0 == byte)) is
        ∙ false_from_ne_true (get_or xs (length xs - 1) 0 == byte)
        (λ same. All-get_or (λ x. x ≢ byte) xs (length xs - 1) 0 (omega (arith, some)) none
        (eqb-true (get_or xs (length xs - 1) 0) byte same))
    at false is = ap (λ c. c && (get_or xs (length xs - 1) 0 == byte)) is

-- lines: a text without a byte has none to strip
strip_last-of-lacking : (byte : ℕ) (xs : List ℕ) → All (λ x. x ≢ byte) xs → strip_last byte xs ≡ xs
strip_last-of-lacking byte xs none = ap (λ b. cond b (take (length xs - 1) xs) xs)
    (ends_with_byte-of-lacking byte xs none)

-- lines: whether what was taken ends with `\r` (13), after one part more
ends_with_byte-after-part : (was : Bool) (xs ys : List ℕ) → was ≡ ends_with_byte 13 xs
    → cond (nat_lt 0 (length ys)) (ends_with_byte 13 ys) was ≡ ends_with_byte 13 (xs ++ ys)
ends_with_byte-after-part was xs ys is = at (nat_lt 0 (length ys)) refl
  where
    at : (b : Bool) → nat_lt 0 (length ys) ≡ b
        → cond (nat_lt 0 (length ys)) (ends_with_byte 13 ys) was ≡ ends_with_byte 13 (xs ++ ys)
    at true some =
        ap (λ c. cond c (ends_with_byte 13 ys) was) some
        ∙ sym (ends_with_byte-append 13 xs ys (ltb-true 0 (length ys) some))
    at false none =
        let empty : ys ≡ [] = nil_from_length ys (omega (arith, ltb-false 0 (length ys) none)) in
        ap (λ c. cond c (ends_with_byte 13 ys) was) none ∙ is
        ∙ sym (ap (λ l. ends_with_byte 13 (xs ++ l)) empty ∙ ap (ends_with_byte 13) (append-nil xs))

-- lines: whether what was taken ends with `\r` (13), after a part without the byte that ends a line
pub return_after-inner-part : (end : ℕ) (was : Bool) (done part : List ℕ) → was
    ≡ ends_with_byte 13 done
    → All (λ x. x ≢ end) part → return_after end was part ≡ ends_with_byte 13 (done ++ part)
return_after-inner-part end was done part is none =
    grind (arith, strip_last-of-lacking, ends_with_byte-after-part)

-- lines: whether a line ends with `\r` and the byte that ends it, after its last part
pub return_after-last-part : (end : ℕ) (was : Bool) (done part : List ℕ)
    → was ≡ ends_with_byte 13 done → All (λ x. x ≢ end) done → IsEmptyOrEndsWith part end
    → (return_after end was part && nat_lt 0 (length part)) ≡ ends_with_return end (done ++ part)
return_after-last-part end was done part is none ends = at (nat_lt 0 (length part)) refl
  where
    and-false : (b : Bool) → (b && false) ≡ false
    and-false true = refl
    and-false false = refl

    and-true : (b : Bool) → (b && true) ≡ b
    and-true true = refl
    and-true false = refl

    at : (b : Bool) → nat_lt 0 (length part) ≡ b
        → (return_after end was part && nat_lt 0 (length part))
        ≡ ends_with_return end (done ++ part)
    at true more =
        let some : 0 < length part = ltb-true 0 (length part) more in
        let ended : ends_with_byte end part ≡ true =
        ap (λ c. c && (get_or part (length part - 1) 0 == end)) more
        ∙ eq-eqb (get_or part (length part - 1) 0) end (ends some) in
        ap (λ c. return_after end was part && c) more ∙ and-true (return_after end was part)
        ∙ ends_with_byte-after-part was done (strip_last end part) is
        ∙ ap (ends_with_byte 13) (sym (strip_last-append end done part some))
        ∙ sym (ap (λ c. c && ends_with_byte 13 (strip_last end (done ++ part)))
        (ends_with_byte-append end done part some ∙ ended))
    at false no_more =
        let empty : part ≡ [] = nil_from_length part (omega (
          arith,
          ltb-false 0 (length part)
              no_more,
        )) in
        ap (λ c. return_after end was part && c) no_more
        ∙ and-false (return_after end was part)
        ∙ sym (ap (λ c. c && ends_with_byte 13 (strip_last end (done ++ part)))
        (ap (λ l. ends_with_byte end (done ++ l)) empty ∙ ap (ends_with_byte end) (append-nil done)
        ∙ ends_with_byte-of-lacking end done none))

pub output-end-is-line-end : (is_null is_return : Bool) (line : List ℕ)
    → is_return ≡ ends_with_return (end_byte is_null) line
    → line_ending is_null (not is_null && is_return) ≡ line_ending is_null (has_return is_null line)
output-end-is-line-end true is_return line is = refl
output-end-is-line-end false is_return line is = ap (line_ending false) is
