-- The text and the end of a line that its end byte ends.
use Rattle.uri_streams.proofs.Common.{common_steps, ◌≡◌, ◌<◌, ◌≤◌, ◌-◌, ℕ, Bool, true, false, cond, List, [], ◌∷◌, refl, ap, sym, ◌∙◌, arith, drop, get_or, get_or-take, length, length-take-le, ltb-true, ltb-false, eqb-true, take, take-take, ends_with_byte, strip_last, ◌&&◌, ◌==◌, nat_lt, not, and_parts, drop_more, end_byte, has_return, line_text, line_ending}
use mir.Val.{bool_byte}
use Rattle.std.proofs.Math.ListN.{drop_of_length-le}

-- lines: bytes that end with a byte are some
some-if-ended : (byte : ℕ) (bs : List ℕ) → ends_with_byte byte bs ≡ true → 0 < length bs
some-if-ended byte bs ended = ltb-true 0 (length bs) (and_parts _ _ ended).0

last-if-ended : (byte : ℕ) (bs : List ℕ) → ends_with_byte byte bs ≡ true
    → get_or bs (length bs - 1) 0 ≡ byte
last-if-ended byte bs ended = eqb-true _ byte (and_parts _ _ ended).1

strip_last-of-ended : (byte : ℕ) (bs : List ℕ) → ends_with_byte byte bs ≡ true
    → strip_last byte bs ≡ take (length bs - 1) bs
strip_last-of-ended byte bs ended = ap (λ b. cond b (take (length bs - 1) bs) bs) ended

-- lines: whether bytes but the last end with `\r` (13), where the last is a newline (10)
ends_with_return-before-newline : (bs : List ℕ) → ends_with_byte 10 bs ≡ true
    → ends_with_byte 13 (take (length bs - 1) bs) ≡ (get_or bs (length bs - 1 - 1) 0 == 13)
ends_with_return-before-newline bs ended = at (nat_lt 0 (length text)) refl
  where
    text : List ℕ
    text = take (length bs - 1) bs

    long : length text ≡ length bs - 1
    long = length-take-le (length bs - 1) bs (omega arith)

    at : (b : Bool) → nat_lt 0 (length text) ≡ b
        → (nat_lt 0 (length text) && (get_or text (length text - 1) 0 == 13))
        ≡ (get_or bs (length bs - 1 - 1) 0 == 13)
    at true is =
        let more : 0 < length text = ltb-true 0 (length text) is in
        ap (λ c. c && (get_or text (length text - 1) 0 == 13)) is
        ∙ ap (λ n. get_or text (n - 1) 0 == 13) long
        ∙ ap (λ b. b == 13)
        (get_or-take (length bs - 1) bs (length bs - 1 - 1) 0 (omega (arith, more, long)))
    at false is =
        let none : length text ≤ 0 = ltb-false 0 (length text) is in
        let first : length bs - 1 - 1 ≡ length bs - 1 = omega (arith, none, long) in
        ap (λ c. c && (get_or text (length text - 1) 0 == 13)) is
        ∙ sym (ap (λ b. b == 13) (ap (λ n. get_or bs n 0) first ∙ last-if-ended 10 bs ended))

-- lines: whether a line that its end byte ends has a `\r` (13) before that
has_return-of-ended : (is_null : Bool) (bs : List ℕ) → ends_with_byte (end_byte is_null) bs ≡ true
    → has_return is_null bs ≡ (not is_null && (get_or bs (length bs - 1 - 1) 0 == 13))
has_return-of-ended is_null bs ended =
    grind (arith, strip_last-of-ended, ends_with_return-before-newline)

drop-but-last : (bs : List ℕ) → 0 < length bs
    → drop (length bs - 1) bs ≡ get_or bs (length bs - 1) 0 ∷ []
drop-but-last bs some = drop_more bs (length bs - 1) 0 (omega (arith, some))
    ∙ ap (λ l. get_or bs (length bs - 1) 0 ∷ l) (drop_of_length-le bs (omega (arith, some)))

-- the same by whether NUL ends lines, and whether the last byte but one is `\r` (13)
text_of : (is_null : Bool) (bs : List ℕ) → ends_with_byte (end_byte is_null) bs ≡ true
    → take (length bs - 1 - cond (not is_null && (get_or bs (length bs - 1 - 1) 0 == 13)) 1 0) bs
    ≡ line_text is_null bs
text_of true bs ended = ap (λ n. take n bs) (omega arith) ∙ sym (strip_last-of-ended 0 bs ended)
text_of false bs ended = at (get_or bs (length bs - 1 - 1) 0 == 13) refl
  where
    text : List ℕ
    text = take (length bs - 1) bs

    by_return : (b : Bool) → (get_or bs (length bs - 1 - 1) 0 == 13) ≡ b
        → line_text false bs ≡ cond b (strip_last 13 text) text
    by_return b is =
        ap (λ c. cond c (strip_last 13 (strip_last 10 bs)) (strip_last 10 bs))
        (has_return-of-ended false bs ended ∙ is)
        ∙ ap (λ t. cond b (strip_last 13 t) t) (strip_last-of-ended 10 bs ended)

    at : (b : Bool) → (get_or bs (length bs - 1 - 1) 0 == 13) ≡ b
        → take (length bs - 1 - cond b 1 0) bs ≡ line_text false bs
    at true is =
        let long : length text ≡ length bs - 1 = length-take-le (length bs - 1) bs (omega arith) in
        let ended_text = ends_with_return-before-newline bs ended ∙ is in
        sym (by_return true is ∙ strip_last-of-ended 13 text ended_text
        ∙ ap (λ n. take (n - 1) text) long
        ∙ take-take (length bs - 1 - 1) (length bs - 1) bs (omega arith))
    at false is = ap (λ n. take n bs) (omega arith) ∙ sym (by_return false is)

end_of : (is_null : Bool) (bs : List ℕ) → ends_with_byte (end_byte is_null) bs ≡ true
    → drop (length bs - 1 - cond (not is_null && (get_or bs (length bs - 1 - 1) 0 == 13)) 1 0) bs
    ≡ line_ending is_null (has_return is_null bs)
end_of true bs ended = ap (λ n. drop n bs) (omega arith)
    ∙ drop-but-last bs (some-if-ended 0 bs ended) ∙ ap (λ b. b ∷ []) (last-if-ended 0 bs ended)
end_of false bs ended = at (get_or bs (length bs - 1 - 1) 0 == 13) refl
  where
    last : drop (length bs - 1) bs ≡ 10 ∷ []
    last = drop-but-last bs (some-if-ended 10 bs ended)
        ∙ ap (λ b. b ∷ []) (last-if-ended 10 bs ended)

    at : (b : Bool) → (get_or bs (length bs - 1 - 1) 0 == 13) ≡ b
        → drop (length bs - 1 - cond b 1 0) bs ≡ line_ending false (has_return false bs)
    at true is =
        let text : List ℕ = take (length bs - 1) bs in
        let long : length text ≡ length bs - 1 = length-take-le (length bs - 1) bs (omega arith) in
        let more : 0 < length text =
        some-if-ended 13 text (ends_with_return-before-newline bs ended ∙ is) in
        drop_more bs (length bs - 1 - 1) 0 (omega (arith, more, long))
        ∙ ap (λ n. get_or bs (length bs - 1 - 1) 0 ∷ drop n bs) (omega (arith, more, long))
        ∙ ap (λ l. get_or bs (length bs - 1 - 1) 0 ∷ l) last
        ∙ ap (λ b. b ∷ 10 ∷ []) (eqb-true _ 13 is)
        ∙ sym (ap (line_ending false) (has_return-of-ended false bs ended ∙ is))
    at false is =
        ap (λ n. drop n bs) (omega arith) ∙ last
        ∙ sym (ap (line_ending false) (has_return-of-ended false bs ended ∙ is))

flag-is-number : (b : Bool) → bool_byte b ≡ cond b 1 0
flag-is-number b = grind arith

-- lines: the bytes before the end of a line, and before a `\r` there, are its text; `before` is the
-- position of the last byte but one
pub text-before-end : (is_null is_return : Bool) (bs : List ℕ) (before : ℕ)
    → ends_with_byte (end_byte is_null) bs ≡ true → before ≡ length bs - 1 - 1
    → is_return ≡ (not is_null && (get_or bs before 0 == 13))
    → take (length bs - 1 - bool_byte is_return) bs ≡ line_text is_null bs
text-before-end is_null is_return bs before ended first is = grind (arith, flag-is-number, text_of)

pub end-after-text : (is_null is_return : Bool) (bs : List ℕ) (before : ℕ)
    → ends_with_byte (end_byte is_null) bs ≡ true → before ≡ length bs - 1 - 1
    → is_return ≡ (not is_null && (get_or bs before 0 == 13)) → take
    (length bs - (length bs - 1 - bool_byte is_return))
    (drop (length bs - 1 - bool_byte is_return) bs) ≡ line_ending is_null (has_return is_null bs)
end-after-text is_null is_return bs before ended first is =
    grind (arith, common_steps, flag-is-number, end_of)
