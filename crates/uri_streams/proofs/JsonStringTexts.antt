-- Bytes that are texts of JSON's rules; those of strings, with or without escapes.
use Rattle.uri_streams.proofs.Common.{common_steps, ◌≡◌, ℕ, zero, suc, ◌<◌, ◌%◌, ◌&&◌, ◌==◌, Bool, true, false, List, [], ◌∷◌, ◌++◌, append-nil, refl, sym, ap, ◌∙◌, subst, arith, inl, inr, codes, Some, nat_lt, encode_utf8, if◌then◌else◌, is_ascii_hexdigit, IsScalar, list_all, flat_map, IsUtf8, IsAscii, chars, all_scalars, and_parts, and_from, eqb-true, ltb-true, nat_tests, Decides-below_and, chars-append, chars-IsAscii, chars-encodes, chars-nil, IsUtf8-append, IsUtf8-nil, IsUtf8-encode, IsUtf8-from_ascii, scalars-chars, JsonValue, Rule, ◌then◌, Is, IsStructural, is_unescaped, escaped_by, hex_number, RepresentsCharacter, RepresentsCharacters, RepresentsString, RepresentsValue, IsJsonTextOf, hex_digit, control_json, escaped_char, escaped_text}
use Rattle.std.specs.Int.{is_in_range}
use Rattle.std.proofs.lemmas.Str.Ascii.{IsAscii-nil, IsAscii-cons}

-- writing JSON: the bytes are a text of the rule, in UTF-8
pub record AreTextOf (P : Rule) (bytes : List ℕ) : Type 0 where
  pub utf8 : IsUtf8 bytes
  pub text : P (chars bytes)

infixr 30 ◌and_then◌
-- writing JSON: texts of two rules, one after the other
pub ◌and_then◌ : {P Q : Rule} {a b : List ℕ} → AreTextOf P a → AreTextOf Q b
    → AreTextOf (P then Q) (a ++ b)
◌and_then◌ {P} {Q} {a} {b} p q = grind (arith, IsUtf8-append, chars, chars-append)

ascii-by-test : (word : List ℕ) → list_all (λ b. nat_lt b 128) word ≡ true → IsAscii word
ascii-by-test [] h = IsAscii-nil
ascii-by-test (b ∷ word) h = let p = and_parts _ _ h in
    IsAscii-cons b word (ltb-true b 128 p.0) (ascii-by-test word p.1)

ascii-is-text : (P : Rule) (word : List ℕ) → list_all (λ b. nat_lt b 128) word ≡ true → P word
    → AreTextOf P word
ascii-is-text P word h p = grind (arith, ascii-by-test, IsUtf8-from_ascii, chars-IsAscii)

pub nothing-is-text : AreTextOf (Is []) []
nothing-is-text = record { utf8 = IsUtf8-nil; text = chars-nil }

-- writing JSON: a structural character without whitespace
pub mark-is-structural : (mark : ℕ) → nat_lt mark 128 ≡ true
    → AreTextOf (IsStructural (mark ∷ [])) (mark ∷ [])
mark-is-structural mark h = ascii-is-text (IsStructural (mark ∷ [])) (mark ∷ [])
    (and_from _ _ h refl) ([], mark ∷ [], refl, refl, (mark ∷ [], [], refl, refl, refl))

-- writing JSON: the last two digits of the number of a control character
abbrev high_digit : ℕ → ℕ
high_digit c = if nat_lt c 16 then 48 else 49

-- writing JSON: the last digit of that number
abbrev low_digit : ℕ → ℕ
low_digit c = hex_digit (c % 16)

-- writing JSON: they are digits of the number
unfoldable are_its_digits : ℕ → Bool
are_its_digits c = (list_all is_ascii_hexdigit (48 ∷ 48 ∷ high_digit c ∷ low_digit c ∷ [])
    && list_all (λ b. nat_lt b 128) (high_digit c ∷ low_digit c ∷ []))
    && hex_number 48 48 (high_digit c) (low_digit c) == c

-- writing JSON: each control character below a number has its digits
abbrev are_digits_below : ℕ → Bool
are_digits_below zero = true
are_digits_below (suc n) = are_its_digits n && are_digits_below n

digits-of-32-control-characters : are_digits_below 32 ≡ true
unfolding are_its_digits hex_number
digits-of-32-control-characters = refl

digits-of-control-character : (c : ℕ) → c < 32 → are_its_digits c ≡ true
digits-of-control-character = (Decides-below_and are_its_digits (λ c. are_its_digits c ≡ true)
    are_digits_below (λ c. (λ e. e, λ e. e)) refl (λ _. refl) 32).0
    digits-of-32-control-characters

control_json-by-digits : (c : ℕ)
    → control_json c ≡ codes "\\u" ++ (48 ∷ 48 ∷ high_digit c ∷ low_digit c ∷ [])
control_json-by-digits c = grind (arith, codes, low_digit)

control-character-is-no-surrogate : (c : ℕ) → c < 32 → is_in_range 0xD800 0xDFFF c ≡ false
control-character-is-no-surrogate c l = grind (arith, nat_tests)

-- writing JSON: a control character is escaped by its number
control_json-is-text : (c : ℕ) → c < 32 → AreTextOf (RepresentsCharacter c) (control_json c)
unfolding are_its_digits
control_json-is-text c l =
    let h = and_parts _ _ (digits-of-control-character c l) in
    let digits = and_parts _ _ h.0 in
    subst (AreTextOf (RepresentsCharacter c)) (sym (control_json-by-digits c))
    (ascii-is-text (RepresentsCharacter c)
    (codes "\\u" ++ (48 ∷ 48 ∷ high_digit c ∷ low_digit c ∷ [])) digits.1
    (inr (inr (inl (
      control-character-is-no-surrogate c l,
      record {
        a = 48;
        b = 48;
        c = high_digit c;
        d = low_digit c;
        whole = refl;
        digits = digits.0;
        value = sym (eqb-true _ _ h.1);
      },
    )))))

-- writing JSON: a character that needs no escape
plain-character-is-text : (c : ℕ) → IsScalar c → is_unescaped c ≡ true
    → AreTextOf (RepresentsCharacter c) (encode_utf8 c)
plain-character-is-text c s h = record {
  utf8 = IsUtf8-encode c s;
  text = inl (
    h,
    ap chars (sym (append-nil (encode_utf8 c))) ∙ chars-encodes (c ∷ []) (and_from _ _ s refl),
  );
}

-- writing JSON: a character is unescaped if it is none that must be escaped
other-character-is-unescaped : (c : ℕ) → IsScalar c → (c == 34) ≡ false → (c == 92) ≡ false
    → nat_lt c 32 ≡ false → is_unescaped c ≡ true
other-character-is-unescaped c s q b h = grind (arith, nat_tests)

-- writing JSON: a character as `escaped_char` has it; mark: the quote or the backslash
escaped_char-is-text : (c : ℕ) → IsScalar c → AreTextOf (RepresentsCharacter c) (escaped_char c)
escaped_char-is-text c s = quote (c == 34) refl
  where
    escape : (mark : ℕ) → c ≡ mark → escaped_by mark ≡ Some mark → nat_lt mark 128 ≡ true
        → AreTextOf (RepresentsCharacter c) (92 ∷ mark ∷ [])
    escape mark e f l = ascii-is-text (RepresentsCharacter c) (92 ∷ mark ∷ [])
        (and_from _ _ l refl) (inr (inl (mark, refl, f ∙ ap Some (sym e))))

    control : (b : Bool) → (c == 34) ≡ false → (c == 92) ≡ false → nat_lt c 32 ≡ b
        → AreTextOf (RepresentsCharacter c) (if b then control_json c else encode_utf8 c)
    control true q h e = control_json-is-text c (ltb-true c 32 e)
    control false q h e = plain-character-is-text c s (other-character-is-unescaped c s q h e)

    backslash : (b : Bool) → (c == 34) ≡ false → (c == 92) ≡ b
        → AreTextOf (RepresentsCharacter c)
        (if b then codes "\\\\" else (if nat_lt c 32 then control_json c else encode_utf8 c))
    backslash true q e = escape 92 (eqb-true c 92 e) refl refl
    backslash false q e = control (nat_lt c 32) q e refl

    quote : (b : Bool) → (c == 34) ≡ b
        → AreTextOf (RepresentsCharacter c) (if b then codes "\\\"" else (if c == 92
        then codes "\\\\" else (if nat_lt c 32 then control_json c else encode_utf8 c)))
    quote true e = escape 34 (eqb-true c 34 e) refl refl
    quote false e = backslash (c == 92) e refl

escaped-characters-are-text : (cs : List ℕ) → all_scalars cs ≡ true
    → AreTextOf (RepresentsCharacters cs) (flat_map escaped_char cs)
escaped-characters-are-text [] h = nothing-is-text
escaped-characters-are-text (c ∷ cs) h = let p = and_parts _ _ h in
    escaped_char-is-text c p.0 and_then escaped-characters-are-text cs p.1

quote-is-text : AreTextOf (Is (codes "\"")) (codes "\"")
quote-is-text = ascii-is-text (Is (codes "\"")) (codes "\"") refl refl

pub escaped-string-is-text : (text : List ℕ) → IsUtf8 text
    → AreTextOf (RepresentsString (chars text)) (codes "\"" ++ (escaped_text text ++ codes "\""))
escaped-string-is-text text u = quote-is-text and_then
    (escaped-characters-are-text (chars text) (scalars-chars text u) and_then quote-is-text)

-- writing JSON: the text is UTF-8 and needs no escape
pub record IsPlain (text : List ℕ) : Type 0 where
  pub utf8 : IsUtf8 text
  pub unescaped : list_all is_unescaped (chars text) ≡ true

-- writing JSON: a word of ASCII that needs no escape
pub ascii-is-plain : (word : List ℕ) → list_all (λ b. nat_lt b 128) word ≡ true
    → list_all is_unescaped word ≡ true → IsPlain word
ascii-is-plain word h u = grind (arith, ascii-by-test, IsUtf8-from_ascii, chars-IsAscii)

-- writing JSON: characters that need no escape, as they are
unescaped-characters-represent-themselves : (cs : List ℕ) → list_all is_unescaped cs ≡ true
    → RepresentsCharacters cs cs
unescaped-characters-represent-themselves [] h = refl
unescaped-characters-represent-themselves (c ∷ cs) h = let p = and_parts _ _ h in
    (c ∷ [], cs, refl, inl (p.0, refl), unescaped-characters-represent-themselves cs p.1)

-- writing JSON: the string of a text that needs no escape
pub plain-string-is-text : (text : List ℕ) → IsPlain text
    → AreTextOf (RepresentsString (chars text)) (codes "\"" ++ (text ++ codes "\""))
plain-string-is-text text plain =
    let inside : AreTextOf (RepresentsCharacters (chars text)) text = record {
      utf8 = plain.utf8;
      text = unescaped-characters-represent-themselves (chars text) plain.unescaped;
    } in
    quote-is-text and_then (inside and_then quote-is-text)

pub value-is-json-text : (v : JsonValue) (bytes : List ℕ) → AreTextOf (RepresentsValue v) bytes
    → IsJsonTextOf v bytes
value-is-json-text v bytes h = grind (arith, common_steps, chars)
