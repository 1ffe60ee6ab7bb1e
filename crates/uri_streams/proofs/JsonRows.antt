-- Some JSON texts and what they represent, and some lines of JSON, by computation.
use Rattle.uri_streams.proofs.Common.{◌≡◌, true, false, [], ◌∷◌, refl, inl, inr, codes, map, Some, None, encode_utf8, chars, components, json_of, Array, EndOfArray, ◌then◌, IsWhitespace, IsNumber, IsOneOf, IsOptional, IsFraction, IsExponent, AreSomeDigits, IsStructural, IsUnicodeEscape, is_unescaped, escaped_by, hex_number, RepresentsCharacter, RepresentsValue, named_components, present, pairs_json}

spaced-brackets-represent-empty-array :
    (IsWhitespace then RepresentsValue (Array EndOfArray) then IsWhitespace) (codes " [ ] ")
spaced-brackets-represent-empty-array =
    let begin : IsStructural (codes "[") (codes "[ ") =
    ([], codes "[ ", refl, refl, (codes "[", codes " ", refl, refl, refl)) in
    let finish : IsStructural (codes "]") (codes "] ") =
    ([], codes "] ", refl, refl, (codes "]", codes " ", refl, refl, refl)) in
    let array : RepresentsValue (Array EndOfArray) (codes "[ ] ") =
    (codes "[ ", codes "] ", refl, begin, ([], codes "] ", refl, refl, finish)) in
    (codes " ", codes "[ ] ", refl, refl, (codes "[ ] ", [], refl, array, refl))

number-with-all-parts : IsNumber (codes "-0.5E+30")
number-with-all-parts =
    let fraction : IsFraction (codes ".5") =
    (codes ".", codes "5", refl, refl, (codes "5", [], refl, (53, refl, refl), refl)) in
    let digits : AreSomeDigits (codes "30") =
    (codes "3", codes "0", refl, (51, refl, refl), refl) in
    let signed : (IsOptional (IsOneOf (codes "-+")) then AreSomeDigits) (codes "+30") =
    (codes "+", codes "30", refl, inr (43, refl, refl), digits) in
    let exponent : IsExponent (codes "E+30") =
    (codes "E", codes "+30", refl, (69, refl, refl), signed) in
    let parts : (IsOptional IsFraction then IsOptional IsExponent) (codes ".5E+30") =
    (codes ".5", codes "E+30", refl, inr fraction, inr exponent) in
    (codes "-", codes "0.5E+30", refl, inr refl, (codes "0", codes ".5E+30", refl, inl refl, parts))

-- examples of JSON: the pair of surrogates of RFC 8259, section 7, represents the G clef
surrogates-represent-g-clef : RepresentsCharacter 0x1D11E (codes "\\uD834\\uDD1E")
unfolding hex_number
surrogates-represent-g-clef =
    let high : IsUnicodeEscape 0xD834 (codes "\\uD834") =
    record { a = 68; b = 56; c = 51; d = 52; whole = refl; digits = refl; value = refl } in
    let low : IsUnicodeEscape 0xDD1E (codes "\\uDD1E") =
    record { a = 68; b = 68; c = 49; d = 69; whole = refl; digits = refl; value = refl } in
    let pair : (IsUnicodeEscape 0xD834 then IsUnicodeEscape 0xDD1E) (codes "\\uD834\\uDD1E") =
    (codes "\\uD834", codes "\\uDD1E", refl, high, low) in
    inr (inr (inr (0xD834, 0xDD1E, pair, refl, refl, refl)))

-- examples of JSON: the characters next to those that must be escaped
unescaped-characters :
    map is_unescaped (0 ∷ 31 ∷ 32 ∷ 33 ∷ 34 ∷ 35 ∷ 91 ∷ 92 ∷ 93 ∷ 127 ∷ 0x10FFFF ∷ 0x110000 ∷ [])
    ≡ false ∷ false ∷ true ∷ true ∷ false ∷ true ∷ true ∷ false ∷ true ∷ true ∷ true ∷ false ∷ []
unescaped-characters = refl

-- examples of JSON: what is escaped by `"`, `\`, `/`, `b`, `f`, `n`, `r`, `t`, `a`, `'` and `u`
escapes-of-two-characters : map escaped_by (codes "\"\\/bfnrta'u") ≡ Some 34 ∷ Some 92 ∷ Some 47
    ∷ Some 8 ∷ Some 12 ∷ Some 10 ∷ Some 13 ∷ Some 9 ∷ None ∷ None ∷ None ∷ []
escapes-of-two-characters = refl

line-of-three-components : json_of (components (codes "x:y?q"))
    ≡ codes "{\"scheme\":\"x\",\"path\":\"y\",\"query\":\"q\"}"
unfolding json_of
line-of-three-components = refl

three-components-are-present : present (named_components (components (codes "x:y?q")))
    ≡ (codes "scheme", codes "x") ∷ (codes "path", codes "y") ∷ (codes "query", codes "q") ∷ []
three-components-are-present = refl

-- examples of lines: a quote, a backslash and two control characters in a pair
line-of-escaped-pair : pairs_json ((34 ∷ 92 ∷ 0 ∷ 31 ∷ 127 ∷ [], []) ∷ (codes "b", codes "c") ∷ [])
    ≡ codes "[\"\\\"\\\\\\u0000\\u001f\u{7f}\",\"\"],[\"b\",\"c\"]"
unfolding chars encode_utf8
line-of-escaped-pair = refl
