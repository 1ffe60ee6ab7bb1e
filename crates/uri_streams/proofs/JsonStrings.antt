-- A reader of JSON's strings: it reads the characters that a text represents.
use Rattle.uri_streams.proofs.Common.{◌≡◌, ℕ, zero, suc, ◌<◌, ◌==◌, true, false, List, [], ◌∷◌, ◌++◌, length, get_or, drop, sym, ap, ◌∙◌, subst, append_assoc, arith, inl, inr, if◌then◌else◌, cond-true, cond-false, eqb-true, nat_tests, is_unescaped, escaped_by, hex_number, IsUnicodeEscape, RepresentsCharacter, RepresentsCharacters, RepresentsString}
use Rattle.std.specs.Char.Utf16.{is_high_surrogate, surrogate_pair_char}
use Rattle.std.specs.Int.{is_in_range}
use Rattle.std.specs.Option.{unwrap_or}

-- reading JSON: the number of the escape `\uXXXX` that begins the text
abbrev escaped_number : List ℕ → ℕ
escaped_number text =
    hex_number (get_or text 2 0) (get_or text 3 0) (get_or text 4 0) (get_or text 5 0)

-- reading JSON: the character of a string that the text begins with, and the text after it
abbrev read_character : List ℕ → ℕ × List ℕ
read_character text = if get_or text 0 0 == 92 then (if get_or text 1 0 == 117 then (if
    is_high_surrogate (escaped_number text) then
    (surrogate_pair_char (escaped_number text) (escaped_number (drop 6 text)), drop 12 text) else
    (escaped_number text, drop 6 text)) else
    (unwrap_or (escaped_by (get_or text 1 0)) 0, drop 2 text)) else (get_or text 0 0, drop 1 text)

-- reading JSON: the characters of a string that are before its closing quote, and the text after
-- that; the number is more than there are
abbrev pub read_characters : ℕ → List ℕ → List ℕ × List ℕ
read_characters zero text = ([], [])
read_characters (suc n) text =
    if get_or text 0 0 == 34 then ([], drop 1 text) else (let first = read_character text in
    let more = read_characters n first.1 in (first.0 ∷ more.0, more.1))

unescaped-is-no-quote-or-backslash : (c : ℕ) → is_unescaped c ≡ true
    → ((c == 34) ≡ false) × ((c == 92) ≡ false)
unescaped-is-no-quote-or-backslash c e = (grind (arith, nat_tests), grind (arith, nat_tests))

other-number-is-no-high-surrogate : (c : ℕ) → is_in_range 0xD800 0xDFFF c ≡ false
    → is_high_surrogate c ≡ false
other-number-is-no-high-surrogate c e = grind (arith, nat_tests)

-- reading JSON: what is read of a text that begins with the escape `\uXXXX` of a number
record ReadsEscape (number : ℕ) (text rest : List ℕ) : Type 0 where
  backslash : get_or text 0 0 ≡ 92
  letter : get_or text 1 0 ≡ 117
  value : escaped_number text ≡ number
  after : (n : ℕ) → drop (suc (suc (suc (suc (suc (suc n)))))) text ≡ drop n rest

-- reading JSON: a text that is an escape `\uXXXX` is read as its number
unicode-escape-is-read : (number : ℕ) (x rest : List ℕ) → IsUnicodeEscape number x
    → ReadsEscape number (x ++ rest) rest
unicode-escape-is-read number x rest h = grind arith

-- reading JSON: what is read of a text that begins with a character of a string
record ReadsCharacter (c : ℕ) (text rest : List ℕ) : Type 0 where
  is_no_end : (get_or text 0 0 == 34) ≡ false
  character : read_character text ≡ (c, rest)

numbers-are-read-after-u : (text : List ℕ) → get_or text 0 0 ≡ 92 → get_or text 1 0 ≡ 117
    → read_character text ≡ (if is_high_surrogate (escaped_number text) then
    (surrogate_pair_char (escaped_number text) (escaped_number (drop 6 text)), drop 12 text) else
    (escaped_number text, drop 6 text))
numbers-are-read-after-u text e f = cond-true (get_or text 0 0 == 92) _ _ (ap (λ c. c == 92) e)
    ∙ cond-true (get_or text 1 0 == 117) _ _ (ap (λ c. c == 117) f)

character-is-read : (c : ℕ) (x rest : List ℕ) → RepresentsCharacter c x
    → ReadsCharacter c (x ++ rest) rest
character-is-read c x rest (inl (unescaped, e)) =
    let other = unescaped-is-no-quote-or-backslash c unescaped in
    subst (λ x. ReadsCharacter c (x ++ rest) rest) (sym e)
    (record { is_no_end = other.0; character = cond-false (c == 92) _ _ other.1 })
character-is-read c x rest (inr (inl (mark, e, escape))) =
    grind (arith, cond-false, eqb-true)
character-is-read c x rest (inr (inr (inl (alone, escape)))) =
    let text : List ℕ = x ++ rest in
    let h = unicode-escape-is-read c x rest escape in
    let single : is_high_surrogate (escaped_number text) ≡ false =
    ap is_high_surrogate h.value ∙ other-number-is-no-high-surrogate c alone in
    record {
      is_no_end = ap (λ c. c == 34) h.backslash;
      character = numbers-are-read-after-u text h.backslash h.letter ∙ cond-false _ _ _ single
          ∙ ap (λ u. (u, drop 6 text)) h.value ∙ ap (λ t. (c, t)) (h.after 0);
    }
character-is-read c x rest
    (inr (inr (inr (high, low, (a, b, e, first, second), is_high, is_low, pair)))) =
    let text : List ℕ = x ++ rest in
    let h : ReadsEscape high text (b ++ rest) = subst (λ t. ReadsEscape high t (b ++ rest))
    (sym (ap (λ x. x ++ rest) e ∙ append_assoc a b rest))
    (unicode-escape-is-read high a (b ++ rest) first) in
    let l = unicode-escape-is-read low b rest second in
    let paired : is_high_surrogate (escaped_number text) ≡ true =
    ap is_high_surrogate h.value ∙ is_high in
    record {
      is_no_end = ap (λ c. c == 34) h.backslash;
      character = numbers-are-read-after-u text h.backslash h.letter ∙ cond-true _ _ _ paired
          ∙ ap (λ u. (surrogate_pair_char u (escaped_number (drop 6 text)), drop 12 text)) h.value
          ∙ ap (λ t. (surrogate_pair_char high (escaped_number t), drop 12 text)) (h.after 0)
          ∙ ap (λ u. (surrogate_pair_char high u, drop 12 text)) l.value
          ∙ ap (λ t. (surrogate_pair_char high low, t)) (h.after 6 ∙ l.after 0)
          ∙ ap (λ c. (c, rest)) (sym pair);
    }

-- reading JSON: a text that represents characters is read as these up to the closing quote
pub characters-are-read : (cs x rest : List ℕ) (n : ℕ) → RepresentsCharacters cs x
    → length cs < n → read_characters n (x ++ 34 ∷ rest) ≡ (cs, rest)
characters-are-read cs x rest zero h l = absurd (omega arith)
characters-are-read [] x rest (suc n) h l = ap (λ x. read_characters (suc n) (x ++ 34 ∷ rest)) h
characters-are-read (c ∷ cs) x rest (suc n) (a, b, e, first, more) l =
    let tail : List ℕ = b ++ 34 ∷ rest in
    let h = character-is-read c a tail first in
    ap (read_characters (suc n)) (ap (λ x. x ++ 34 ∷ rest) e ∙ append_assoc a b (34 ∷ rest))
    ∙ cond-false (get_or (a ++ tail) 0 0 == 34) _ _ h.is_no_end
    ∙ ap (λ p. let q = read_characters n p.1 in (p.0 ∷ q.0, q.1)) h.character
    ∙ ap (λ q. (c ∷ q.0, q.1)) (characters-are-read cs b rest n more (omega arith))

-- reading JSON: the text is a string of these characters, and then the rest
pub record BeginsString (cs text rest : List ℕ) : Type 0 where
  pub inside : List ℕ
  pub whole : text ≡ 34 ∷ (inside ++ 34 ∷ rest)
  pub characters : RepresentsCharacters cs inside

pub string-begins-text : (cs x rest : List ℕ) → RepresentsString cs x
    → BeginsString cs (x ++ rest) rest
string-begins-text cs x rest (quote, y, e, before, (inside, end, f, h, after)) =
    grind (arith, append_assoc)
