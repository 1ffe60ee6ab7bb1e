-- The languages of expressions over texts in UTF-8.
use Rattle.uri_abnf.proofs.Common.{◌≡◌, ℕ, zero, suc, true, List, [], ◌∷◌, ◌++◌, refl, sym, ap, ◌∙◌, inl, inr, ⊎_elim, arith, ◌<◌, ◌⊎◌, map, codes, get_or, drop, to_ascii_lowercase, IsUtf8, chars, encode_utf8_all, all_scalars, and_parts, and_from, nat_tests, encodes-append, chars-append, chars-encodes, encodes-chars, scalars-chars, IsUtf8-append, IsUtf8-nil, Abnf, Rule, Literal, Has, IsOf, ◌⋅◌, ◌∣◌, opt, times}
use Prim.Native.String.{String}

-- characters that are cut are the characters of texts that are cut
pub record IsCut (a b : Abnf) (text : List ℕ) : Type 0 where
  pub x : List ℕ
  pub y : List ℕ
  pub whole : text ≡ x ++ y
  pub first : IsOf a x
  pub second : IsOf b y

pub same-text : {g h : Abnf} {text : List ℕ} → ((cs : List ℕ) → Has g cs → Has h cs) → IsOf g text
    → IsOf h text
same-text {text = text} f l = record { utf8 = l.utf8; has = f (chars text) l.has }

-- a rule has the texts of its expression
pub rule-gives : {name : String} {a : Abnf} {text : List ℕ} → IsOf (Rule name a) text → IsOf a text
rule-gives l = record { utf8 = l.utf8; has = l.has }

pub rule-is-had : {name : String} {a : Abnf} {text : List ℕ} → IsOf a text → IsOf (Rule name a) text
rule-is-had l = record { utf8 = l.utf8; has = l.has }

scalars-append : (x y : List ℕ) → all_scalars (x ++ y) ≡ true
    → (all_scalars x ≡ true) × (all_scalars y ≡ true)
scalars-append [] y e = (refl, e)
scalars-append (c ∷ x) y e =
    let p = and_parts _ _ e in
    let q = scalars-append x y p.1 in
    (and_from _ _ p.0 q.0, q.1)

encoded-lang : (g : Abnf) (cs : List ℕ) → all_scalars cs ≡ true → Has g cs
    → IsOf g (encode_utf8_all cs)
encoded-lang g cs s h = grind (arith, nat_tests, chars-encodes)

pub cut-gives : (a b : Abnf) (text : List ℕ) → IsOf (a ⋅ b) text → IsCut a b text
cut-gives a b text l =
    let h : (x y : List ℕ) × (chars text ≡ x ++ y) × Has a x × Has b y = l.has in
    let x = h.0 in
    let y = h.1 in
    let e = h.2 in
    let s = scalars-append x y (ap all_scalars (sym e) ∙ scalars-chars text l.utf8) in
    record {
      x = encode_utf8_all x;
      y = encode_utf8_all y;
      whole = sym (encodes-chars text l.utf8) ∙ ap encode_utf8_all e ∙ encodes-append x y;
      first = encoded-lang a x s.0 h.3;
      second = encoded-lang b y s.1 h.4;
    }

pub cut-is-had : (a b : Abnf) (x y : List ℕ) → IsOf a x → IsOf b y → IsOf (a ⋅ b) (x ++ y)
cut-is-had a b x y l m = record {
  utf8 = IsUtf8-append x y l.utf8 m.utf8;
  has = (chars x, chars y, chars-append x y l.utf8, l.has, m.has);
}

pub either-gives : (a b : Abnf) (text : List ℕ) → IsOf (a ∣ b) text → IsOf a text ⊎ IsOf b text
either-gives a b text l = grind (arith, nat_tests)

pub left-is-had : (a b : Abnf) (text : List ℕ) → IsOf a text → IsOf (a ∣ b) text
left-is-had a b text l = record { utf8 = l.utf8; has = inl l.has }

pub right-is-had : (a b : Abnf) (text : List ℕ) → IsOf b text → IsOf (a ∣ b) text
right-is-had a b text l = record { utf8 = l.utf8; has = inr l.has }

has-times-0 : (a : Abnf) (cs : List ℕ) → Has (times 0 a) cs → cs ≡ []
has-times-0 a cs (zero, l, m, e) = e
has-times-0 a cs (suc n, l, m, p) = absurd (omega arith)

pub text-of-no-chars : (text : List ℕ) → IsUtf8 text → chars text ≡ [] → text ≡ []
text-of-no-chars text u e = sym (encodes-chars text u) ∙ ap encode_utf8_all e

pub opt-gives : (a : Abnf) (text : List ℕ) → IsOf (opt a) text → (text ≡ []) ⊎ IsOf a text
opt-gives a text l = ⊎_elim (λ e. inl (text-of-no-chars text l.utf8 e))
    (λ h. inr (record { utf8 = l.utf8; has = h })) l.has

pub opt-has-nothing : (a : Abnf) → IsOf (opt a) []
unfolding chars
opt-has-nothing a = record { utf8 = IsUtf8-nil; has = inl refl }

pub opt-is-had : (a : Abnf) (text : List ℕ) → IsOf a text → IsOf (opt a) text
opt-is-had a text l = record { utf8 = l.utf8; has = inr l.has }

pub times-0-gives : (a : Abnf) (text : List ℕ) → IsOf (times 0 a) text → text ≡ []
times-0-gives a text l = text-of-no-chars text l.utf8 (has-times-0 a (chars text) l.has)

pub times-0-has-nothing : (a : Abnf) → IsOf (times 0 a) []
unfolding chars
times-0-has-nothing a = record { utf8 = IsUtf8-nil; has = (0, omega arith, omega arith, refl) }

-- a code that no letter has in either case is that of one character
letterless-char : (a c : ℕ) → to_ascii_lowercase c ≡ to_ascii_lowercase a
    → ((a < 65) ⊎ ((90 < a) × (a < 97))) → c ≡ a
letterless-char a c e h = grind (arith, nat_tests)

-- none of the codes is that of a letter
abbrev pub IsLetterless : List ℕ → Type 0
IsLetterless [] = Unit {0}
IsLetterless (a ∷ s) = ((a < 65) ⊎ ((90 < a) × (a < 97))) × IsLetterless s

pub letterless-has : (s t : List ℕ) → IsLetterless s
    → map to_ascii_lowercase t ≡ map to_ascii_lowercase s → t ≡ s
letterless-has [] [] w e = refl
letterless-has [] (c ∷ t) w e = absurd (cc e)
letterless-has (a ∷ s) [] w e = absurd (cc e)
letterless-has (a ∷ s) (c ∷ t) w e =
    let p : to_ascii_lowercase c ≡ to_ascii_lowercase a = ap (λ l. get_or l 0 0) e in
    let q : map to_ascii_lowercase t ≡ map to_ascii_lowercase s = ap (drop 1) e in
    ap (λ n. n ∷ t) (letterless-char a c p w.0) ∙ ap (λ r. a ∷ r) (letterless-has s t w.1 q)

pub literal-gives : (s text : List ℕ) → IsLetterless s → IsOf (Literal s) text → chars text ≡ s
literal-gives s text w l = letterless-has s (chars text) w l.has

-- the text is of ASCII characters that are no letters, as delimiters are
pub record IsMark (s : List ℕ) : Type 0 where
  pub letterless : IsLetterless s
  pub scalars : all_scalars s ≡ true
  pub encodes : encode_utf8_all s ≡ s

pub mark-gives : (s : List ℕ) → IsMark s → (text : List ℕ) → IsOf (Literal s) text → text ≡ s
mark-gives s m text l = sym (encodes-chars text l.utf8)
    ∙ ap encode_utf8_all (literal-gives s text m.letterless l) ∙ m.encodes

pub mark-is-had : (s : List ℕ) → IsMark s → IsOf (Literal s) s
mark-is-had s m = grind (arith, nat_tests, chars-encodes)

pub slash-mark : IsMark (codes "/")
unfolding lib.Utf8.encode
slash-mark = record { letterless = (inl (omega arith), tt); scalars = refl; encodes = refl }

pub slashes-mark : IsMark (codes "//")
unfolding lib.Utf8.encode
slashes-mark = grind (arith, nat_tests)

pub colon-mark : IsMark (codes ":")
unfolding lib.Utf8.encode
colon-mark = record { letterless = (inl (omega arith), tt); scalars = refl; encodes = refl }

pub question-mark : IsMark (codes "?")
unfolding lib.Utf8.encode
question-mark = record { letterless = (inl (omega arith), tt); scalars = refl; encodes = refl }

pub hash-mark : IsMark (codes "#")
unfolding lib.Utf8.encode
hash-mark = record { letterless = (inl (omega arith), tt); scalars = refl; encodes = refl }

pub at-mark : IsMark (codes "@")
unfolding lib.Utf8.encode
at-mark = record { letterless = (inl (omega arith), tt); scalars = refl; encodes = refl }

pub open-mark : IsMark (codes "[")
unfolding lib.Utf8.encode
open-mark = record {
  letterless = (inr (omega arith, omega arith), tt);
  scalars = refl;
  encodes =
      refl;
}

pub close-mark : IsMark (codes "]")
unfolding lib.Utf8.encode
close-mark = grind (arith, nat_tests)

pub dot-mark : IsMark (codes ".")
unfolding lib.Utf8.encode
dot-mark = record { letterless = (inl (omega arith), tt); scalars = refl; encodes = refl }
