-- Expressions of one character or one percent-encoded octet.
use Rattle.uri_abnf.proofs.Common.{◌≡◌, ℕ, Bool, true, false, List, [], ◌∷◌, refl, sym, ap, subst, ◌∙◌, rules, ◌||◌, inl, inr, ⊎_elim, arith, ◌≤◌, ◌⊎◌, ◌==◌, map, to_ascii_lowercase, is_ascii_hexdigit, or_cases, eqb-true, false≢true, nat_tests, Abnf, Rule, Literal, Range, Sequence, Either, Repeat, Optional, Has, pct-encoded, HEXDIG, DIGIT}
use Rattle.std.specs.Int.{is_in_range}

-- the expression has the one character c
abbrev pub has_char : Abnf → ℕ → Bool
has_char (Rule name a) c = has_char a c
has_char (Literal []) c = false
has_char (Literal (a ∷ [])) c = to_ascii_lowercase c == to_ascii_lowercase a
has_char (Literal (a ∷ b ∷ more)) c = false
has_char (Range first last) c = is_in_range first last c
has_char (Sequence a b) c = false
has_char (Either a b) c = has_char a c || has_char b c
has_char (Repeat least most a) c = false
has_char (Optional a) c = false

-- the expression, one of `IsElement`, has percent-encoded octets
abbrev pub has_octets : Abnf → Bool
has_octets (Rule name a) = has_octets a
has_octets (Literal text) = false
has_octets (Range first last) = false
has_octets (Sequence a b) = true
has_octets (Either a b) = has_octets a || has_octets b
has_octets (Repeat least most a) = false
has_octets (Optional a) = false

-- the expression is of alternatives that are each one character or a percent-encoded octet
abbrev pub IsElement : Abnf → Type 0
IsElement (Rule name a) = IsElement a
IsElement (Literal []) = ⊥
IsElement (Literal (a ∷ [])) = Unit {0}
IsElement (Literal (a ∷ b ∷ more)) = ⊥
IsElement (Range first last) = Unit {0}
IsElement (Sequence a b) = Rule "pct-encoded" (Sequence a b) ≡ pct-encoded
IsElement (Either a b) = IsElement a × IsElement b
IsElement (Repeat least most a) = ⊥
IsElement (Optional a) = ⊥

-- the text is one character that passes a test
pub record IsOneChar (test : ℕ → Bool) (t : List ℕ) : Type 0 where
  pub c : ℕ
  pub whole : t ≡ c ∷ []
  pub passes : test c ≡ true

-- the text is a percent-encoded octet
pub record IsOctet (t : List ℕ) : Type 0 where
  pub high : ℕ
  pub low : ℕ
  pub whole : t ≡ 37 ∷ high ∷ low ∷ []
  pub high_digit : is_ascii_hexdigit high ≡ true
  pub low_digit : is_ascii_hexdigit low ≡ true

-- a list of one number has it as its only element
only : (a b : ℕ) → a ∷ [] ≡ b ∷ [] → a ≡ b
only a b e = cc

pub literal-gives-char : (a : ℕ) (t : List ℕ) → map to_ascii_lowercase t ≡ to_ascii_lowercase a ∷ []
    → IsOneChar (has_char (Literal (a ∷ []))) t
literal-gives-char a [] e = absurd (cc e)
literal-gives-char a (c ∷ []) e = grind (arith, nat_tests, only)
literal-gives-char a (c ∷ d ∷ t) e = absurd (cc e)

range-test : (first last c : ℕ) → first ≤ c → c ≤ last → is_in_range first last c ≡ true
range-test first last c p q = grind (arith, nat_tests)

test-range : (first last c : ℕ) → is_in_range first last c ≡ true → (first ≤ c) × (c ≤ last)
test-range first last c e = (grind (arith, nat_tests), grind (arith, nat_tests))

-- the digits of HEXDIG, in either case
hexdig-test : (c : ℕ) → has_char HEXDIG c ≡ is_ascii_hexdigit c
unfolding HEXDIG DIGIT
hexdig-test c = grind (arith, nat_tests)

-- general facts of this shape, for an expression whose percent-encoded octets have a property
module _ (IsTriple : List ℕ → Type 0) (triple : (t : List ℕ) → Has pct-encoded t → IsTriple t) where
  element-has : (g : Abnf) → IsElement g → (t : List ℕ) → Has g t
      → IsOneChar (has_char g) t ⊎ ((has_octets g ≡ true) × IsTriple t)
  element-has (Rule name a) w t h = element-has a w t h
  element-has (Literal []) w t h = absurd w
  element-has (Literal (a ∷ [])) w t h = inl (literal-gives-char a t h)
  element-has (Literal (a ∷ b ∷ more)) w t h = absurd w
  element-has (Range first last) w t (c, e, p, q) = grind (arith, nat_tests, range-test)
  element-has (Sequence a b) w t h = inr (refl, triple t (subst (λ g. Has g t) w h))
  element-has (Either a b) w t (inl h) = grind (arith, nat_tests, element-has a w.0 t h)
  element-has (Either a b) w t (inr h) = grind (arith, nat_tests, element-has b w.1 t h)
  element-has (Repeat least most a) w t h = absurd w
  element-has (Optional a) w t h = absurd w

-- an expression of single characters has texts of one character
pub class-has : (g : Abnf) → IsElement g → has_octets g ≡ false → (t : List ℕ) → Has g t
    → IsOneChar (has_char g) t
class-has g w none t h = ⊎_elim (λ k. k) (λ k. absurd (false≢true (sym none ∙ k.0)))
    (element-has (Has pct-encoded) (λ s k. k) g w t h)

-- a test that is passed gives the text of one character
pub char-is-had : (g : Abnf) (c : ℕ) → has_char g c ≡ true → Has g (c ∷ [])
char-is-had (Rule name a) c e = char-is-had a c e
char-is-had (Literal []) c e = absurd (false≢true e)
char-is-had (Literal (a ∷ [])) c e = ap (λ n. n ∷ []) (eqb-true _ _ e)
char-is-had (Literal (a ∷ b ∷ more)) c e = absurd (false≢true e)
char-is-had (Range first last) c e =
    let both = test-range first last c e in (c, refl, both.0, both.1)
char-is-had (Sequence a b) c e = absurd (false≢true e)
char-is-had (Either a b) c e = ⊎_elim (λ k. inl (char-is-had a c k)) (λ k. inr (char-is-had b c k))
    (or_cases _ _ e)
char-is-had (Repeat least most a) c e = absurd (false≢true e)
char-is-had (Optional a) c e = absurd (false≢true e)

is-element-hexdig : IsElement HEXDIG
unfolding HEXDIG DIGIT
is-element-hexdig = search rules

hexdig-has-no-octets : has_octets HEXDIG ≡ false
unfolding HEXDIG DIGIT
hexdig-has-no-octets = refl

pub hexdig-has : (t : List ℕ) → Has HEXDIG t → IsOneChar is_ascii_hexdigit t
hexdig-has t h =
    grind (arith, nat_tests, class-has, is-element-hexdig, hexdig-has-no-octets, hexdig-test)

pub hexdig-is-had : (c : ℕ) → is_ascii_hexdigit c ≡ true → Has HEXDIG (c ∷ [])
hexdig-is-had c e = char-is-had HEXDIG c (hexdig-test c ∙ e)

-- a literal that no letter is in has itself only
percent-has : (t : List ℕ) → Has (Literal (37 ∷ [])) t → t ≡ 37 ∷ []
percent-has t h =
    let k = literal-gives-char 37 t h in
    let e : to_ascii_lowercase k.c ≡ 37 = eqb-true _ _ k.passes in
    let same : k.c ≡ 37 = grind (arith, nat_tests) in
    k.whole ∙ ap (λ n. n ∷ []) same

octet-has : (t : List ℕ) → Has pct-encoded t → IsOctet t
unfolding pct-encoded
octet-has t (x, y, e, px, (u, v, f, hu, hv)) =
    let p : x ≡ 37 ∷ [] = percent-has x px in
    let a = hexdig-has u hu in
    let b = hexdig-has v hv in
    grind (arith, nat_tests)

pub octet-is-had : (h l : ℕ) → is_ascii_hexdigit h ≡ true → is_ascii_hexdigit l ≡ true
    → Has pct-encoded (37 ∷ h ∷ l ∷ [])
unfolding pct-encoded
octet-is-had h l p q =
    (37 ∷ [], h ∷ l ∷ [], refl, refl, (h ∷ [], l ∷ [], refl, hexdig-is-had h p, hexdig-is-had l q))

pub element-gives : (g : Abnf) → IsElement g → (t : List ℕ) → Has g t
    → IsOneChar (has_char g) t ⊎ ((has_octets g ≡ true) × IsOctet t)
element-gives = element-has IsOctet octet-has

pub element-has-octet : (g : Abnf) → IsElement g → has_octets g ≡ true → (t : List ℕ)
    → Has pct-encoded t → Has g t
element-has-octet (Rule name a) w e t h = element-has-octet a w e t h
element-has-octet (Literal text) w e t h = absurd (false≢true e)
element-has-octet (Range first last) w e t h = absurd (false≢true e)
element-has-octet (Sequence a b) w e t h = subst (λ g. Has g t) (sym w) h
element-has-octet (Either a b) w e t h = ⊎_elim (λ k. inl (element-has-octet a w.0 k t h))
    (λ k. inr (element-has-octet b w.1 k t h)) (or_cases _ _ e)
element-has-octet (Repeat least most a) w e t h = absurd w
element-has-octet (Optional a) w e t h = absurd w
